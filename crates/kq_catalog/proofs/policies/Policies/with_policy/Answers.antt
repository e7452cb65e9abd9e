use Rattle.std.proofs.Common.{◌<◌, ◌∙◌, List, length, slice_set, ap, arith}
use Rattle.kq_catalog_journal.specs.declared.policy.Entry.{Entry}
use Rattle.kq_catalog_journal.specs.Policies.{with_policy}
use Rattle.kq_catalog.proofs.Putting.{set-any}
use Rattle.kq_catalog.proofs.policies.Policies.with_policy.Goals as goal

pub returns : goal.returns
returns c =
    let held = c.self.inside.held in
    let n = c.args.table in
    let within : n < length held = let same = ap (λ (hs : List (List Entry)). length hs) c.self.view_is in omega (arith, same, c.requires.stands) in
    c.in_ok-set.ensures.ok ∙ ap (λ (es : List Entry). slice_set c.in_ok-held.held n es) (c.in_ok-new.ensures.ok ∙ c.in_ok-share.ensures)
    ∙ ap (λ (hs : List (List Entry)). slice_set hs n c.args.entries.now) c.in_ok-held.ensures ∙ set-any n held c.args.entries.now within
    ∙ ap (with_policy n c.args.entries.now) c.self.view_is
