use Rattle.std.proofs.Common.{rules, ◌≡◌, ◌<◌, ◌++◌, ◌∙◌, [], List, length, get_or, ap, sym}
use Rattle.std.proofs.lemmas.Option.{get_or_from_slice_get}
use Rattle.kq_catalog_journal.specs.declared.policy.Entry.{Entry}
use Rattle.kq_catalog_journal.specs.Enabled.{enabled, enabled_in}
use Rattle.kq_catalog.proofs.Listing.{listed-policy}
use Rattle.kq_catalog.proofs.enabled.enabled.Goals as goal

pub loop-target-preserved : goal.loop-target-preserved
loop-target-preserved c =
    let policies = c.args.policies.now in
    let target = c.loop-target.target in
    let dues = c.loop-target.dues.items in
    let within : target < length policies = search rules in
    let entries : c.as_slice.result.now ≡ get_or policies target [] = c.as_slice.ensures ∙ sym (get_or_from_slice_get policies target c.get.result.now [] c.get.ensures) in
    let is : c.add_policy.new.dues.items ≡ dues ++ enabled_in target 0 (get_or policies target []) =
    c.in_ok-add_policy.ensures ∙ ap (λ (es : List Entry). dues ++ enabled_in target 0 es) entries in
    listed-policy (enabled policies) dues c.add_policy.new.dues.items target policies within is c.loop-target.invariant
