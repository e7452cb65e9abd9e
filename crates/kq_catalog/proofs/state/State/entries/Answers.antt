use Rattle.std.proofs.Common.{◌∙◌, List, length, ap, subst, arith}
use Rattle.kq_catalog_journal.specs.declared.policy.Entry.{Entry}
use Rattle.kq_catalog_journal.specs.History.{log}
use Rattle.kq_catalog_journal.specs.Force.{policy_at}
use Rattle.kq_catalog_journal.proofs.Policies.{length-policies}
use Rattle.kq_catalog.specs.Seen.{CatalogView, Sound, hist}
use Rattle.kq_catalog.proofs.state.State.entries.Goals as goal

pub entries-requires : goal.entries-requires
entries-requires c =
    let v = c.args.self.now in
    let sound : Sound v = subst Sound c.self.view_is c.self.invariant.sound in
    let held = ap (λ (w : CatalogView). length w.policies) c.self.view_is in
    let same = ap (λ (ps : List (List Entry)). length ps) sound.policies in
    omega (arith, held, same, c.requires, length-policies (log (hist v)))

pub returns : goal.returns
returns c =
    let v = c.args.self.now in
    let sound : Sound v = subst Sound c.self.view_is c.self.invariant.sound in
    c.entries.ensures ∙ ap (λ (w : CatalogView). policy_at w.policies c.args.table) c.self.view_is ∙ ap (λ (ps : List (List Entry)). policy_at ps c.args.table) sound.policies
