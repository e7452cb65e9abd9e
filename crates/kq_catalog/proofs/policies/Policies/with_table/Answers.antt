use Rattle.std.proofs.Common.{◌≡◌, ◌++◌, ◌∷◌, ◌∙◌, [], List, ap, sym}
use Rattle.kq_catalog_journal.specs.declared.policy.Entry.{Entry}
use Rattle.kq_catalog_journal.specs.Enabled.{enabled}
use Rattle.kq_catalog_journal.proofs.Policies.{enabled-new}
use Rattle.kq_catalog.proofs.policies.Policies.with_table.Goals as goal

pub invariant_of-result : goal.invariant_of-result
invariant_of-result c =
    let held = c.self.inside.held in
    let made : c.push.new.self ≡ held ++ [] ∷ [] =
    c.in_ok-push.ensures.ok ∙ ap (λ (es : List Entry). c.in_ok-held.held ++ es ∷ []) (c.in_ok-new.ensures.ok ∙ c.in_ok-none.ensures ∙ c.new.ensures.items)
    ∙ ap (λ (hs : List (List Entry)). hs ++ [] ∷ []) c.in_ok-held.ensures in
    ap (λ ds. ds.items) c.in_ok-dues.ensures ∙ c.self.invariant ∙ sym (enabled-new held) ∙ ap enabled (sym made)
