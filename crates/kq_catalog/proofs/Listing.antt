-- The enabled entries, listed one after another.
use Rattle.std.proofs.Common.{◌≡◌, ◌<◌, ◌+◌, ℕ, List, [], ◌++◌, length, drop, get_or, ap, sym, ◌∙◌, append_assoc}
use Rattle.std.proofs.lemmas.List.{at_drop_more}
use Rattle.kq_catalog_journal.specs.declared.policy.Due.{Due}
use Rattle.kq_catalog_journal.specs.declared.policy.Entry.{Entry}
use Rattle.kq_catalog_journal.specs.Enabled.{enabled_in, enabled_from}

-- one more policy
pub enabled_from-next : (target : ℕ) (policies : List (List Entry)) → target < length policies
    → enabled_from target (drop target policies) ≡ enabled_in target 0 (get_or policies target []) ++ enabled_from (target + 1) (drop (target + 1) policies)
enabled_from-next target policies within = at_drop_more (enabled_from target) policies target [] within

-- of all policies, those up to a target
pub listed-policy : (all dues more : List Due) (target : ℕ) (policies : List (List Entry)) → target < length policies → more ≡ dues ++ enabled_in target 0 (get_or policies target [])
    → all ≡ dues ++ enabled_from target (drop target policies) → all ≡ more ++ enabled_from (target + 1) (drop (target + 1) policies)
listed-policy all dues more target policies within is so_far =
    let rest = enabled_from (target + 1) (drop (target + 1) policies) in
    so_far ∙ ap (λ (xs : List Due). dues ++ xs) (enabled_from-next target policies within) ∙ sym (append_assoc dues (enabled_in target 0 (get_or policies target [])) rest) ∙ ap (λ (xs : List Due). xs ++ rest) (sym is)
