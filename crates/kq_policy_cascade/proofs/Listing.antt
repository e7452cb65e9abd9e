-- The enabled entries, and those of them that are in force.
use Rattle.std.proofs.Common.{◌≡◌, ◌+◌, ◌&&◌, ℕ, Bool, true, false, cond, List, [], ◌∷◌, ◌++◌, nat_eq, refl, ap, sym, ◌∙◌}
use Rattle.std.specs.List.{filter}
use Rattle.std.proofs.lemmas.List.Elements.{filter-append}
use Rattle.kq_catalog_journal.specs.declared.policy.Due.{Due}
use Rattle.kq_catalog_journal.specs.declared.policy.Entry.{Entry}
use Rattle.kq_catalog_journal.specs.Enabled.{enabled_in, enabled_from, enabled}
use Rattle.kq_catalog_journal.specs.Force.{due, in_policy, in_force_from, in_force}
use Rattle.kq_policy_cascade.specs.Steps.{left}

step : (source : ℕ) (enabled : Bool) (d : Due) (xs ys : List Due) → filter (λ (d : Due). nat_eq d.source source) xs ≡ ys
    → filter (λ (d : Due). nat_eq d.source source) (cond enabled (d ∷ xs) xs) ≡ cond (enabled && nat_eq d.source source) (d ∷ ys) ys
step source true d xs ys e = ap (λ (zs : List Due). cond (nat_eq d.source source) (d ∷ zs) zs) e
step source false d xs ys e = e

filter-enabled_in : (source target place : ℕ) (es : List Entry) → filter (λ (d : Due). nat_eq d.source source) (enabled_in target place es) ≡ in_policy source target place es
filter-enabled_in source target place [] = refl
filter-enabled_in source target place (e ∷ es) = step source e.enabled (due target place e) (enabled_in target (place + 1) es) (in_policy source target (place + 1) es) (filter-enabled_in source target (place + 1) es)

filter-enabled_from : (source target : ℕ) (policies : List (List Entry)) → filter (λ (d : Due). nat_eq d.source source) (enabled_from target policies) ≡ in_force_from source target policies
filter-enabled_from source target [] = refl
filter-enabled_from source target (es ∷ policies) =
    filter-append (λ (d : Due). nat_eq d.source source) (enabled_in target 0 es) (enabled_from (target + 1) policies)
    ∙ ap (λ (xs : List Due). xs ++ filter (λ (d : Due). nat_eq d.source source) (enabled_from (target + 1) policies)) (filter-enabled_in source target 0 es)
    ∙ ap (λ (xs : List Due). in_policy source target 0 es ++ xs) (filter-enabled_from source (target + 1) policies)

-- those in force for a source are the enabled ones that name it
pub left-enabled : (policies : List (List Entry)) (source : ℕ) → in_force policies source ≡ left (enabled policies) source 0
left-enabled policies source = sym (filter-enabled_from source 0 policies)
