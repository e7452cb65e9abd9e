-- The enabled entries of all policies.
use Rattle.std.specs.Prelude.{ℕ, ◌+◌, List, [], ◌∷◌, ◌++◌, if◌then◌else◌}
use Rattle.kq_catalog_journal.specs.declared.policy.Due.{Due}
use Rattle.kq_catalog_journal.specs.declared.policy.Entry.{Entry}
use Rattle.kq_catalog_journal.specs.Force.{due}

-- of one policy, in array order, by its target and the place of the first
abbrev pub enabled_in : ℕ → ℕ → List Entry → List Due
enabled_in target place [] = []
enabled_in target place (e ∷ es) = if e.enabled then due target place e ∷ enabled_in target (place + 1) es else enabled_in target (place + 1) es

abbrev pub enabled_from : ℕ → List (List Entry) → List Due
enabled_from target [] = []
enabled_from target (policy ∷ policies) = enabled_in target 0 policy ++ enabled_from (target + 1) policies

-- of all policies, targets in the order of their creation
abbrev pub enabled : List (List Entry) → List Due
enabled = enabled_from 0
