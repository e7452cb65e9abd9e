-- Which entries of update policies run for a batch.
use Rattle.std.specs.Prelude.{◌≡◌, ◌+◌, ◌&&◌, ℕ, Bool, true, List, [], ◌∷◌, ◌++◌, Some, nat_eq, if◌then◌else◌, slice_index_or, slice_get}
use Rattle.kq_value.specs.declared.schema.Field.{Field}
use Rattle.kq_catalog_journal.specs.declared.policy.Due.{Due}
use Rattle.kq_catalog_journal.specs.declared.policy.Entry.{Entry}

-- what a cascade goes by: the columns of each table by its number, and the policy of each table in the order of creation, as its entries in array
-- order
pub record Rules : Type 0 where
  pub columns : ℕ → List Field
  pub policies : List (List Entry)

-- the policy of a table by its number; a number that no table has has none
abbrev pub policy_at : List (List Entry) → ℕ → List Entry
policy_at policies target = slice_index_or policies target []

-- the entry at a place of a target's policy
abbrev pub due : ℕ → ℕ → Entry → Due
due target place e = record { target = target; place = place; source = e.source; transactional = e.transactional; propagate = e.propagate }

-- whether an entry runs for a batch of the source
abbrev pub runs_for : ℕ → Entry → Bool
runs_for source e = e.enabled && nat_eq e.source source

-- the entries of one policy that do, in array order
abbrev pub in_policy : ℕ → ℕ → ℕ → List Entry → List Due
in_policy source target place [] = []
in_policy source target place (e ∷ es) = if runs_for source e then due target place e ∷ in_policy source target (place + 1) es else in_policy source target (place + 1) es

abbrev pub in_force_from : ℕ → ℕ → List (List Entry) → List Due
in_force_from source target [] = []
in_force_from source target (policy ∷ policies) = in_policy source target 0 policy ++ in_force_from source (target + 1) policies

-- the entries that run for a batch of the source: targets in the order of their creation, and entries in array order
abbrev pub in_force : List (List Entry) → ℕ → List Due
in_force policies source = in_force_from source 0 policies

-- an enabled entry of its target's policy
pub record IsStanding (policies : List (List Entry)) (d : Due) : Type 0 where
  pub entry : Entry
  pub stands : slice_get (policy_at policies d.target) d.place ≡ Some entry
  pub enabled : entry.enabled ≡ true
  pub is : d ≡ due d.target d.place entry
