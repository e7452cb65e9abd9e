-- The policy of a table where one was set.
use Rattle.std.proofs.Common.{◌≡◌, ◌≢◌, ◌<◌, ◌≤◌, ◌⊎◌, inl, inr, ℕ, zero, suc, List, [], ◌∷◌, length, refl, ap, sym, ◌∙◌, arith}
use Rattle.kq_catalog_journal.specs.declared.policy.Entry.{Entry}
use Rattle.kq_catalog_journal.specs.declared.table.Table.{Table}
use Rattle.kq_catalog_journal.specs.Force.{policy_at}
use Rattle.kq_catalog_journal.specs.History.{Log, tables}
use Rattle.kq_catalog_journal.specs.Policies.{policies, with_policy}
use Rattle.kq_catalog_journal.proofs.Changed.{length-changed}
use Rattle.kq_catalog_journal.proofs.Policies.{length-policies, policy-set}

past : (ps : List (List Entry)) (t : ℕ) → length ps ≤ t → policy_at ps t ≡ []
past [] t within = refl
past (p ∷ ps) zero within = absurd (omega (arith, within))
past (p ∷ ps) (suc t) within = past ps t (omega (arith, within))

-- what is no table has none
pub set-past : (l : Log) (target : ℕ) (entries : List Entry) (t : ℕ) → length (tables l) ≤ t → policy_at (with_policy target entries (policies l)) t ≡ []
set-past l target entries t within =
    let same = length-changed (λ (before : List Entry). entries) target (policies l) in
    let each = length-policies l in
    past (with_policy target entries (policies l)) t (omega (arith, within, same, each))

here : (ps : List (List Entry)) (t : ℕ) (entries : List Entry) → t < length ps → policy_at (with_policy t entries ps) t ≡ entries
here [] t entries within = absurd (omega (arith, within))
here (p ∷ ps) zero entries within = refl
here (p ∷ ps) (suc t) entries within = here ps t entries (omega (arith, within))

-- the target has these
pub set-here : (l : Log) (target : ℕ) (entries : List Entry) → target < length (tables l) → policy_at (with_policy target entries (policies l)) target ≡ entries
set-here l target entries within = let each = length-policies l in here (policies l) target entries (omega (arith, within, each))

-- and another table its own
pub set-other : (l : Log) (target : ℕ) (entries : List Entry) (t : ℕ) → t ≢ target → policy_at (with_policy target entries (policies l)) t ≡ policy_at (policies l) t
set-other l target entries t other = by_case (policy-set target entries (policies l) t)
  where
    by_case : (policy_at (with_policy target entries (policies l)) t ≡ policy_at (policies l) t) ⊎ ((t ≡ target) × (policy_at (with_policy target entries (policies l)) t ≡ entries))
        → policy_at (with_policy target entries (policies l)) t ≡ policy_at (policies l) t
    by_case (inl same) = same
    by_case (inr is) = absurd (other is.0)
