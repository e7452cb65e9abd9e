-- The policies of a longer log, and the entries that are in force.
use Rattle.std.proofs.Common.{◌≡◌, ◌⊎◌, inl, inr, ◌+◌, ℕ, zero, suc, List, [], ◌∷◌, ◌++◌, length, refl, ap, sym, ◌∙◌, add-zero, zero-add, append_assoc, append-nil, arith, subst}
use Rattle.std.proofs.lemmas.List.{length_push}
use Rattle.kq_catalog_journal.specs.declared.batch.Noted.{Noted}
use Rattle.kq_catalog_journal.specs.declared.event.Commit.{Commit}
use Rattle.kq_catalog_journal.specs.declared.event.Commit.TheVariants.{CreateTable, SetPolicy, CreateView, AlterMerge, Ingest}
use Rattle.kq_catalog_journal.specs.declared.policy.Due.{Due}
use Rattle.kq_catalog_journal.specs.declared.policy.Entry.{Entry}
use Rattle.kq_catalog_journal.specs.declared.table.Table.{Table}
use Rattle.kq_catalog_journal.specs.Enabled.{enabled, enabled_from, enabled_in}
use Rattle.kq_catalog_journal.specs.Force.{policy_at}
use Rattle.kq_catalog_journal.specs.History.{Log, tables, tables_from, tables_with, widened_table}
use Rattle.kq_catalog_journal.specs.Policies.{noted, noted_by, noted_from, policies, policies_from, policies_with, with_policy}
use Rattle.kq_catalog_journal.proofs.Changed.{length-changed}

policies_from-push : (ps : List (List Entry)) (l : Log) (c : Commit) → policies_from ps (l ++ c ∷ []) ≡ policies_with c (policies_from ps l)
policies_from-push ps [] c = refl
policies_from-push ps (x ∷ l) c = policies_from-push (policies_with x ps) l c

pub policies-push : (l : Log) (c : Commit) → policies (l ++ c ∷ []) ≡ policies_with c (policies l)
policies-push l c = policies_from-push [] l c

-- a policy for each table
one_each : (at : ℕ) (c : Commit) (ts : List Table) (ps : List (List Entry)) → length ps ≡ length ts → length (policies_with c ps) ≡ length (tables_with at c ts)
one_each at (CreateTable name schema) ts ps same =
    let t : Table = record { name = name; schema = schema; made = at; widened = at } in
    length_push ps [] ∙ ap (λ (n : ℕ). n + 1) same ∙ sym (length_push ts t)
one_each at (SetPolicy table entries) ts ps same = length-changed (λ (before : List Entry). entries) table ps ∙ same
one_each at (CreateView view) ts ps same = same
one_each at (AlterMerge table columns) ts ps same = same ∙ sym (length-changed (widened_table at columns) table ts)
one_each at (Ingest batches failures) ts ps same = same

each_from : (n : ℕ) (ts : List Table) (ps : List (List Entry)) (l : Log) → length ps ≡ length ts → length (policies_from ps l) ≡ length (tables_from n ts l)
each_from n ts ps [] same = same
each_from n ts ps (c ∷ l) same = each_from (n + 1) (tables_with (n + 1) c ts) (policies_with c ps) l (one_each (n + 1) c ts ps same)

pub length-policies : (l : Log) → length (policies l) ≡ length (tables l)
length-policies l = each_from 0 [] [] l refl

-- a new table has no entries, as a number that no table has
pub new-empty : (ps : List (List Entry)) (t : ℕ) → policy_at (ps ++ [] ∷ []) t ≡ policy_at ps t
new-empty [] zero = refl
new-empty [] (suc t) = refl
new-empty (p ∷ ps) zero = refl
new-empty (p ∷ ps) (suc t) = new-empty ps t

-- a policy that was set is its table's, and the others stay
pub policy-set : (table : ℕ) (entries : List Entry) (ps : List (List Entry)) (t : ℕ) → (policy_at (with_policy table entries ps) t ≡ policy_at ps t) ⊎ ((t ≡ table) × (policy_at (with_policy table entries ps) t ≡ entries))
policy-set table entries [] t = inl refl
policy-set zero entries (p ∷ ps) zero = inr (refl, refl)
policy-set zero entries (p ∷ ps) (suc t) = inl refl
policy-set (suc k) entries (p ∷ ps) zero = inl refl
policy-set (suc k) entries (p ∷ ps) (suc t) = by_rest (policy-set k entries ps t)
  where
    by_rest : (policy_at (with_policy k entries ps) t ≡ policy_at ps t) ⊎ ((t ≡ k) × (policy_at (with_policy k entries ps) t ≡ entries))
        → (policy_at (with_policy (suc k) entries (p ∷ ps)) (suc t) ≡ policy_at (p ∷ ps) (suc t)) ⊎ ((suc t ≡ suc k) × (policy_at (with_policy (suc k) entries (p ∷ ps)) (suc t) ≡ entries))
    by_rest (inl same) = inl same
    by_rest (inr here) = inr (ap (λ (n : ℕ). suc n) here.0, here.1)

-- ---- enabled entries

enabled_from-new : (target : ℕ) (ps : List (List Entry)) → enabled_from target (ps ++ [] ∷ []) ≡ enabled_from target ps
enabled_from-new target [] = refl
enabled_from-new target (p ∷ ps) = ap (λ (ds : List Due). enabled_in target 0 p ++ ds) (enabled_from-new (target + 1) ps)

-- a new table adds none
pub enabled-new : (ps : List (List Entry)) → enabled (ps ++ [] ∷ []) ≡ enabled ps
enabled-new ps = enabled_from-new 0 ps

-- ---- failures

noted_from-push : (n : ℕ) (l : Log) (c : Commit) → noted_from n (l ++ c ∷ []) ≡ noted_from n l ++ noted_by (n + length l + 1) c
noted_from-push n [] c = append-nil (noted_by (n + 1) c) ∙ ap (λ (k : ℕ). noted_by (k + 1) c) (sym (add-zero n))
noted_from-push n (x ∷ l) c =
    let same : n + 1 + length l + 1 ≡ n + length (x ∷ l) + 1 = omega arith in
    ap (λ (ns : List Noted). noted_by (n + 1) x ++ ns) (noted_from-push (n + 1) l c ∙ ap (λ (k : ℕ). noted_from (n + 1) l ++ noted_by k c) same)
    ∙ sym (append_assoc (noted_by (n + 1) x) (noted_from (n + 1) l) (noted_by (n + length (x ∷ l) + 1) c))

pub noted-push : (l : Log) (c : Commit) → noted (l ++ c ∷ []) ≡ noted l ++ noted_by (length l + 1) c
noted-push l c = subst (λ (k : ℕ). noted (l ++ c ∷ []) ≡ noted l ++ noted_by (k + 1) c) (zero-add (length l)) (noted_from-push 0 l c)
