-- How many commits a history has, and how many one outcome made.
use Rattle.std.proofs.Common.{◌≡◌, ℕ, ◌+◌, Bool, true, false, cond, count_by, [], ◌∷◌, ◌++◌, length, refl, ap, sym, ◌∙◌, arith, length-append}
use Rattle.std.proofs.lemmas.List.{length-map}
use Rattle.std.proofs.lemmas.List.Sums.{sum_by-cons}
use mathlib.Core.List.{IsPrefix}
use Rattle.kq_lock.specs.Histories.{gained}
use Rattle.kq_lock.proofs.Beginnings.{append-gained}
use Rattle.kq_catalog_journal.specs.declared.event.By.{By}
use Rattle.kq_catalog_journal.specs.declared.event.Commit.{Commit}
use Rattle.kq_catalog_journal.specs.declared.event.Event.{Event}
use Rattle.kq_catalog_journal.specs.declared.event.Operation.{Operation}
use Rattle.kq_catalog_journal.specs.declared.event.Operation.TheVariants as operation
use Rattle.kq_catalog_journal.specs.History.{History, CommitAt, log, cursor, commits_of, commit_at, commits_from, commits_at}
use Rattle.kq_catalog_journal.proofs.Histories.{log-append}
use Rattle.kq_engine_prepare.specs.Fits.{own_commit}
use Rattle.kq_engine.specs.Shared.{commit_count}

length-commits_from : (n : ℕ) (h : History) → length (commits_from n h) ≡ cursor h
length-commits_from n [] = refl
length-commits_from n (e ∷ h) =
    length-append (commit_at e (n + 1)) (commits_from (n + 1) h)
    ∙ ap (λ (k : ℕ). length (commit_at e (n + 1)) + k) (length-commits_from (n + 1) h)
    ∙ ap (λ (k : ℕ). k + cursor h) (length-map (commits_of e.operation) (λ (c : Commit). let m : CommitAt = record { place = n + 1; by = e.by } in m))
    ∙ sym (length-append (commits_of e.operation) (log h))

-- as many as the cursor says
pub length-commits_at : (h : History) → length (commits_at h) ≡ cursor h
length-commits_at h = length-commits_from 0 h

pub length-own_commit : (own : Bool) (place : ℕ) (by : By) → length (own_commit own place by) ≡ commit_count own
length-own_commit true place by = refl
length-own_commit false place by = refl

pub cursor-append : (h more : History) → cursor (h ++ more) ≡ cursor h + cursor more
cursor-append h more = ap length (log-append h more) ∙ length-append (log h) (log more)

-- what a history gained has just the commits of the outcome that it gained them by
pub cursor-gained : (old new : History) (own : Bool) (place : ℕ) (by : By) → IsPrefix old new → commits_at new ≡ commits_at old ++ own_commit own place by → cursor (gained old new) ≡ commit_count own
cursor-gained old new own place by begins commits =
    let whole : cursor old + cursor (gained old new) ≡ cursor new = sym (cursor-append old (gained old new)) ∙ ap cursor (append-gained old new begins) in
    let more : cursor new ≡ length (commits_at old) + commit_count own = sym (length-commits_at new) ∙ ap length commits ∙ length-append (commits_at old) (own_commit own place by) ∙ ap (λ (k : ℕ). length (commits_at old) + k) (length-own_commit own place by) in
    let before : length (commits_at old) ≡ cursor old = length-commits_at old in
    omega (arith, whole, more, before)

-- ---- the commits among events

abbrev is_commit : Operation → Bool
is_commit (operation.Commit c) = true
is_commit (operation.Fold view to) = false
is_commit (operation.Merge table ids new) = false

abbrev pub is_commit_event : Event → Bool
is_commit_event e = is_commit e.operation

one_commit : (o : Operation) → length (commits_of o) ≡ cond (is_commit o) 1 0
one_commit (operation.Commit c) = refl
one_commit (operation.Fold view to) = refl
one_commit (operation.Merge table ids new) = refl

-- as many as there are events that are commits
pub commits_counted : (h : History) → cursor h ≡ count_by is_commit_event h
commits_counted [] = refl
commits_counted (e ∷ h) =
    let rest = commits_counted h in
    let one = one_commit e.operation in
    let whole = length-append (commits_of e.operation) (log h) in
    let counted = sum_by-cons (λ (x : Event). cond (is_commit x.operation) 1 0) e h in
    omega (arith, rest, one, whole, counted)
