-- The commits of a history stand in it one after another, and an outcome with `own` is one of them.
use Rattle.std.proofs.Common.{◌≡◌, ◌<◌, ◌≤◌, ◌⊎◌, ℕ, ℤ, ◌+◌, true, List, [], ◌∷◌, ◌++◌, length, map, take, drop, refl, ap, sym, ◌∙◌, subst, arith, inl, inr, append_assoc, add-zero, take-append-drop, length-take}
use Rattle.std.proofs.lemmas.List.{length_push}
use Rattle.kq_catalog_journal.specs.declared.event.By.{By}
use Rattle.kq_catalog_journal.specs.declared.event.Commit.{Commit}
use Rattle.kq_catalog_journal.specs.declared.event.Event.{Event}
use Rattle.kq_catalog_journal.specs.declared.event.Operation.{Operation}
use Rattle.kq_catalog_journal.specs.declared.event.Operation.TheVariants as operation
use Rattle.kq_catalog_journal.specs.declared.limits.Limits.{Limits}
use Rattle.kq_catalog_journal.specs.History.{History, Log, CommitAt, commits_of, commit_at, commits_from, commits_at}
use Rattle.kq_catalog_journal.proofs.Histories.{commits_at-push}
use Rattle.kq_read_commands.specs.declared.command.Command.{Command}
use Rattle.kq_reply.specs.declared.reply.Reply.{Reply}
use Rattle.kq_engine_prepare.specs.Fits.{Fits}

abbrev pub IsIn : CommitAt → List CommitAt → Type 0
IsIn m [] = ⊥
IsIn m (x ∷ xs) = (m ≡ x) ⊎ IsIn m xs

-- the places rise from above q
abbrev pub IsRising : ℕ → List CommitAt → Type 0
IsRising q [] = Unit {0}
IsRising q (m ∷ ms) = (q < m.place) × IsRising m.place ms

IsRising-below : (p q : ℕ) (ms : List CommitAt) → p ≤ q → IsRising q ms → IsRising p ms
IsRising-below p q [] below rising = tt
IsRising-below p q (m ∷ ms) below rising = (omega (arith, below, rising.0), rising.1)

one_or_none : (o : Operation) → length (commits_of o) ≤ 1
one_or_none (operation.Commit c) = omega arith
one_or_none (operation.Fold view to) = omega arith
one_or_none (operation.Merge table ids new) = omega arith

rising_by : (by : By) (n : ℕ) (cs : Log) (ms : List CommitAt) → length cs ≤ 1 → IsRising (n + 1) ms → IsRising n (map (λ (c : Commit). let m : CommitAt = record { place = n + 1; by = by } in m) cs ++ ms)
rising_by by n [] ms few rising = IsRising-below n (n + 1) ms (omega arith) rising
rising_by by n (c ∷ []) ms few rising = (omega arith, rising)
rising_by by n (c ∷ d ∷ cs) ms few rising = absurd (omega (arith, few))

rising_from : (n : ℕ) (h : History) → IsRising n (commits_from n h)
rising_from n [] = tt
rising_from n (e ∷ h) = rising_by e.by n (commits_of e.operation) (commits_from (n + 1) h) (one_or_none e.operation) (rising_from (n + 1) h)

pub commits_at-rising : (h : History) → IsRising 0 (commits_at h)
commits_at-rising h = rising_from 0 h

commits_from-append : (n : ℕ) (h more : History) → commits_from n (h ++ more) ≡ commits_from n h ++ commits_from (n + length h) more
commits_from-append n [] more = ap (λ (k : ℕ). commits_from k more) (sym (add-zero n))
commits_from-append n (e ∷ h) more =
    let same : n + 1 + length h ≡ n + length (e ∷ h) = omega arith in
    ap (λ (l : List CommitAt). commit_at e (n + 1) ++ l) (commits_from-append (n + 1) h more ∙ ap (λ (k : ℕ). commits_from (n + 1) h ++ commits_from k more) same)
    ∙ sym (append_assoc (commit_at e (n + 1)) (commits_from (n + 1) h) _)

IsIn-front : (m : CommitAt) (ms more : List CommitAt) → IsIn m ms → IsIn m (ms ++ more)
IsIn-front m [] more here = absurd here
IsIn-front m (x ∷ ms) more (inl same) = inl same
IsIn-front m (x ∷ ms) more (inr later) = inr (IsIn-front m ms more later)

IsIn-last : (m : CommitAt) (ms : List CommitAt) → IsIn m (ms ++ m ∷ [])
IsIn-last m [] = inl refl
IsIn-last m (x ∷ ms) = inr (IsIn-last m ms)

-- the commit of a reply with `own` stands at its place, under its request id
pub Fits-own : (limits : Limits) (h : History) (request : By) (command : Command) (now : ℤ) (place : ℕ) (reply : Reply) → Fits limits h request command now place true reply → IsIn (record { place = place; by = request }) (commits_at h)
Fits-own limits h request command now place reply fits =
    let before = fits.at.0 in
    let e : Event = record { by = request; operation = operation.Commit fits.at.1 } in
    let front : take place h ≡ before ++ e ∷ [] = fits.at.2 in
    let long : length (take place h) ≡ length before + 1 = ap length front ∙ length_push before e in
    let at : length before + 1 ≡ place = omega (arith, long, length-take place h, fits.within) in
    let whole : commits_at (take place h) ++ commits_from (0 + length (take place h)) (drop place h) ≡ commits_at h = sym (commits_from-append 0 (take place h) (drop place h)) ∙ ap commits_at (take-append-drop place h) in
    let last : commits_at (take place h) ≡ commits_at before ++ record { place = place; by = request } ∷ [] = ap commits_at front ∙ commits_at-push before e ∙ ap (λ (n : ℕ). commits_at before ++ commit_at e n) at in
    subst (IsIn (record { place = place; by = request })) whole (IsIn-front _ (commits_at (take place h)) _ (subst (IsIn (record { place = place; by = request })) (sym last) (IsIn-last _ (commits_at before))))
