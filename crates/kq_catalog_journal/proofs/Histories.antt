-- A history with one more event.
use Rattle.std.proofs.Common.{◌≡◌, ℕ, ◌+◌, List, [], ◌∷◌, ◌++◌, length, refl, ap, sym, ◌∙◌, subst, append_assoc, append-nil, arith, add-zero, zero-add}
use Rattle.kq_catalog_journal.specs.declared.limits.Limits.{Limits}
use Rattle.kq_catalog_journal.specs.declared.table.Table.{Table}
use Rattle.kq_catalog_journal.specs.declared.event.Commit.{Commit}
use Rattle.kq_catalog_journal.specs.declared.event.Event.{Event}
use Rattle.kq_catalog_journal.specs.History.{History, Log, log, commits_of, tables, tables_from, tables_with, Viewed, views, views_by, views_from, commit_at, commits_from, commits_at}
use Rattle.kq_catalog_journal.specs.Lawful.{Lawful, AreLawful, AreLawfulAfter}

pub log-append : (h more : History) → log (h ++ more) ≡ log h ++ log more
log-append [] more = refl
log-append (e ∷ h) more = ap (λ l. commits_of e.operation ++ l) (log-append h more) ∙ sym (append_assoc (commits_of e.operation) (log h) (log more))

pub log-push : (h : History) (e : Event) → log (h ++ e ∷ []) ≡ log h ++ commits_of e.operation
log-push h e = log-append h (e ∷ []) ∙ ap (λ l. log h ++ l) (append-nil (commits_of e.operation))

pub tables_from-push : (n : ℕ) (made : List Table) (l : Log) (c : Commit) → tables_from n made (l ++ c ∷ []) ≡ tables_with (n + length l + 1) c (tables_from n made l)
tables_from-push n made [] c = ap (λ k. tables_with (k + 1) c made) (sym (add-zero n))
tables_from-push n made (x ∷ l) c =
    let same : n + 1 + length l + 1 ≡ n + length (x ∷ l) + 1 = omega arith in
    tables_from-push (n + 1) (tables_with (n + 1) x made) l c ∙ ap (λ k. tables_with k c (tables_from (n + 1) (tables_with (n + 1) x made) l)) same

pub tables-push : (l : Log) (c : Commit) → tables (l ++ c ∷ []) ≡ tables_with (length l + 1) c (tables l)
tables-push l c = subst (λ (k : ℕ). tables (l ++ c ∷ []) ≡ tables_with (k + 1) c (tables l)) (zero-add (length l)) (tables_from-push 0 [] l c)

views_from-append : (n : ℕ) (l more : Log) → views_from n (l ++ more) ≡ views_from n l ++ views_from (n + length l) more
views_from-append n [] more = ap (λ (k : ℕ). views_from k more) (sym (add-zero n))
views_from-append n (c ∷ l) more =
    let same : n + 1 + length l ≡ n + length (c ∷ l) = omega arith in
    ap (λ (vs : List Viewed). views_by (n + 1) c ++ vs) (views_from-append (n + 1) l more ∙ ap (λ (k : ℕ). views_from (n + 1) l ++ views_from k more) same)
    ∙ sym (append_assoc (views_by (n + 1) c) (views_from (n + 1) l) (views_from (n + length (c ∷ l)) more))

-- views stay, under their numbers
pub views-append : (l more : Log) → views (l ++ more) ≡ views l ++ views_from (length l) more
views-append l more = subst (λ (k : ℕ). views (l ++ more) ≡ views l ++ views_from k more) (zero-add (length l)) (views_from-append 0 l more)

pub views-push : (l : Log) (c : Commit) → views (l ++ c ∷ []) ≡ views l ++ views_by (length l + 1) c
views-push l c = views-append l (c ∷ []) ∙ ap (λ (vs : List Viewed). views l ++ vs) (append-nil (views_by (length l + 1) c))

pub AreLawfulAfter-push : (limits : Limits) (before h : History) (e : Event) → AreLawfulAfter limits before h → Lawful limits (before ++ h) e → AreLawfulAfter limits before (h ++ e ∷ [])
AreLawfulAfter-push limits before [] e all last = (subst (λ (b : History). Lawful limits b e) (append-nil before) last, tt)
AreLawfulAfter-push limits before (x ∷ h) e all last = (all.0, AreLawfulAfter-push limits (before ++ x ∷ []) h e all.1 (subst (λ (b : History). Lawful limits b e) (sym (append_assoc before (x ∷ []) h)) last))

pub AreLawful-push : (limits : Limits) (h : History) (e : Event) → AreLawful limits h → Lawful limits h e → AreLawful limits (h ++ e ∷ [])
AreLawful-push limits h e all last = AreLawfulAfter-push limits [] h e all last

pub commits_from-push : (n : ℕ) (h : History) (e : Event) → commits_from n (h ++ e ∷ []) ≡ commits_from n h ++ commit_at e (n + length h + 1)
commits_from-push n [] e = rw add-zero (append-nil _)
commits_from-push n (x ∷ h) e =
    let same : n + 1 + length h + 1 ≡ n + length (x ∷ h) + 1 = omega arith in
    ap (λ l. commit_at x (n + 1) ++ l) (commits_from-push (n + 1) h e ∙ ap (λ k. commits_from (n + 1) h ++ commit_at e k) same)
    ∙ sym (append_assoc (commit_at x (n + 1)) (commits_from (n + 1) h) _)

pub commits_at-push : (h : History) (e : Event) → commits_at (h ++ e ∷ []) ≡ commits_at h ++ commit_at e (length h + 1)
commits_at-push h e = subst (λ (k : ℕ). commits_from 0 (h ++ e ∷ []) ≡ commits_from 0 h ++ commit_at e (k + 1)) (zero-add (length h)) (commits_from-push 0 h e)
