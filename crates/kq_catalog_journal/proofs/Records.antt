-- The records of a log with one more commit, and the extents of a history with one more event.
use Rattle.std.proofs.Common.{◌≡◌, ℕ, ◌+◌, cond, List, [], ◌∷◌, ◌++◌, length, map, nat_eq, refl, ap, sym, ◌∙◌, subst, append_assoc, append-nil, length-append, arith, add-zero, zero-add}
use Rattle.kq_value.specs.declared.record.Record.{Record}
use Rattle.kq_value.specs.declared.value.Value.{Value}
use Rattle.kq_store_rows.specs.Numbered.{numbered}
use Rattle.kq_catalog_journal.specs.declared.batch.Batch.{Batch}
use Rattle.kq_catalog_journal.specs.declared.event.Commit.{Commit}
use Rattle.kq_catalog_journal.specs.declared.event.Event.{Event}
use Rattle.kq_catalog_journal.specs.History.{History, Log, log, cursor, commits_of}
use Rattle.kq_catalog_journal.specs.Records.{commit_records, rows_to, records_from, records_given, ExtentItem, items_after, operation_extents, extents_made, extents_from, extents}

records_from-push : (t n : ℕ) (l : Log) (c : Commit) → records_from t n (l ++ c ∷ []) ≡ records_from t n l ++ commit_records t (n + length l + 1) c
records_from-push t n [] c = rw add-zero (append-nil (commit_records t (n + 1) c))
records_from-push t n (x ∷ l) c =
    let same : n + 1 + length l + 1 ≡ n + length (x ∷ l) + 1 = omega arith in
    ap (λ (rs : List Record). commit_records t (n + 1) x ++ rs) (records_from-push t (n + 1) l c ∙ ap (λ (k : ℕ). records_from t (n + 1) l ++ commit_records t k c) same)
    ∙ sym (append_assoc (commit_records t (n + 1) x) (records_from t (n + 1) l) _)

-- a commit gives its rows after all that were given before
pub records-push : (l : Log) (t : ℕ) (c : Commit) → records_given (l ++ c ∷ []) t ≡ records_given l t ++ commit_records t (length l + 1) c
records-push l t c = subst (λ (k : ℕ). records_from t 0 (l ++ c ∷ []) ≡ records_from t 0 l ++ commit_records t (k + 1) c) (zero-add (length l)) (records_from-push t 0 l c)

pub extents_made-push : (h : History) (e : Event) → extents_made (h ++ e ∷ []) ≡ extents_made h + operation_extents e.operation
extents_made-push [] e = omega arith
extents_made-push (x ∷ h) e = let more = extents_made-push h e in omega (arith, more)

extents_from-push : (t n id : ℕ) (is : List ExtentItem) (h : History) (e : Event)
    → extents_from t n id is (h ++ e ∷ []) ≡ items_after t (n + cursor h + 1) (id + extents_made h) e.operation (extents_from t n id is h)
extents_from-push t n id is [] e = rw (add-zero, add-zero) refl
extents_from-push t n id is (x ∷ h) e =
    let more = length-append (commits_of x.operation) (log h) in
    let next : n + length (commits_of x.operation) + cursor h + 1 ≡ n + cursor (x ∷ h) + 1 = omega (arith, more) in
    let later : id + operation_extents x.operation + extents_made h ≡ id + extents_made (x ∷ h) = omega arith in
    let all = extents_from t (n + length (commits_of x.operation)) (id + operation_extents x.operation) (items_after t (n + 1) id x.operation is) h in
    extents_from-push t (n + length (commits_of x.operation)) (id + operation_extents x.operation) (items_after t (n + 1) id x.operation is) h e
    ∙ ap (λ (k : ℕ). items_after t k (id + operation_extents x.operation + extents_made h) e.operation all) next
    ∙ ap (λ (k : ℕ). items_after t (n + cursor (x ∷ h) + 1) k e.operation all) later

-- an event's extents come last, under the next ids
pub extents-push : (h : History) (t : ℕ) (e : Event) → extents (h ++ e ∷ []) t ≡ items_after t (cursor h + 1) (1 + extents_made h) e.operation (extents h t)
extents-push h t e = subst (λ (k : ℕ). extents (h ++ e ∷ []) t ≡ items_after t (k + 1) (1 + extents_made h) e.operation (extents h t)) (zero-add (cursor h)) (extents_from-push t 0 1 [] h e)

pub rows_to-push : (t : ℕ) (bs : List Batch) (b : Batch) → rows_to t (bs ++ b ∷ []) ≡ rows_to t bs + cond (nat_eq b.table t) (length b.rows) 0
rows_to-push t [] b = omega arith
rows_to-push t (x ∷ bs) b = let more = rows_to-push t bs b in omega (arith, more)

pub length-numbered : (cursor ordinal : ℕ) (rows : _) → length (numbered cursor ordinal rows) ≡ length rows
length-numbered cursor ordinal [] = refl
length-numbered cursor ordinal (r ∷ rows) = let more = length-numbered cursor (ordinal + 1) rows in omega (arith, more)

pub numbered-rows : (cursor ordinal : ℕ) (rows : List (List Value)) → map (λ (r : Record). r.row) (numbered cursor ordinal rows) ≡ rows
numbered-rows cursor ordinal [] = refl
numbered-rows cursor ordinal (r ∷ rows) = ap (λ (rs : List (List Value)). r ∷ rs) (numbered-rows cursor (ordinal + 1) rows)
