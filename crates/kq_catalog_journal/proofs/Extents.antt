-- The extents of batches, one after another.
use Rattle.std.proofs.Common.{◌≡◌, ◌<◌, ◌≤◌, refl, ℕ, ◌+◌, Bool, true, false, cond, List, [], ◌∷◌, ◌++◌, length, take, get_or, nat_eq, ap, sym, ◌∙◌, append_assoc, append-nil, add-zero, arith}
use Rattle.std.specs.List.{sum_by}
use Rattle.std.proofs.lemmas.List.{take_more}
use Rattle.std.proofs.lemmas.List.Sums.{sum_by-cons, sum_by_push, sum_by-take-drop}
use Rattle.kq_store_rows.specs.Numbered.{numbered}
use Rattle.kq_catalog_journal.specs.declared.batch.Batch.{Batch}
use Rattle.kq_catalog_journal.specs.Edits.{Edit, new_extents}
use Rattle.kq_catalog_journal.specs.Edits.Edit.{NewExtent}
use Rattle.kq_catalog_journal.specs.Records.{rows_to}

-- one batch more is one extent more
pub new_extents-push : (cursor id : ℕ) (before bs : List Batch) (b : Batch)
    → new_extents cursor id before (bs ++ b ∷ []) ≡ new_extents cursor id before bs ++ NewExtent b.table (id + length bs) (numbered cursor (rows_to b.table (before ++ bs)) b.rows) b.tags ∷ []
new_extents-push cursor id before [] b =
    ap (λ (n : ℕ). NewExtent b.table n (numbered cursor (rows_to b.table before) b.rows) b.tags ∷ []) (sym (add-zero id))
    ∙ ap (λ (bs : List Batch). NewExtent b.table (id + 0) (numbered cursor (rows_to b.table bs) b.rows) b.tags ∷ []) (sym (append-nil before))
new_extents-push cursor id before (x ∷ bs) b =
    let first : Edit = NewExtent x.table id (numbered cursor (rows_to x.table before) x.rows) x.tags in
    let next : id + 1 + length bs ≡ id + length (x ∷ bs) = omega arith in
    let all = new_extents cursor (id + 1) (before ++ x ∷ []) bs in
    ap (λ (es : List Edit). first ∷ es)
    (new_extents-push cursor (id + 1) (before ++ x ∷ []) bs b
    ∙ ap (λ (n : ℕ). all ++ NewExtent b.table n (numbered cursor (rows_to b.table ((before ++ x ∷ []) ++ bs)) b.rows) b.tags ∷ []) next
    ∙ ap (λ (ys : List Batch). all ++ NewExtent b.table (id + length (x ∷ bs)) (numbered cursor (rows_to b.table ys) b.rows) b.tags ∷ []) (append_assoc before (x ∷ []) bs))

pub length-new_extents : (cursor id : ℕ) (before bs : List Batch) → length (new_extents cursor id before bs) ≡ length bs
length-new_extents cursor id before [] = refl
length-new_extents cursor id before (b ∷ bs) = let more = length-new_extents cursor (id + 1) (before ++ b ∷ []) bs in omega (arith, more)

-- a table is given no more rows than all are
pub rows_to-total : (t : ℕ) (bs : List Batch) → rows_to t bs ≤ sum_by (λ (b : Batch). length b.rows) bs
rows_to-total t [] = omega arith
rows_to-total t (b ∷ bs) =
    let first = sum_by-cons (λ (x : Batch). length x.rows) b bs in
    let here = by_test (nat_eq b.table t) (rows_to-total t bs) in
    omega (arith, first, here)
  where
    by_test : (is : Bool) → rows_to t bs ≤ sum_by (λ (x : Batch). length x.rows) bs → cond is (length b.rows) 0 + rows_to t bs ≤ length b.rows + sum_by (λ (x : Batch). length x.rows) bs
    by_test true more = omega (arith, more)
    by_test false more = omega (arith, more)

-- the rows that a table has before a batch, and the batch's, are within all rows
pub rows_before : (t n : ℕ) (bs : List Batch) (b : Batch) → n < length bs → b ≡ get_or bs n b → rows_to t (take n bs) + length b.rows ≤ sum_by (λ (x : Batch). length x.rows) bs
rows_before t n bs b within is =
    let more : take (n + 1) bs ≡ take n bs ++ b ∷ [] = take_more bs n b within ∙ ap (λ (x : Batch). take n bs ++ x ∷ []) (sym is) in
    let last : sum_by (λ (x : Batch). length x.rows) (take (n + 1) bs) ≡ sum_by (λ (x : Batch). length x.rows) (take n bs) + length b.rows = ap (sum_by (λ (x : Batch). length x.rows)) more ∙ sum_by_push (λ (x : Batch). length x.rows) (take n bs) b in
    omega (arith, last, rows_to-total t (take n bs), sum_by-take-drop (λ (x : Batch). length x.rows) bs (n + 1))
