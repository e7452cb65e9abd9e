-- No two records of a table have the same id.
use Rattle.std.proofs.Common.{◌≡◌, ◌<◌, ◌≤◌, ◌⊎◌, inl, inr, refl, subst, ℕ, zero, suc, ◌+◌, Bool, true, false, cond, List, [], ◌∷◌, ◌++◌, length, get_or, nat_eq, Contains, ap, sym, ◌∙◌, arith, append_assoc, add-zero}
use Rattle.std.specs.List.{All}
use Rattle.std.proofs.lemmas.List.Elements.{All-head, All-tail}
use Rattle.kq_value.specs.declared.record.Record.{Record}
use Rattle.kq_value.specs.declared.record_id.RecordId.{RecordId}
use Rattle.kq_value.specs.declared.schema.Field.{Field}
use Rattle.kq_value.specs.declared.value.Value.{Value}
use Rattle.kq_store_rows.specs.Numbered.{numbered}
use Rattle.kq_catalog_journal.specs.declared.batch.Batch.{Batch}
use Rattle.kq_catalog_journal.specs.declared.event.Commit.{Commit}
use Rattle.kq_catalog_journal.specs.declared.event.Commit.TheVariants.{CreateTable, SetPolicy, CreateView, AlterMerge, Ingest}
use Rattle.kq_catalog_journal.specs.History.{Log}
use Rattle.kq_catalog_journal.specs.Records.{commit_records, batch_records, ids_of, records, records_from, records_given, schema_of}
use Rattle.kq_store_rows.specs.Widened.{widened_records}

-- a cursor and an ordinal that aren't behind others
abbrev IsAtMost : ℕ → ℕ → ℕ → ℕ → Type 0
IsAtMost c o d p = (c < d) ⊎ ((c ≡ d) × (o ≤ p))

-- the ids rise from a cursor and an ordinal on, and are below others
abbrev Climbs : ℕ → ℕ → ℕ → ℕ → List Record → Type 0
Climbs c o d p [] = IsAtMost c o d p
Climbs c o d p (r ∷ rs) = IsAtMost c o r.id.cursor r.id.ordinal × Climbs r.id.cursor (r.id.ordinal + 1) d p rs

at_most_trans : (c o d p e q : ℕ) → IsAtMost c o d p → IsAtMost d p e q → IsAtMost c o e q
at_most_trans c o d p e q (inl a) (inl b) = inl (omega (arith, a, b))
at_most_trans c o d p e q (inl a) (inr b) = inl (omega (arith, a, b.0))
at_most_trans c o d p e q (inr a) (inl b) = inl (omega (arith, a.0, b))
at_most_trans c o d p e q (inr a) (inr b) = inr (omega (arith, a.0, b.0), omega (arith, a.1, b.1))

Climbs-lower : (b n c o d p : ℕ) (rs : List Record) → IsAtMost b n c o → Climbs c o d p rs → Climbs b n d p rs
Climbs-lower b n c o d p [] below climbs = at_most_trans b n c o d p below climbs
Climbs-lower b n c o d p (r ∷ rs) below climbs = (at_most_trans b n c o r.id.cursor r.id.ordinal below climbs.0, climbs.1)

Climbs-append : (c o d p e q : ℕ) (rs ss : List Record) → Climbs c o d p rs → Climbs d p e q ss → Climbs c o e q (rs ++ ss)
Climbs-append c o d p e q [] ss first later = Climbs-lower c o d p e q ss first later
Climbs-append c o d p e q (r ∷ rs) ss first later = (first.0, Climbs-append r.id.cursor (r.id.ordinal + 1) d p e q rs ss first.1 later)

numbered-climbs : (c o : ℕ) (rows : List (List Value)) → Climbs c o c (o + length rows) (numbered c o rows)
numbered-climbs c o [] = inr (refl, omega arith)
numbered-climbs c o (r ∷ rows) =
    let end : o + 1 + length rows ≡ o + length (r ∷ rows) = omega arith in
    (inr (refl, omega arith), subst (λ (n : ℕ). Climbs c (o + 1) c n (numbered c (o + 1) rows)) end (numbered-climbs c (o + 1) rows))

-- the rows of a commit have its cursor
batch_records-climb : (t c o : ℕ) (bs : List Batch) → Climbs c o (c + 1) 0 (batch_records t c o bs)
batch_records-climb t c o [] = inl (omega arith)
batch_records-climb t c o (b ∷ bs) = by_test (nat_eq b.table t) (batch_records-climb t c (o + length b.rows) bs) (batch_records-climb t c o bs)
  where
    by_test : (is : Bool) → Climbs c (o + length b.rows) (c + 1) 0 (batch_records t c (o + length b.rows) bs) → Climbs c o (c + 1) 0 (batch_records t c o bs)
        → Climbs c o (c + 1) 0 (cond is (numbered c o b.rows ++ batch_records t c (o + length b.rows) bs) (batch_records t c o bs))
    by_test true later same = Climbs-append c o c (o + length b.rows) (c + 1) 0 (numbered c o b.rows) (batch_records t c (o + length b.rows) bs) (numbered-climbs c o b.rows) later
    by_test false later same = same

commit_records-climb : (t c : ℕ) (commit : Commit) → Climbs c 0 (c + 1) 0 (commit_records t c commit)
commit_records-climb t c (CreateTable name schema) = inl (omega arith)
commit_records-climb t c (CreateView view) = inl (omega arith)
commit_records-climb t c (SetPolicy table entries) = inl (omega arith)
commit_records-climb t c (AlterMerge table columns) = inl (omega arith)
commit_records-climb t c (Ingest batches failures) = batch_records-climb t c 0 batches

records-climb : (t n : ℕ) (l : Log) → Climbs (n + 1) 0 (n + length l + 1) 0 (records_from t n l)
records-climb t n [] = inr (omega arith, omega arith)
records-climb t n (c ∷ l) =
    let end : n + 1 + length l + 1 ≡ n + length (c ∷ l) + 1 = omega arith in
    Climbs-append (n + 1) 0 (n + 1 + 1) 0 (n + length (c ∷ l) + 1) 0 (commit_records t (n + 1) c) (records_from t (n + 1) l) (commit_records-climb t (n + 1) c)
    (subst (λ (k : ℕ). Climbs (n + 1 + 1) 0 k 0 (records_from t (n + 1) l)) end (records-climb t (n + 1) l))

-- further columns leave the ids
widened-climb : (fields : List Field) (c o d p : ℕ) (rs : List Record) → Climbs c o d p rs → Climbs c o d p (widened_records fields rs)
widened-climb fields c o d p [] climbs = climbs
widened-climb fields c o d p (r ∷ rs) climbs = (climbs.0, widened-climb fields r.id.cursor (r.id.ordinal + 1) d p rs climbs.1)

-- ---- one record for each id

-- a record of a place behind others isn't among them
not_behind : (c o d p : ℕ) (rs : List Record) (k : ℕ) (r : Record) → Climbs c o d p rs → k < length rs → IsAtMost c o (get_or rs k r).id.cursor (get_or rs k r).id.ordinal
not_behind c o d p [] k r climbs within = absurd (omega (arith, within))
not_behind c o d p (s ∷ rs) zero r climbs within = climbs.0
not_behind c o d p (s ∷ rs) (suc k) r climbs within =
    at_most_trans c o s.id.cursor (s.id.ordinal + 1) (get_or rs k r).id.cursor (get_or rs k r).id.ordinal
    (at_most_trans c o s.id.cursor s.id.ordinal s.id.cursor (s.id.ordinal + 1) climbs.0 (inr (refl, omega arith)))
    (not_behind s.id.cursor (s.id.ordinal + 1) d p rs k r climbs.1 (omega (arith, within)))

not_itself : (id : RecordId) (other : RecordId) → IsAtMost id.cursor (id.ordinal + 1) other.cursor other.ordinal → id ≡ other → ⊥
not_itself id other (inl a) same = let c = ap (λ (i : RecordId). i.cursor) same in absurd (omega (arith, a, c))
not_itself id other (inr a) same = let o = ap (λ (i : RecordId). i.ordinal) same in absurd (omega (arith, a.1, o))

same_record : (c o d p : ℕ) (rs : List Record) (k m : ℕ) (x y : Record) → Climbs c o d p rs → k < length rs → m < length rs → (get_or rs k x).id ≡ (get_or rs m y).id → get_or rs k x ≡ get_or rs m y
same_record c o d p [] k m x y climbs a b same = absurd (omega (arith, a))
same_record c o d p (r ∷ rs) zero zero x y climbs a b same = refl
same_record c o d p (r ∷ rs) zero (suc m) x y climbs a b same = absurd (not_itself r.id (get_or rs m y).id (not_behind r.id.cursor (r.id.ordinal + 1) d p rs m y climbs.1 (omega (arith, b))) same)
same_record c o d p (r ∷ rs) (suc k) zero x y climbs a b same = absurd (not_itself r.id (get_or rs k x).id (not_behind r.id.cursor (r.id.ordinal + 1) d p rs k x climbs.1 (omega (arith, a))) (sym same))
same_record c o d p (r ∷ rs) (suc k) (suc m) x y climbs a b same = same_record r.id.cursor (r.id.ordinal + 1) d p rs k m x y climbs.1 (omega (arith, a)) (omega (arith, b)) same

one_record : (l : Log) (t : ℕ) (x y : Record) → Contains (records l t) x → Contains (records l t) y → x.id ≡ y.id → x ≡ y
one_record l t x y a b same =
    sym a.2 ∙ same_record 1 0 (0 + length l + 1) 0 (records l t) a.0 b.0 x y (widened-climb (schema_of l t) 1 0 (0 + length l + 1) 0 (records_given l t) (records-climb t 0 l)) a.1 b.1 (ap (λ (r : Record). r.id) a.2 ∙ same ∙ sym (ap (λ (r : Record). r.id) b.2)) ∙ b.2

-- records of a table with the same ids are the same
pub same_by_ids : (l : Log) (t : ℕ) (xs ys : List Record) → All (Contains (records l t)) xs → All (Contains (records l t)) ys → ids_of xs ≡ ids_of ys → xs ≡ ys
same_by_ids l t [] [] a b same = refl
same_by_ids l t [] (y ∷ ys) a b same = cc
same_by_ids l t (x ∷ xs) [] a b same = cc
same_by_ids l t (x ∷ xs) (y ∷ ys) a b same =
    let P = Contains (records l t) in
    let first : x.id ≡ y.id = cc in
    let rest : ids_of xs ≡ ids_of ys = cc in
    ap (λ (r : Record). r ∷ xs) (one_record l t x y (All-head P x xs a) (All-head P y ys b) first)
    ∙ ap (λ (rs : List Record). y ∷ rs) (same_by_ids l t xs ys (All-tail P x xs a) (All-tail P y ys b) rest)

pub records_from-append : (t n : ℕ) (l more : Log) → records_from t n (l ++ more) ≡ records_from t n l ++ records_from t (n + length l) more
records_from-append t n [] more = ap (λ (k : ℕ). records_from t k more) (sym (add-zero n))
records_from-append t n (c ∷ l) more =
    let same : n + 1 + length l ≡ n + length (c ∷ l) = omega arith in
    ap (λ (rs : List Record). commit_records t (n + 1) c ++ rs) (records_from-append t (n + 1) l more ∙ ap (λ (k : ℕ). records_from t (n + 1) l ++ records_from t k more) same)
    ∙ sym (append_assoc (commit_records t (n + 1) c) (records_from t (n + 1) l) (records_from t (n + length (c ∷ l)) more))
