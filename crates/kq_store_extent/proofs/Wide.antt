-- What is known of extents whose records are widened.
use Rattle.std.proofs.Common.{◌≡◌, ◌<◌, ◌+◌, ℕ, List, [], ◌∷◌, ◌++◌, length, map, drop, get_or, refl, ap, sym, ◌∙◌, arith}
use Rattle.std.proofs.lemmas.List.{drop-map, get_or-map, length-map, map-append}
use Rattle.kq_value.specs.declared.record.Record.{Record}
use Rattle.kq_value.specs.declared.schema.Field.{Field}
use Rattle.kq_value.specs.declared.value.Value.{Value}
use Rattle.kq_store_shared_lists.specs.Standing.{StandsAt}
use Rattle.kq_store_rows.specs.Chunks.{row_at}
use Rattle.kq_store_extent.specs.Seen.{ExtentView, HeldExtents, held_extents, held_records, records_in, row_of}
use Rattle.kq_store_extent.specs.Wide.{wide, wide_held}
use Rattle.kq_store_extent.proofs.Walked.{behind, behind-within}
use Rattle.kq_store_rows.specs.Widened.{widened, widened_record, widened_records}
use Rattle.kq_store_rows.proofs.WidenedLemmas.{widened_records-rows}

-- the rows are widened
pub wide-rows : (fields : List Field) (e : ExtentView) → map row_of (wide fields e).records ≡ map (widened fields) (map row_of e.records)
wide-rows fields e = widened_records-rows fields e.records

-- and so is each
pub wide-row_at : (fields : List Field) (rows : List (List Value)) (i : ℕ) → i < length rows → row_at (map (widened fields) rows) i ≡ widened fields (row_at rows i)
wide-row_at fields rows i within = get_or-map (widened fields) rows i [] [] within

pub held_extents-wide : (fields : List Field) (held : HeldExtents) → held_extents (wide_held fields held) ≡ map (wide fields) (held_extents held)
held_extents-wide fields held = sym (map-append (wide fields) held.small held.big)

-- what stands from a place on stands there, widened
pub StandsAt-map : {S T : Type 0} (f : S → T) (xs : List S) (at : ℕ) (ys : List S) → StandsAt xs at ys → StandsAt (map f xs) at (map f ys)
StandsAt-map f xs at ys stands = record {
  is = drop-map f at xs ∙ ap (map f) stands.is ∙ map-append f ys (drop (at + length ys) xs)
      ∙ ap (λ zs. map f ys ++ zs) (sym (drop-map f (at + length ys) xs)) ∙ ap (λ (n : ℕ). map f ys ++ drop (at + n) (map f xs)) (sym (length-map ys f));
}

-- the records of widened extents are those of the extents, widened
pub records_in-wide : (fields : List Field) (es : List ExtentView) → records_in (map (wide fields) es) ≡ widened_records fields (records_in es)
records_in-wide fields [] = refl
records_in-wide fields (e ∷ es) =
    ap (λ (rs : List Record). widened_records fields e.records ++ rs) (records_in-wide fields es) ∙ sym (map-append (widened_record fields) e.records (records_in es))

pub held_records-wide : (fields : List Field) (held : HeldExtents) → held_records (wide_held fields held) ≡ widened_records fields (held_records held)
held_records-wide fields held =
    ap (λ (rs : List Record). rs ++ records_in (map (wide fields) held.big)) (records_in-wide fields held.small)
    ∙ ap (λ (rs : List Record). widened_records fields (records_in held.small) ++ rs) (records_in-wide fields held.big)
    ∙ sym (map-append (widened_record fields) (records_in held.small) (records_in held.big))

-- the widened extent behind a handle
pub wide_behind : {H : Type 0} (value : H → ExtentView) (fields : List Field) (handles : List H) (i : ℕ) (h : H) → i < length handles → h ≡ get_or handles i h
    → get_or (map (wide fields) (map value handles)) i (wide fields (value h)) ≡ wide fields (value h)
wide_behind value fields handles i h within is =
    get_or-map (wide fields) (map value handles) i (value h) (wide fields (value h)) (behind-within value handles i within) ∙ ap (wide fields) (behind value handles i h within is)

pub wide_behind-within : {H : Type 0} (value : H → ExtentView) (fields : List Field) (handles : List H) (i : ℕ) → i < length handles → i < length (map (wide fields) (map value handles))
wide_behind-within value fields handles i within = let n = length-map handles value in let m = length-map (map value handles) (wide fields) in omega (arith, n, m, within)
