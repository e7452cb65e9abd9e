-- How far the records of a body were taken.
use Rattle.std.proofs.Common.{◌≡◌, ◌≢◌, ◌≤◌, ◌<◌, ℕ, Bool, true, false, List, [], ◌∷◌, ◌++◌, append_assoc, length, length-append, drop, map, Some, None, refl, sym, ap, ◌∙◌, arith}
use Rattle.std.proofs.lemmas.List.{drop-append-le, length-map, map-append}
use Rattle.kq_value.specs.declared.schema.Field.{Field}
use Rattle.kq_value.specs.declared.value.Value.{Value}
use Rattle.kq_store_ingest.specs.Ingestion.{IsFaultAt, fault_among, is_wide, number_skipped, row_of}
use Rattle.kq_store_ingest.specs.declared.fault.IngestFault.{IngestFault}
use Rattle.kq_store_ingest.specs.declared.fault.IngestFault.TheVariants as fault
use Rattle.kq_store_ingest.proofs.Faults.{AreNarrow, fault_at, no_fault, one_more_narrow}

-- these records were seen; the row of each that is to be one was kept, and none was too wide or a row too many
pub record Taken (schema : List Field) (skip_first skip : Bool) (limit : ℕ) (seen : List (List (List ℕ))) (rows : List (List Value)) : Type 0 where
  pub rows_are : rows ≡ map (row_of schema) (drop (number_skipped skip_first) seen)
  pub narrow : AreNarrow schema (drop (number_skipped skip_first) seen)
  pub room : length (drop (number_skipped skip_first) seen) ≤ limit
  pub first : skip ≡ true → (skip_first ≡ true) × (seen ≡ [])
  pub later : skip ≡ false → number_skipped skip_first ≤ length seen

pub taken-start : (schema : List Field) (skip_first : Bool) (limit : ℕ) → Taken schema skip_first skip_first limit [] []
taken-start schema true limit = record { rows_are = refl; narrow = refl; room = omega arith; first = λ e. (refl, refl); later = λ e. cc }
taken-start schema false limit = record { rows_are = refl; narrow = refl; room = omega arith; first = λ e. cc; later = λ e. omega arith }

no_first : (r : List (List ℕ)) (rs : List (List (List ℕ))) → r ∷ rs ≡ [] → ⊥
no_first r rs e = cc

no_flag : false ≡ true → ⊥
no_flag e = cc

-- the first record was skipped
pub taken-skipped : (schema : List Field) (skip_first : Bool) (limit : ℕ) (seen : List (List (List ℕ))) (rows : List (List Value)) (r : List (List ℕ))
    → Taken schema skip_first true limit seen rows → Taken schema skip_first false limit (seen ++ r ∷ []) rows
taken-skipped schema true limit [] rows r t = record { rows_are = t.rows_are; narrow = refl; room = omega arith; first = λ e. cc; later = λ e. omega arith }
taken-skipped schema true limit (s ∷ ss) rows r t = absurd (no_first s ss (t.first refl).1)
taken-skipped schema false limit seen rows r t = absurd (no_flag (t.first refl).0)

rows_counted : (schema : List Field) (skip_first skip : Bool) (limit : ℕ) (seen : List (List (List ℕ))) (rows : List (List Value))
    → Taken schema skip_first skip limit seen rows → length rows ≡ length (drop (number_skipped skip_first) seen)
rows_counted schema skip_first skip limit seen rows t = ap length t.rows_are ∙ length-map (drop (number_skipped skip_first) seen) (row_of schema)

-- a row was added
pub taken-added : (schema : List Field) (skip_first : Bool) (limit : ℕ) (seen : List (List (List ℕ))) (rows more : List (List Value)) (r : List (List ℕ))
    → Taken schema skip_first false limit seen rows → more ≡ rows ++ row_of schema r ∷ [] → is_wide schema r ≡ false → length rows < limit
    → Taken schema skip_first false limit (seen ++ r ∷ []) more
taken-added schema skip_first limit seen rows more r t e narrow room =
    let k = number_skipped skip_first in
    let kept : drop k (seen ++ r ∷ []) ≡ drop k seen ++ r ∷ [] = drop-append-le k seen (r ∷ []) (t.later refl) in
    let count = rows_counted schema skip_first false limit seen rows t in
    record {
      rows_are = rw (e, kept) (rw t.rows_are (sym (map-append (row_of schema) (drop k seen) (r ∷ []))));
      narrow = rw kept (one_more_narrow schema (drop k seen) r t.narrow narrow);
      room = rw kept (omega (arith, length-append (drop k seen) (r ∷ []), count, room));
      first = λ f. cc;
      later = λ f. omega (arith, t.later refl, length-append seen (r ∷ []));
    }

-- the record is the first with a fault
pub taken-fault : (schema : List Field) (skip_first : Bool) (limit : ℕ) (seen more all : List (List (List ℕ))) (rows : List (List Value)) (r : List (List ℕ)) (e : IngestFault)
    → Taken schema skip_first false limit seen rows → all ≡ (seen ++ r ∷ []) ++ more → IsFaultAt schema skip_first limit (length rows) r e → e ≢ fault.Memory
    → fault_among schema skip_first limit (drop (number_skipped skip_first) all) ≡ Some e
taken-fault schema skip_first limit seen more all rows r e t split fault free =
    let k = number_skipped skip_first in
    let kept : drop k all ≡ drop k seen ++ r ∷ more = ap (drop k) (split ∙ append_assoc seen (r ∷ []) more) ∙ drop-append-le k seen (r ∷ more) (t.later refl) in
    let count = rows_counted schema skip_first false limit seen rows t in
    rw kept (fault_at schema skip_first limit (drop k seen) more r e t.narrow t.room (rw count at fault) free)

-- all records were taken
pub taken-all : (schema : List Field) (skip_first skip : Bool) (limit : ℕ) (seen all : List (List (List ℕ))) (rows : List (List Value))
    → Taken schema skip_first skip limit seen rows → all ≡ seen
    → (rows ≡ map (row_of schema) (drop (number_skipped skip_first) all)) × (fault_among schema skip_first limit (drop (number_skipped skip_first) all) ≡ None)
taken-all schema skip_first skip limit seen all rows t e =
    rw e (t.rows_are, no_fault schema skip_first limit (drop (number_skipped skip_first) seen) t.narrow t.room)
