-- Rows that are laid out as one extent.
use Rattle.std.proofs.Common.{◌≡◌, ◌<◌, ◌^◌, ◌++◌, ◌∷◌, [], Bool, true, false, cond, List, length, map, append-nil, ap, ◌∙◌, arith}
use Rattle.std.proofs.lemmas.List.{length-map}
use Rattle.kq_policy_cascade.specs.Lent.{HoldsRows}
use Rattle.kq_store_extent.specs.Seen.{ExtentView, HeldExtents, held_records, row_of}
use Rattle.kq_store_extent.specs.Split.{is_small, put}
use Rattle.kq_store_extent.proofs.Named.{rows-numbered}
use Rattle.kq_catalog_journal.specs.Derived.{Row}
use Rattle.kq_store_rows.specs.Numbered.{numbered}

abbrev no_extents : HeldExtents
no_extents = record { small = []; big = [] }

-- an extent that is put to none is alone, whatever its size
records-put : (e : ExtentView) → held_records (put no_extents e) ≡ e.records
records-put e = by_size (is_small e)
  where
    by_size : (b : Bool) → held_records (cond b (record { small = [] ++ e ∷ []; big = [] }) (record { small = []; big = [] ++ e ∷ [] })) ≡ e.records
    by_size true = append-nil (e.records ++ []) ∙ append-nil e.records
    by_size false = append-nil e.records

pub put-holds : (rows : List Row) (e : ExtentView) (none held : HeldExtents) → e.records ≡ numbered 0 0 rows → none ≡ no_extents → held ≡ put none e → length rows < 2 ^ 63 → HoldsRows held rows
put-holds rows e none held records empty is small =
    let all : held_records held ≡ numbered 0 0 rows = ap held_records is ∙ ap (λ (h : HeldExtents). held_records (put h e)) empty ∙ records-put e ∙ records in
    let same : map row_of (held_records held) ≡ rows = ap (map row_of) all ∙ rows-numbered 0 0 rows in
    let long = length-map (held_records held) row_of in
    let count = ap length same in
    record { are = same; small = omega (arith, long, count, small) }
