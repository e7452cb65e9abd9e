-- The rows of all sources, source by source.
use Rattle.std.proofs.Common.{◌≡◌, ℕ, zero, suc, List, [], ◌∷◌, ◌++◌, Some, map, take, drop, sym, ap, ◌∙◌, append-nil, append_assoc}
use Rattle.std.specs.List.{slice_get}
use Rattle.std.proofs.lemmas.List.{take-append-drop}
use Rattle.std.proofs.lemmas.List.Concat.{flat_map-append}
use Rattle.std.proofs.lemmas.Option.{none-some, same_Some}
use Rattle.kq_store_extent.specs.Seen.{HeldExtents, held_extents, row_of}
use Rattle.kq_store_extent.proofs.Walked.{rows_by, records_in-held}
use Rattle.kq_run_row_operators.specs.kq_eval_pieces.Operators.{Row}
use Rattle.kq_run_scan.specs.Lent.{rows_held}
use Rattle.kq_run_scan.specs.Unread.{rows_among}

pub rows_by-held : (held : HeldExtents) → rows_by (held_extents held) ≡ rows_held held
rows_by-held held = ap (map row_of) (records_in-held held)

-- the rows of the sources before one, and of the others
pub among_split : (sources : List (List Row)) (i : ℕ) → rows_among sources ≡ rows_among (take i sources) ++ rows_among (drop i sources)
among_split sources i = ap rows_among (sym (take-append-drop i sources)) ∙ flat_map-append (λ (rows : List Row). rows) (take i sources) (drop i sources)

-- the rows of one source more
pub among_next : (sources : List (List Row)) (i : ℕ) (rows : List Row) → slice_get sources i ≡ Some rows → rows_among (take (suc i) sources) ≡ rows_among (take i sources) ++ rows
among_next [] i rows got = absurd (none-some rows got)
among_next (x ∷ xs) zero rows got = append-nil x ∙ same_Some x rows got
among_next (x ∷ xs) (suc i) rows got = ap (λ (rs : List Row). x ++ rs) (among_next xs i rows got) ∙ sym (append_assoc x (rows_among (take i xs)) rows)

-- the rows of all, about those of one source
pub among_about : (sources : List (List Row)) (i : ℕ) (rows : List Row) → slice_get sources i ≡ Some rows
    → rows_among sources ≡ (rows_among (take i sources) ++ rows) ++ rows_among (drop (suc i) sources)
among_about sources i rows got = among_split sources (suc i) ∙ ap (λ (rs : List Row). rs ++ rows_among (drop (suc i) sources)) (among_next sources i rows got)
