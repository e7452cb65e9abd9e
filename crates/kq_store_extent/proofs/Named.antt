-- Rows under ids, and ids by runs.
use Rattle.std.proofs.Common.{◌≡◌, ◌<◌, ◌≤◌, ◌+◌, ◌-◌, ℕ, zero, suc, List, [], ◌∷◌, ◌++◌, length, map, take, drop, get_or, replicate, refl, ap, sym, ◌∙◌, arith, append-nil, length-append}
use Rattle.std.specs.List.{All}
use Rattle.std.proofs.Math.Seq.{drop-cons}
use Rattle.std.proofs.lemmas.List.{length-map, map-append, get_or_append_left, get_or-append_right, take_more}
use Rattle.std.proofs.lemmas.List.Concat.{flat_map-append}
use Rattle.std.proofs.lemmas.List.Elements.{All-cons, All-nil}
use Rattle.kq_value.specs.declared.record.Record.{Record}
use Rattle.kq_value.specs.declared.record_id.RecordId.{RecordId}
use Rattle.kq_value.specs.declared.value.Value.{Value}
use Rattle.kq_store_rows.specs.Numbered.{numbered}
use Rattle.kq_store_extent.specs.declared.run.Run.{Run}
use Rattle.kq_store_extent.specs.Seen.{id_of, row_of}
use Rattle.kq_store_extent.specs.Cells.{cursor_of}
use Rattle.kq_store_extent.specs.Runs.{ids_from, ids_of, ids_by, named, IsInRange}

pub rows-named : (ids : List RecordId) (rows : List (List Value)) → length ids ≡ length rows → map row_of (named ids rows) ≡ rows
rows-named [] [] h = refl
rows-named [] (r ∷ rows) h = absurd (omega (arith, h))
rows-named (id ∷ ids) [] h = absurd (omega (arith, h))
rows-named (id ∷ ids) (r ∷ rows) h = ap (λ (rs : List (List Value)). r ∷ rs) (rows-named ids rows (omega (arith, h)))

pub ids-named : (ids : List RecordId) (rows : List (List Value)) → length ids ≡ length rows → map id_of (named ids rows) ≡ ids
ids-named [] [] h = refl
ids-named [] (r ∷ rows) h = absurd (omega (arith, h))
ids-named (id ∷ ids) [] h = absurd (omega (arith, h))
ids-named (id ∷ ids) (r ∷ rows) h = ap (λ (is : List RecordId). id ∷ is) (ids-named ids rows (omega (arith, h)))

pub length-named : (ids : List RecordId) (rows : List (List Value)) → length ids ≡ length rows → length rows ≡ length (named ids rows)
length-named ids rows h = ap length (sym (rows-named ids rows h)) ∙ length-map (named ids rows) row_of

-- where there is no record there is no id
pub named-nil : (ids : List RecordId) (rows : List (List Value)) → length ids ≡ length rows → named ids rows ≡ [] → ids ≡ []
named-nil ids rows h none = sym (ids-named ids rows h) ∙ ap (map id_of) none

pub nil-named : (ids : List RecordId) (rows : List (List Value)) → ids ≡ [] → named ids rows ≡ []
nil-named ids rows none = ap (λ (is : List RecordId). named is rows) none

length-ids_from : (cursor ordinal n : ℕ) → length (ids_from cursor ordinal n) ≡ n
length-ids_from cursor ordinal zero = refl
length-ids_from cursor ordinal (suc n) = ap suc (length-ids_from cursor (ordinal + 1) n)

named-numbered : (cursor first : ℕ) (rows : List (List Value)) → named (ids_from cursor first (length rows)) rows ≡ numbered cursor first rows
named-numbered cursor first [] = refl
named-numbered cursor first (r ∷ rows) =
    ap (λ (rs : List Record). record { id = record { cursor = cursor; ordinal = first }; row = r } ∷ rs) (named-numbered cursor (first + 1) rows)

ids-one : (run : Run) → ids_by (run ∷ []) ≡ ids_of run
ids-one run = append-nil (ids_of run)

-- rows under the ids of one run are numbered from its first ordinal on
pub named-one : (run : Run) (rows : List (List Value)) → run.count ≡ length rows → named (ids_by (run ∷ [])) rows ≡ numbered run.cursor run.first rows
named-one run rows count =
    ap (λ (is : List RecordId). named is rows) (ids-one run ∙ ap (ids_from run.cursor run.first) count) ∙ named-numbered run.cursor run.first rows

get_or-ids_from : (cursor ordinal n i : ℕ) (d : RecordId) → i < n → get_or (ids_from cursor ordinal n) i d ≡ record { cursor = cursor; ordinal = ordinal + i }
get_or-ids_from cursor ordinal zero i d within = absurd (omega (arith, within))
get_or-ids_from cursor ordinal (suc n) zero d within = ap (λ (k : ℕ). record { cursor = cursor; ordinal = k }) (let same : ordinal ≡ ordinal + 0 = omega arith in same)
get_or-ids_from cursor ordinal (suc n) (suc i) d within =
    get_or-ids_from cursor (ordinal + 1) n i d (omega (arith, within)) ∙ ap (λ (k : ℕ). record { cursor = cursor; ordinal = k }) (let same : ordinal + 1 + i ≡ ordinal + suc i = omega arith in same)

-- a place in the first run
pub get_or-ids_by-here : (run : Run) (runs : List Run) (rest : ℕ) (d : RecordId) → rest < run.count → get_or (ids_by (run ∷ runs)) rest d ≡ record { cursor = run.cursor; ordinal = run.first + rest }
get_or-ids_by-here run runs rest d within =
    get_or_append_left (ids_of run) (ids_by runs) d rest (let n = length-ids_from run.cursor run.first run.count in omega (arith, n, within)) ∙ get_or-ids_from run.cursor run.first run.count rest d within

-- a place behind the first run
pub get_or-ids_by-there : (run : Run) (runs : List Run) (rest : ℕ) (d : RecordId) → run.count ≤ rest → get_or (ids_by (run ∷ runs)) rest d ≡ get_or (ids_by runs) (rest - run.count) d
get_or-ids_by-there run runs rest d past = get_or-append_right (ids_of run) (ids_by runs) run.count rest d (length-ids_from run.cursor run.first run.count) past

pub length-ids_by : (run : Run) (runs : List Run) → length (ids_by (run ∷ runs)) ≡ run.count + length (ids_by runs)
length-ids_by run runs = length-append (ids_of run) (ids_by runs) ∙ ap (λ (n : ℕ). n + length (ids_by runs)) (length-ids_from run.cursor run.first run.count)

-- the runs from one on
pub from_run : (runs : List Run) (i : ℕ) (d : Run) → i < length runs → drop i runs ≡ get_or runs i d ∷ drop (i + 1) runs
from_run runs i d within = let next : suc i ≡ i + 1 = omega arith in drop-cons runs i d within ∙ ap (λ (n : ℕ). get_or runs i d ∷ drop n runs) next

-- the cursors of runs
abbrev pub cursors_by : List Run → List ℕ
cursors_by runs = map cursor_of (ids_by runs)

pub cursors-nil : (ids : List RecordId) → map cursor_of ids ≡ [] → ids ≡ []
cursors-nil [] none = refl
cursors-nil (id ∷ ids) none = absurd (cc)

cursors-ids_from : (cursor ordinal n : ℕ) → map cursor_of (ids_from cursor ordinal n) ≡ replicate n cursor
cursors-ids_from cursor ordinal zero = refl
cursors-ids_from cursor ordinal (suc n) = ap (λ (cs : List ℕ). cursor ∷ cs) (cursors-ids_from cursor (ordinal + 1) n)

-- one run more
pub cursors_by-more : (runs : List Run) (i : ℕ) (d : Run) → i < length runs
    → cursors_by (take (i + 1) runs) ≡ cursors_by (take i runs) ++ replicate (get_or runs i d).count (get_or runs i d).cursor
cursors_by-more runs i d within =
    let run = get_or runs i d in
    ap cursors_by (take_more runs i d within)
    ∙ ap (map cursor_of) (flat_map-append ids_of (take i runs) (run ∷ []) ∙ ap (λ (ids : List RecordId). ids_by (take i runs) ++ ids) (ids-one run))
    ∙ map-append cursor_of (ids_by (take i runs)) (ids_of run)
    ∙ ap (λ (cs : List ℕ). cursors_by (take i runs) ++ cs) (cursors-ids_from run.cursor run.first run.count)

-- a list that was empty has what was put in alone
pub only : (before after : List Run) (run : Run) → before ≡ [] → after ≡ before ++ run ∷ [] → after ≡ run ∷ []
only before after run none is = is ∙ ap (λ (runs : List Run). runs ++ run ∷ []) none

pub range-one : (runs : List Run) (run : Run) → runs ≡ run ∷ [] → IsInRange run → All IsInRange runs
range-one runs run is small = rw is (All-cons IsInRange run [] small (All-nil IsInRange))

pub length-one : (runs : List Run) (run : Run) → runs ≡ run ∷ [] → length (ids_by runs) ≡ run.count
length-one runs run is = ap (λ (rs : List Run). length (ids_by rs)) is ∙ ap length (ids-one run) ∙ length-ids_from run.cursor run.first run.count

-- numbered rows are the rows
pub rows-numbered : (cursor first : ℕ) (rows : List (List Value)) → map row_of (numbered cursor first rows) ≡ rows
rows-numbered cursor first [] = refl
rows-numbered cursor first (r ∷ rows) = ap (λ (rs : List (List Value)). r ∷ rs) (rows-numbered cursor (first + 1) rows)

-- the ids and the rows of records under each other are the records
pub named-apart : (rs : List Record) → named (map id_of rs) (map row_of rs) ≡ rs
named-apart [] = refl
named-apart (r ∷ rs) = ap (λ (xs : List Record). r ∷ xs) (named-apart rs)
