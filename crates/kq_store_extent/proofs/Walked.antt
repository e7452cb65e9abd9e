-- Walks over extents, part by part.
use Rattle.std.proofs.Common.{◌≡◌, ◌<◌, ◌≤◌, ◌+◌, ℕ, List, [], ◌∷◌, ◌++◌, length, map, take, drop, get_or, ap, sym, subst, ◌∙◌, arith, append-nil, append_assoc, length-append, length-drop}
use Rattle.std.proofs.lemmas.List.{map-append, get_or-map, length-map, take-append-drop, take_at, take_more, length-take-le}
use Rattle.std.proofs.lemmas.List.Concat.{flat_map-append}
use Rattle.kq_value.specs.declared.record.Record.{Record}
use Rattle.kq_value.specs.declared.record_id.RecordId.{RecordId}
use Rattle.kq_value.specs.declared.value.Value.{Value}
use Rattle.kq_store_shared_lists.specs.Standing.{StandsAt}
use Rattle.kq_store_rows.specs.Chunks.{same_width}
use Rattle.kq_store_extent.specs.Seen.{ExtentView, HeldExtents, records_in, held_extents, held_records, id_of, row_of}
use Rattle.kq_store_extent.proofs.Across.{same_width-left}

-- what stands from a place on comes next, and lies within
pub StandsAt-within : {T : Type 0} (xs : List T) (at : ℕ) (ys : List T) → at ≤ length xs → StandsAt xs at ys → at + length ys ≤ length xs
StandsAt-within xs at ys within stands =
    let n = ap length stands.is in omega (arith, n, within, length-append ys (drop (at + length ys) xs), length-drop at xs, length-drop (at + length ys) xs)

StandsAt-take : {T : Type 0} (xs : List T) (at : ℕ) (ys : List T) → at ≤ length xs → StandsAt xs at ys → take (at + length ys) xs ≡ take at xs ++ ys
StandsAt-take xs at ys within stands =
    let rest = drop (at + length ys) xs in
    let long : length (take at xs ++ ys) ≡ at + length ys = length-append (take at xs) ys ∙ ap (λ n. n + length ys) (length-take-le at xs within) in
    ap (take (at + length ys)) (sym (take-append-drop at xs) ∙ ap (λ zs. take at xs ++ zs) stands.is ∙ sym (append_assoc (take at xs) ys rest)) ∙ take_at (take at xs ++ ys) rest (at + length ys) long

records_in-append : (xs ys : List ExtentView) → records_in (xs ++ ys) ≡ records_in xs ++ records_in ys
records_in-append xs ys = flat_map-append (λ (e : ExtentView). e.records) xs ys

pub records_in-held : (held : HeldExtents) → records_in (held_extents held) ≡ held_records held
records_in-held held = records_in-append held.small held.big

-- the extent behind a handle
pub behind : {H : Type 0} (value : H → ExtentView) (handles : List H) (i : ℕ) (h : H) → i < length handles → h ≡ get_or handles i h → get_or (map value handles) i (value h) ≡ value h
behind value handles i h within is = get_or-map value handles i h (value h) within ∙ ap value (sym is)

pub behind-within : {H : Type 0} (value : H → ExtentView) (handles : List H) (i : ℕ) → i < length handles → i < length (map value handles)
behind-within value handles i within = let n = length-map handles value in omega (arith, n, within)

-- an extent more
pub records_in-more : (es : List ExtentView) (i : ℕ) (e : ExtentView) → i < length es → get_or es i e ≡ e → records_in (take (i + 1) es) ≡ records_in (take i es) ++ e.records
records_in-more es i e within is =
    ap records_in (take_more es i e within ∙ ap (λ (x : ExtentView). take i es ++ x ∷ []) is)
    ∙ records_in-append (take i es) (e ∷ []) ∙ ap (λ (rs : List Record). records_in (take i es) ++ rs) (append-nil e.records)

-- a part more
pub records_in-part : (es : List ExtentView) (at : ℕ) (part : List ExtentView) → at ≤ length es → StandsAt es at part → records_in (take (at + length part) es) ≡ records_in (take at es) ++ records_in part
records_in-part es at part within stands = ap records_in (StandsAt-take es at part within stands) ∙ records_in-append (take at es) part

split_at : (n : ℕ) (es : List ExtentView) → records_in es ≡ records_in (take n es) ++ records_in (drop n es)
split_at n es = ap records_in (sym (take-append-drop n es)) ∙ records_in-append (take n es) (drop n es)

-- the first extents have no more records than all
pub records_in-first : (n : ℕ) (es : List ExtentView) → length (records_in (take n es)) ≤ length (records_in es)
records_in-first n es = let e = ap length (split_at n es) in omega (arith, e, length-append (records_in (take n es)) (records_in (drop n es)))

-- the rows of extents
abbrev pub rows_by : List ExtentView → List (List Value)
rows_by es = map row_of (records_in es)

-- rows before some extents and theirs are of one width, where those before all and theirs are
pub same_width-first : (before : List (List Value)) (n : ℕ) (es : List ExtentView) → same_width (before ++ rows_by es) → same_width (before ++ rows_by (take n es))
same_width-first before n es same =
    let all : before ++ rows_by es ≡ (before ++ rows_by (take n es)) ++ rows_by (drop n es) =
    ap (λ (rs : List (List Value)). before ++ rs) (ap (map row_of) (split_at n es) ∙ map-append row_of (records_in (take n es)) (records_in (drop n es)))
    ∙ sym (append_assoc before (rows_by (take n es)) (rows_by (drop n es))) in
    same_width-left (before ++ rows_by (take n es)) (rows_by (drop n es)) (subst (λ (rs : List (List Value)). same_width rs) all same)

-- the rows of the next extent, behind those before
pub rows_by-more : (before : List (List Value)) (es : List ExtentView) (i : ℕ) (e : ExtentView) → i < length es → get_or es i e ≡ e
    → (before ++ rows_by (take i es)) ++ map row_of e.records ≡ before ++ rows_by (take (i + 1) es)
rows_by-more before es i e within is =
    append_assoc before (rows_by (take i es)) (map row_of e.records)
    ∙ ap (λ (rs : List (List Value)). before ++ rs) (sym (map-append row_of (records_in (take i es)) e.records) ∙ ap (map row_of) (sym (records_in-more es i e within is)))

-- the rows of the next part
pub rows_by-part : (es : List ExtentView) (at : ℕ) (part : List ExtentView) → at ≤ length es → StandsAt es at part → rows_by (take at es) ++ rows_by part ≡ rows_by (take (at + length part) es)
rows_by-part es at part within stands =
    sym (map-append row_of (records_in (take at es)) (records_in part)) ∙ ap (map row_of) (sym (records_in-part es at part within stands))

-- the rows so far and those of the next part are of one width, where all are
pub same_width-part : (held : HeldExtents) (at : ℕ) (part : List ExtentView) (rows : List (List Value)) → at ≤ length (held_extents held) → StandsAt (held_extents held) at part
    → same_width (map row_of (held_records held)) → rows ≡ rows_by (take at (held_extents held)) → same_width (rows ++ rows_by part)
same_width-part held at part rows within stands same is =
    let es = held_extents held in
    let all : same_width (rows_by es) = subst (λ (rs : List Record). same_width (map row_of rs)) (sym (records_in-held held)) same in
    let so_far : rows ++ rows_by part ≡ rows_by (take (at + length part) es) = ap (λ (rs : List (List Value)). rs ++ rows_by part) is ∙ rows_by-part es at part within stands in
    subst (λ (rs : List (List Value)). same_width rs) (sym so_far) (same_width-first [] (at + length part) es all)

-- the ids of the records of extents
abbrev pub ids_in : List ExtentView → List RecordId
ids_in es = map id_of (records_in es)

-- the ids of one extent more
pub ids_in-more : (es : List ExtentView) (i : ℕ) (e : ExtentView) → i < length es → get_or es i e ≡ e → ids_in (take i es) ++ map id_of e.records ≡ ids_in (take (i + 1) es)
ids_in-more es i e within is = sym (map-append id_of (records_in (take i es)) e.records) ∙ ap (map id_of) (sym (records_in-more es i e within is))
