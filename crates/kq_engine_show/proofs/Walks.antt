-- Rows for items, one by one and part by part.
use Rattle.std.proofs.Common.{◌≡◌, ◌<◌, ◌≤◌, ◌+◌, ℕ, List, [], ◌∷◌, ◌++◌, length, map, take, drop, get_or, ap, sym, ◌∙◌, arith, append_assoc, length-append, length-drop}
use Rattle.std.proofs.lemmas.List.{map-append, map_push, get_or-map, length-map, take-append-drop, take_at, take_more, length-take-le}
use Rattle.kq_value.specs.declared.value.Value.{Value}
use Rattle.kq_store_shared_lists.specs.Standing.{StandsAt}

-- what stands from a place on comes next, and lies within
pub StandsAt-within : {T : Type 0} (xs : List T) (at : ℕ) (ys : List T) → at ≤ length xs → StandsAt xs at ys → at + length ys ≤ length xs
StandsAt-within xs at ys within stands =
    let n = ap length stands.is in omega (arith, n, within, length-append ys (drop (at + length ys) xs), length-drop at xs, length-drop (at + length ys) xs)

StandsAt-take : {T : Type 0} (xs : List T) (at : ℕ) (ys : List T) → at ≤ length xs → StandsAt xs at ys → take (at + length ys) xs ≡ take at xs ++ ys
StandsAt-take xs at ys within stands =
    let rest = drop (at + length ys) xs in
    let long : length (take at xs ++ ys) ≡ at + length ys = length-append (take at xs) ys ∙ ap (λ n. n + length ys) (length-take-le at xs within) in
    ap (take (at + length ys)) (sym (take-append-drop at xs) ∙ ap (λ zs. take at xs ++ zs) stands.is ∙ sym (append_assoc (take at xs) ys rest)) ∙ take_at (take at xs ++ ys) rest (at + length ys) long

-- the rows of the next part, behind those before
pub rows-part : {E : Type 0} (shown : E → List Value) (es : List E) (at : ℕ) (part : List E) → at ≤ length es → StandsAt es at part
    → map shown (take at es) ++ map shown part ≡ map shown (take (at + length part) es)
rows-part shown es at part within stands = sym (map-append shown (take at es) part) ∙ ap (map shown) (sym (StandsAt-take es at part within stands))

-- the row of the next item, behind those before
pub rows-more : {H E : Type 0} (value : H → E) (shown : E → List Value) (before : List (List Value)) (handles : List H) (i : ℕ) (h : H) → i < length handles → h ≡ get_or handles i h
    → (before ++ map shown (take i (map value handles))) ++ shown (value h) ∷ [] ≡ before ++ map shown (take (i + 1) (map value handles))
rows-more value shown before handles i h within is =
    let es = map value handles in
    let n = length-map handles value in
    let next : get_or es i (value h) ≡ value h = get_or-map value handles i h (value h) within ∙ ap value (sym is) in
    let more = take_more es i (value h) (omega (arith, n, within)) ∙ ap (λ e. take i es ++ e ∷ []) next in
    append_assoc before (map shown (take i es)) (shown (value h) ∷ [])
    ∙ ap (λ rs. before ++ rs) (sym (map_push shown (take i es) (value h)) ∙ ap (map shown) (sym more))
