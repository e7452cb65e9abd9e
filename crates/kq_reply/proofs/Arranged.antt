-- Lines are put behind others, and what is sorted by a key has sorted keys.
use Rattle.std.proofs.Common.{◌≡◌, ◌<◌, ◌+◌, ℕ, List, [], ◌∷◌, ◌++◌, IsSorted, length, map, take, get_or, slice_index_or, sym, ap, ◌∙◌, append_assoc, arith}
use Rattle.std.proofs.lemmas.List.{map_more, flat_map_more, get_or-map, length-map}
use Rattle.std.specs.declared.cmp.Ordering.{Ordering}
use Rattle.std.specs.List.{flat_map}
use Rattle.kq_reply.specs.Lines.{ended}

-- a line and its LF are put behind others
pub ended-put : {X : Type 0} (f : X → List ℕ) (xs : List X) (i : ℕ) (x : X) (start old line new : List ℕ) → i < length xs → x ≡ get_or xs i x
    → old ≡ start ++ flat_map ended (map f (take i xs)) → line ≡ old ++ f x → new ≡ line ++ 10 ∷ [] → new ≡ start ++ flat_map ended (map f (take (i + 1) xs))
ended-put {X} f xs i x start old line new within is before then last =
    let lines = map f (take i xs) in
    last
    ∙ ap (λ (l : List ℕ). l ++ 10 ∷ []) then
    ∙ append_assoc old (f x) (10 ∷ [])
    ∙ ap (λ (l : List ℕ). l ++ ended (f x)) before
    ∙ flat_map_more ended start lines (f x)
    ∙ ap (λ (ls : List (List ℕ)). start ++ flat_map ended ls) (ap (λ (y : X). lines ++ f y ∷ []) is ∙ sym (map_more f xs i x within))

-- what is sorted by a key has sorted keys
pub IsSorted-map : {X K : Type 0} (f : X → K) (cmp : K → K → Ordering) (xs : List X) → IsSorted (λ x y. cmp (f x) (f y)) xs → IsSorted cmp (map f xs)
IsSorted-map f cmp [] sorted k d low high = absurd (omega (arith, high))
IsSorted-map {X} {K} f cmp (x ∷ xs) sorted k d low high =
    let all = x ∷ xs in
    let fits : k + 1 < length all = omega (arith, high, length-map all f) in
    let later : slice_index_or (map f all) (k + 1) d ≡ f (slice_index_or all (k + 1) x) = get_or-map f all (k + 1) x d fits in
    let earlier : slice_index_or (map f all) k d ≡ f (slice_index_or all k x) = get_or-map f all k x d (omega (arith, fits)) in
    rw (later, earlier) (sorted k x low fits)
