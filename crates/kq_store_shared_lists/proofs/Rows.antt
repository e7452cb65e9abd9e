-- Items that stand in a row.
use Rattle.std.proofs.Common.{◌≡◌, ◌<◌, ◌≤◌, ◌+◌, ℕ, List, [], ◌++◌, Some, length, map, drop, get_or, ap, sym, subst, ◌∙◌, arith, length-append, append_assoc, append-nil, length-drop}
use Rattle.std.specs.List.{slice_get}
use Rattle.std.proofs.lemmas.Option.{slice_get-get_or}
use Rattle.std.proofs.lemmas.List.{get_or-drop, get_or_append_left, get_or-map, length-map, drop-append-le, drop-drop}
use Rattle.std.proofs.Math.ListN.{drop_of_length-le}
use Rattle.std.proofs.Math.Seq.{drop-append-add}
use Rattle.kq_store_shared_lists.specs.Standing.{StandsAt}

-- all that stands from a place on
pub StandsAt-drop : {T : Type 0} (xs : List T) (at : ℕ) → StandsAt xs at (drop at xs)
StandsAt-drop xs at = record {
  is = let none : drop (at + length (drop at xs)) xs ≡ [] = drop_of_length-le xs (let n = length-drop at xs in omega (arith, n)) in sym (ap (λ ys. drop at xs ++ ys) none ∙ append-nil (drop at xs));
}

-- what stands in the first of two lists stands in both together
pub StandsAt-left : {T : Type 0} (xs zs : List T) (at : ℕ) (ys : List T) → at < length xs → StandsAt xs at ys → StandsAt (xs ++ zs) at ys
StandsAt-left xs zs at ys within stands = record {
  is = let n = ap length stands.is in
      let far : at + length ys ≤ length xs = omega (arith, n, length-append ys (drop (at + length ys) xs), length-drop at xs, length-drop (at + length ys) xs) in
      drop-append-le at xs zs (omega (arith, within)) ∙ ap (λ x. x ++ zs) stands.is ∙ append_assoc ys (drop (at + length ys) xs) zs ∙ ap (λ x. ys ++ x) (sym (drop-append-le (at + length ys) xs zs far));
}

-- what stands in the second of two lists stands that much later in both together
pub StandsAt-right : {T : Type 0} (zs xs : List T) (at rest : ℕ) (ys : List T) → length zs + rest ≡ at → StandsAt xs rest ys → StandsAt (zs ++ xs) at ys
StandsAt-right {T} zs xs at rest ys is stands =
    subst (λ n. StandsAt (zs ++ xs) n ys) is record {
      is = let after : length zs + rest + length ys ≡ length zs + (rest + length ys) = omega arith in
          drop-append-add zs xs rest ∙ stands.is ∙ ap (λ x. ys ++ x) (sym (ap (λ n. drop n (zs ++ xs)) after ∙ drop-append-add zs xs (rest + length ys)));
    }

-- the first of what stands there is the item of the place
pub StandsAt-get : {T H : Type 0} (value : H → T) (xs : List T) (at : ℕ) (hs : List H) (h : H) → at < length xs → 0 < length hs → h ≡ get_or hs 0 h → StandsAt xs at (map value hs) → slice_get xs at ≡ Some (value h)
StandsAt-get value xs at hs h within some is stands =
    let n : at + 0 ≡ at = omega arith in
    let first : get_or xs at (value h) ≡ value h =
    ap (λ k. get_or xs k (value h)) (sym n) ∙ sym (get_or-drop at xs 0 (value h)) ∙ ap (λ ys. get_or ys 0 (value h)) stands.is
    ∙ get_or_append_left (map value hs) (drop (at + length (map value hs)) xs) (value h) 0 (let l = length-map hs value in omega (arith, l, some))
    ∙ get_or-map value hs 0 h (value h) some ∙ ap value (sym is) in
    slice_get-get_or xs at (value h) within ∙ ap Some first

-- what stands in a list stands that much earlier in the list without its first
pub StandsAt-dropped : {T : Type 0} (xs : List T) (gone at : ℕ) (ys : List T) → StandsAt xs (gone + at) ys → StandsAt (drop gone xs) at ys
StandsAt-dropped xs gone at ys stands = record {
  is = let same : gone + at + length ys ≡ gone + (at + length ys) = omega arith in
      drop-drop at gone xs ∙ stands.is ∙ ap (λ zs. ys ++ zs) (ap (λ n. drop n xs) same ∙ sym (drop-drop (at + length ys) gone xs));
}
