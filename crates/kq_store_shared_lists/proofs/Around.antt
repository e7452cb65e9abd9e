-- A part among the others.
use Rattle.std.proofs.Common.{◌≡◌, ◌<◌, ◌≤◌, ◌+◌, ◌-◌, ℕ, List, ◌∷◌, ◌++◌, Some, length, suc, get_or, set, take, drop, refl, ap, sym, subst, ◌∙◌, arith, length-append, append_assoc}
use Rattle.std.specs.List.{slice_get}
use Rattle.std.specs.Arc.{arc_value}
use Rattle.std.proofs.lemmas.Option.{slice_get_within, get_or_from_slice_get, slice_get-get_or}
use Rattle.std.proofs.lemmas.List.{take-append-drop, take_all, length-take, length-set, set-append_left, set-append_right}
use Rattle.std.proofs.lemmas.List.Elements.{All-set}
use Rattle.std.proofs.lemmas.List.Concat.{flat_map-append}
use Rattle.std.proofs.Math.Seq.{set-append_seam, drop-cons}
use Rattle.kq_store_shared_lists.specs.declared.parts.Part.{Part}
use Rattle.kq_store_shared_lists.specs.Pieces.{part_items, items_in, HasCounts, LeadsTo, IsCounted, AreCounted, IsWhole}
use Rattle.kq_store_shared_lists.specs.Standing.{StandsAt}
use Rattle.kq_store_shared_lists.proofs.Rows.{StandsAt-left, StandsAt-right}

-- an element that was read
pub Some_of : {X : Type 0} (xs : List X) (i : ℕ) (x : X) → i < length xs → x ≡ get_or xs i x → slice_get xs i ≡ Some x
Some_of xs i x within is = slice_get-get_or xs i x within ∙ ap Some (sym is)

-- the list, cut at an element
cut : {X : Type 0} (xs : List X) (i : ℕ) (x : X) → slice_get xs i ≡ Some x → xs ≡ take i xs ++ x ∷ drop (i + 1) xs
cut xs i x is =
    let within = slice_get_within xs i x is in
    let next : i + 1 ≡ suc i = omega arith in
    sym (take-append-drop i xs) ∙ ap (λ ys. take i xs ++ ys) (drop-cons xs i x within ∙ ap (λ y. y ∷ drop (suc i) xs) (get_or_from_slice_get xs i x x is) ∙ ap (λ n. x ∷ drop n xs) (sym next))

pub items_in-around : {T : Type 0} (parts : List (Part T)) (i : ℕ) (p : Part T) → slice_get parts i ≡ Some p → items_in parts ≡ items_in (take i parts) ++ (part_items p ++ items_in (drop (i + 1) parts))
items_in-around {T} parts i p is = ap items_in (cut parts i p is) ∙ flat_map-append (λ (x : Part T). part_items x) (take i parts) (p ∷ drop (i + 1) parts)

-- what stands in the part stands in the whole list
pub StandsAt-part : {T : Type 0} (parts : List (Part T)) (tail : List T) (at i rest : ℕ) (p : Part T) (ys : List T) → LeadsTo parts at i rest → slice_get parts i ≡ Some p → StandsAt (part_items p) rest ys → StandsAt (items_in parts ++ tail) at ys
StandsAt-part {T} parts tail at i rest p ys leads is stands =
    let front = items_in (take i parts) in
    let back = items_in (drop (i + 1) parts) in
    let inside = leads.inside p is in
    let whole : front ++ ((part_items p ++ back) ++ tail) ≡ items_in parts ++ tail = sym (append_assoc front (part_items p ++ back) tail) ∙ ap (λ xs. xs ++ tail) (sym (items_in-around parts i p is)) in
    subst (λ xs. StandsAt xs at ys) whole
    (StandsAt-right front ((part_items p ++ back) ++ tail) at rest ys leads.before
    (StandsAt-left (part_items p ++ back) tail rest ys (omega (arith, inside, length-append (part_items p) back)) (StandsAt-left (part_items p) back rest ys inside stands)))

-- what stands in the tail stands in the whole list
pub StandsAt-tail : {T : Type 0} (parts : List (Part T)) (tail : List T) (at i rest : ℕ) (ys : List T) → LeadsTo parts at i rest → length parts ≤ i → StandsAt tail rest ys → StandsAt (items_in parts ++ tail) at ys
StandsAt-tail parts tail at i rest ys leads past stands =
    StandsAt-right (items_in parts) tail at rest ys (ap (λ ps. length (items_in ps) + rest) (sym (take_all i parts past)) ∙ leads.before) stands

-- another item in one part is another item in the whole list
pub items_in-set : {T : Type 0} (parts : List (Part T)) (tail : List T) (at i rest : ℕ) (p new : Part T) (v : T) → LeadsTo parts at i rest → slice_get parts i ≡ Some p → part_items new ≡ set (part_items p) rest v
    → items_in (set parts i new) ++ tail ≡ set (items_in parts ++ tail) at v
items_in-set {T} parts tail at i rest p new v leads is changed =
    let front = items_in (take i parts) in
    let back = items_in (drop (i + 1) parts) in
    let inside = leads.inside p is in
    let within = slice_get_within parts i p is in
    let n : length (take i parts) ≡ i = omega (arith, length-take i parts, within) in
    let there : at - length front ≡ rest = omega (arith, leads.before) in
    let inner : rest < length (part_items p ++ back) = omega (arith, inside, length-append (part_items p) back) in
    let put : set parts i new ≡ take i parts ++ new ∷ drop (i + 1) parts = ap (λ ps. set ps i new) (cut parts i p is) ∙ ap (λ k. set (take i parts ++ p ∷ drop (i + 1) parts) k new) (sym n) ∙ set-append_seam (take i parts) p (drop (i + 1) parts) new in
    let right : set (items_in parts) at v ≡ front ++ (part_items new ++ back) =
    ap (λ xs. set xs at v) (items_in-around parts i p is) ∙ set-append_right front (part_items p ++ back) (length front) at v refl (omega (arith, leads.before))
    ∙ ap (λ k. front ++ set (part_items p ++ back) k v) there ∙ ap (λ xs. front ++ xs) (set-append_left (part_items p) back rest v inside ∙ ap (λ xs. xs ++ back) (sym changed)) in
    let whole : at < length (items_in parts) = omega (arith, ap length (items_in-around parts i p is), length-append front (part_items p ++ back), inner, leads.before) in
    ap (λ ps. items_in ps ++ tail) put ∙ ap (λ xs. xs ++ tail) (flat_map-append (λ (x : Part T). part_items x) (take i parts) (new ∷ drop (i + 1) parts) ∙ sym right)
    ∙ sym (set-append_left (items_in parts) tail at v whole)

-- another item in the tail is another item in the whole list
pub items_in-set_tail : {T : Type 0} (parts : List (Part T)) (tail : List T) (at i rest : ℕ) (v : T) → LeadsTo parts at i rest → length parts ≤ i → items_in parts ++ set tail rest v ≡ set (items_in parts ++ tail) at v
items_in-set_tail parts tail at i rest v leads past =
    let before : length (items_in parts) + rest ≡ at = ap (λ ps. length (items_in ps) + rest) (sym (take_all i parts past)) ∙ leads.before in
    let there : rest ≡ at - length (items_in parts) = omega (arith, before) in
    sym (set-append_right (items_in parts) tail (length (items_in parts)) at v refl (omega (arith, before)) ∙ ap (λ k. items_in parts ++ set tail k v) (sym there))

-- another item on the left, and on the right
pub set-in_left : {T : Type 0} (left right changed whole : List T) (at : ℕ) (v : T) → at < length left → changed ≡ set left at v → whole ≡ changed ++ right → whole ≡ set (left ++ right) at v
set-in_left left right changed whole at v within is joined = joined ∙ ap (λ xs. xs ++ right) is ∙ sym (set-append_left left right at v within)

pub set-in_right : {T : Type 0} (left right changed whole : List T) (at : ℕ) (v : T) → length left ≤ at → changed ≡ set right (at - length left) v → whole ≡ left ++ changed → whole ≡ set (left ++ right) at v
set-in_right left right changed whole at v past is joined = joined ∙ ap (λ xs. left ++ xs) is ∙ sym (set-append_right left right (length left) at v refl past)

pub IsWhole-set : {T : Type 0} (parts : List (Part T)) (tail : List T) (len at i rest : ℕ) (p new : Part T) (v : T) → IsWhole parts tail len → LeadsTo parts at i rest → slice_get parts i ≡ Some p → part_items new ≡ set (part_items p) rest v
    → new.len ≡ p.len → HasCounts (arc_value new.piece) → IsWhole (set parts i new) tail len
IsWhole-set {T} parts tail len at i rest p new v whole leads is changed same counts =
    let within = slice_get_within parts i p is in
    let known : IsCounted p = read whole.counted in
    let new_known : IsCounted new = record { len = same ∙ known.len ∙ sym (ap length changed ∙ length-set (part_items p) rest v); counts = counts } in record {
      counted = All-set (λ (x : Part T). IsCounted x) parts i new new_known whole.counted;
      total = whole.total ∙ sym (ap length (items_in-set parts tail at i rest p new v leads is changed) ∙ length-set (items_in parts ++ tail) at v);
      small = whole.small;
    }
  where
    read : AreCounted parts → IsCounted p
    read all = subst (λ (x : Part T). IsCounted x) (get_or_from_slice_get parts i p p is) (all i p (slice_get_within parts i p is))
