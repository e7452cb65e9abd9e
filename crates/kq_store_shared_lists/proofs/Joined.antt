-- Two parts that become one.
use Rattle.std.proofs.Common.{◌≡◌, ◌+◌, ℕ, List, [], ◌∷◌, ◌++◌, length, get_or, set, take, ap, sym, ◌∙◌, arith, append_assoc, append-nil}
use Rattle.std.proofs.lemmas.List.{take_more, take_all, length-take}
use Rattle.std.proofs.lemmas.List.Concat.{flat_map-append}
use Rattle.std.proofs.Math.Seq.{set-append_seam}
use Rattle.kq_store_shared_lists.specs.declared.parts.Part.{Part}
use Rattle.kq_store_shared_lists.specs.Pieces.{part_items, items_in}

pub items_in-joined : {T : Type 0} (parts : List (Part T)) (n : ℕ) (a b p : Part T) → length parts ≡ n + 2 → a ≡ get_or parts n a → b ≡ get_or parts (n + 1) b → part_items p ≡ part_items a ++ part_items b
    → items_in (set (take (n + 1) parts) n p) ≡ items_in parts
items_in-joined {T} parts n a b p two is_a is_b joined =
    let front = take n parts in
    let with_a : take (n + 1) parts ≡ front ++ a ∷ [] = take_more parts n a (omega arith) ∙ ap (λ x. front ++ x ∷ []) (sym is_a) in
    let with_b : parts ≡ (front ++ a ∷ []) ++ b ∷ [] =
    sym (take_all (n + 1 + 1) parts (omega arith)) ∙ take_more parts (n + 1) b (omega arith) ∙ ap (λ x. take (n + 1) parts ++ x ∷ []) (sym is_b) ∙ ap (λ xs. xs ++ b ∷ []) with_a in
    let n_is : length front ≡ n = omega (arith, length-take n parts) in
    let put : set (take (n + 1) parts) n p ≡ front ++ p ∷ [] = ap (λ xs. set xs n p) with_a ∙ ap (λ k. set (front ++ a ∷ []) k p) (sym n_is) ∙ set-append_seam front a [] p in
    ap items_in put ∙ flat_map-append (λ (x : Part T). part_items x) front (p ∷ [])
    ∙ ap (λ xs. items_in front ++ xs) (append-nil (part_items p) ∙ joined ∙ ap (λ xs. part_items a ++ xs) (sym (append-nil (part_items b))))
    ∙ sym (flat_map-append (λ (x : Part T). part_items x) front (a ∷ b ∷ []))
    ∙ ap items_in (sym (append_assoc front (a ∷ []) (b ∷ [])) ∙ sym with_b)
