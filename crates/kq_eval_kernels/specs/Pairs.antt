-- What an operator gives of two lists side by side.
use Rattle.std.specs.Prelude.{List, [], ◌∷◌}
use Rattle.kq_value.specs.Computed.{Computed, Is, and_then}

-- the values of the pairs, in order, as far as both lists go, or an overflow where one overflows
abbrev pub each_two : {A B C : Type 0} → (A → B → Computed C) → List A → List B → Computed (List C)
each_two f [] ys = Is []
each_two f (x ∷ xs) [] = Is []
each_two f (x ∷ xs) (y ∷ ys) = and_then (f x y) (λ z. and_then (each_two f xs ys) (λ zs. Is (z ∷ zs)))

-- an operator that never overflows
abbrev pub without_overflow : {A B C : Type 0} → (A → B → C) → A → B → Computed C
without_overflow f x y = Is (f x y)
