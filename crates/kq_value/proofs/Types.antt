-- Rows with the types of their columns.
use Rattle.std.proofs.Common.{◌≡◌, suc, List, [], ◌∷◌, ◌++◌, length, refl, ap}
use Rattle.kq_value.specs.declared.schema.Field.{Field}
use Rattle.kq_value.specs.declared.value.Value.{Value}
use Rattle.kq_value.specs.Typed.{HasTypes}

pub length-HasTypes : (fs : List Field) (vs : List Value) → HasTypes fs vs → length fs ≡ length vs
length-HasTypes [] [] h = refl
length-HasTypes [] (v ∷ vs) h = absurd h
length-HasTypes (f ∷ fs) [] h = absurd h
length-HasTypes (f ∷ fs) (v ∷ vs) h = ap suc (length-HasTypes fs vs h.1)

pub HasTypes-append : (fs gs : List Field) (vs ws : List Value) → HasTypes fs vs → HasTypes gs ws → HasTypes (fs ++ gs) (vs ++ ws)
HasTypes-append [] gs [] ws h k = k
HasTypes-append [] gs (v ∷ vs) ws h k = absurd h
HasTypes-append (f ∷ fs) gs [] ws h k = absurd h
HasTypes-append (f ∷ fs) gs (v ∷ vs) ws h k = (h.0, HasTypes-append fs gs vs ws h.1 k)
