-- The words of types.
use Rattle.std.specs.Prelude.{ℕ, Bool, List, [], ◌∷◌, Option, Some, None, codes, nat_eq, if◌then◌else◌}
use Rattle.std.specs.List.{list_any}
use Rattle.std.specs.Cmp.Lexicographic.{pointwise}
use Rattle.kq_value.specs.declared.ty.Ty.{Ty}
use Rattle.kq_value.specs.declared.ty.Ty.TheVariants.{Long, Int, Text, Bool as Truth, Moment, Span, Dynamic}

abbrev pub same : List ℕ → List ℕ → Bool
same = pointwise nat_eq

abbrev pub is_one_of : List (List ℕ) → List ℕ → Bool
is_one_of words text = list_any (same text) words

-- the type of a word, or of its alias
abbrev pub ty_of : List ℕ → Option Ty
ty_of word =
    if is_one_of (codes "long" ∷ codes "int64" ∷ []) word then Some Long
    else if same word (codes "int") then Some Int
    else if same word (codes "string") then Some Text
    else if is_one_of (codes "bool" ∷ codes "boolean" ∷ []) word then Some Truth
    else if is_one_of (codes "datetime" ∷ codes "date" ∷ []) word then Some Moment
    else if is_one_of (codes "timespan" ∷ codes "time" ∷ []) word then Some Span
    else if same word (codes "dynamic") then Some Dynamic
    else None
