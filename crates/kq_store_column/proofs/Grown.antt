-- Cells that came so far, and one more.
use Rattle.std.proofs.Common.{◌≡◌, ◌<◌, ℕ, ℤ, Bool, List, [], ◌∷◌, ◌++◌, Some, All, length, map, take, refl, ◌∙◌, slice_get}
use Rattle.std.proofs.lemmas.List.{map_push}
use Rattle.std.proofs.lemmas.Option.{get_or_from_slice_get}
use Rattle.kq_value.specs.declared.ty.Ty.{Ty}
use Rattle.kq_value.specs.declared.ty.Ty.TheVariants as ty
use Rattle.kq_value.specs.declared.value.Value.{Value}
use Rattle.kq_value.specs.declared.value.Value.TheVariants.{Null}
use Rattle.kq_store_column_view.specs.Numbers.{marked, number_cell, IsOfNumbers}
use Rattle.kq_store_column.specs.Built.{AreBuilt}
use Rattle.kq_store_column.specs.Growing.{AreGrown}
use Rattle.kq_store_column.specs.Words.{word_at}
use Rattle.kq_store_column.proofs.Coded.{same_words}

pub built_from : (t : Ty) (ns : List Bool) (zs : List ℤ) (any : Bool) → AreGrown t ns zs any → AreBuilt t ns zs any (map (number_cell t) (marked ns zs))
built_from t ns zs any grown = record { long = grown.long; stand = refl; plain = grown.plain; fit = grown.fit }

pub grown_from : (t : Ty) (ns : List Bool) (zs : List ℤ) (any : Bool) (cells : List Value) → IsOfNumbers t → AreBuilt t ns zs any cells → AreGrown t ns zs any
grown_from t ns zs any cells of built = record { of_numbers = of; long = built.long; plain = built.plain; fit = built.fit }

-- the cells of the codes so far and of one more
pub words_push : (words more : List Value) (codes : List ℕ) (code : ℕ) (v : Value) → take (length words) more ≡ words → All (λ c. c < length words) codes → slice_get more code ≡ Some v
    → map (word_at more) (codes ++ code ∷ []) ≡ map (word_at words) codes ++ v ∷ []
words_push words more codes code v kept known got =
    map_push (word_at more) codes code ∙ (λ j. same_words words more codes kept known j ++ get_or_from_slice_get more code v (Null ty.Long) got j ∷ [])
