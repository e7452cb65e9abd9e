-- Some of a list by tests, and lists put together by them.
use Rattle.std.specs.Prelude.{Bool, true, false, not, if◌then◌else◌, List, [], ◌∷◌}
use Rattle.kq_value.specs.declared.value.Value.{Value}
use Rattle.kq_value_arithmetic.specs.Logic.{is_yes}
use Rattle.kq_eval_row.specs.kq_value_conversions.Converted.{empty_test}

-- those with a true test beside them
abbrev pub picked : {A : Type 0} → List Bool → List A → List A
picked [] ys = []
picked (t ∷ ts) [] = []
picked (t ∷ ts) (y ∷ ys) = if t then y ∷ picked ts ys else picked ts ys

-- the next of the first list where the test is true, and else the next of the second
abbrev pub merged : {A : Type 0} → List Bool → List A → List A → List A
merged [] ys zs = []
merged (true ∷ ts) [] zs = []
merged (true ∷ ts) (y ∷ ys) zs = y ∷ merged ts ys zs
merged (false ∷ ts) ys [] = []
merged (false ∷ ts) ys (z ∷ zs) = z ∷ merged ts ys zs

-- whether a value is neither null nor empty
abbrev pub is_present : Value → Bool
is_present v = not (is_yes (empty_test v))
