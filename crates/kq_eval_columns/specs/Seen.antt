-- Parts of the code, as the definitions speak of them.
use Rattle.std.specs.Prelude.{ℕ, pos, Bool, List, [], ◌∷◌, map, length, min, replicate, Option, option_map}
use Rattle.std.specs.Borrow.{Bor}
use Rattle.kq_value.specs.declared.dynamic.Dyn.{Dyn}
use Rattle.kq_value.specs.declared.value.Value.TheVariants.{Bool as Truth}
use Rattle.kq_value.specs.declared.value.Value.{Value}
use Rattle.kq_value.specs.Computed.{Computed, Is, each}
use Rattle.kq_plan_expressions.specs.declared.expr.Expr.{Expr}
use Rattle.kq_plan_functions.specs.declared.function.Function.{Function}
use Rattle.kq_plan_functions.specs.declared.function.Function.TheVariants.{Member}
use Rattle.kq_eval_row.specs.Applied.{applied}
use Rattle.kq_eval_row.specs.Val.{Surroundings, surroundings}
use Rattle.kq_eval_columns.specs.Choices.{merged}
use Rattle.kq_eval_columns.specs.Over.{Over, over, values_over, called_over, bare}
use Rattle.kq_store_column_view.specs.Vectors.{cells_of, dynamic_of}
use Rattle.kq_eval_columns.specs.Vectors.{rows_at}
use Rattle.kq_store_column_view.specs.declared.vector.Vector.{Vector}
use Rattle.kq_eval_columns.specs.declared.choices.Branch.{Branch}
use Rattle.kq_eval_columns.specs.declared.piece.Piece.{Piece}

abbrev pub seen : Piece → Surroundings
seen piece = surroundings piece.now piece.lets.now

abbrev pub rows_in : Piece → List ℕ → List (List Value)
rows_in piece places = rows_at piece.columns.now places

-- the values of all, as a row for each row
abbrev pub all_over : List Expr → Piece → List ℕ → Computed (List (List Value))
all_over es piece places = values_over (map over es) (seen piece) (rows_in piece places)

-- the values of each branch where its tests are true, and else those of the next ones
abbrev pub merged_by : List Branch → List Value → List Value
merged_by [] zs = zs
merged_by (b ∷ bs) zs = merged b.tests.items (cells_of b.values) (merged_by bs zs)

-- a cell in front of each row, as far as both go
abbrev pub beside : List Value → List (List Value) → List (List Value)
beside [] rs = []
beside (x ∷ xs) [] = []
beside (x ∷ xs) (r ∷ rs) = (x ∷ r) ∷ beside xs rs

-- a function at these first arguments and the second ones, for each of the rows at these places
abbrev pub applied_beside : Function → List Value → Piece → List ℕ → List Value → Computed (List Value)
applied_beside function xs piece places = λ ys. each (applied function piece.now) (beside xs (beside ys (bare (rows_in piece places))))

-- columns in front of rows
abbrev pub fronted : List Vector → List (List Value) → List (List Value)
fronted [] rs = rs
fronted (v ∷ vs) rs = beside (cells_of v) (fronted vs rs)

-- a function at these columns
abbrev pub at_columns : Function → List Vector → Over
at_columns function vectors s rows = each (applied function s.now) (fronted vectors (bare rows))

-- the member at one place of the value of each row
abbrev pub members_at : Value → Over → Over
members_at place o = called_over Member (o ∷ (λ s rows. Is (map (λ r. place) rows)) ∷ [])

-- so many rows of these columns, or as many as all of them have
abbrev pub rows_of : List Vector → ℕ → List (List Value)
rows_of vectors n = fronted vectors (replicate n [])

-- a function at two arguments, whatever the command's moment
abbrev pub paired : Function → Value → Value → Computed Value
paired function x y = applied function (pos 0) (x ∷ y ∷ [])

-- a function at each of a list and one value
abbrev pub beside_one : Function → Value → List Value → List (Computed Value)
beside_one function y xs = map (λ x. paired function x y) xs

-- truths, as what a function gives
abbrev pub truths_of : List Bool → List (Computed Value)
truths_of ts = map (λ t. Is (Truth t)) ts

-- a part of a dynamic as a cell
abbrev pub part_cell : Option (Bor Dyn) → Value
part_cell o = dynamic_of (option_map (λ d. d.now) o)

abbrev pub cells_in_parts : List (Option (Bor Dyn)) → List Value
cells_in_parts os = map part_cell os

-- how many rows these are
abbrev pub shortest : List Vector → ℕ → ℕ
shortest [] n = n
shortest (v ∷ vs) n = shortest vs (min n (length (cells_of v)))
