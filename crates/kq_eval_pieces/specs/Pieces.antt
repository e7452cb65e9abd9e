-- Pieces of rows, and the columns that expressions read of them.
use Rattle.std.specs.Prelude.{◌≡◌, ◌+◌, ◌-◌, ◌++◌, if◌then◌else◌, ℕ, Bool, true, false, List, [], ◌∷◌, map, get_or, take, drop}
use Rattle.std.specs.List.{All, concat}
use Rattle.kq_value.specs.declared.value.Value.{Value}
use Rattle.kq_eval_columns.specs.kq_value_arithmetic.Logic.{is_yes}
use Rattle.kq_value.specs.Computed.{Computed, Is, and_then, each}
use Rattle.kq_store_column_view.specs.declared.vector.Vector.{Vector}
use Rattle.kq_store_column_view.specs.Vectors.{cells_of}
use Rattle.kq_plan_expressions.specs.declared.expr.Expr.{Expr, fold-Expr}
use Rattle.kq_plan_expressions.specs.declared.expr.Expr.TheOpen.{Expr-F}
use Rattle.kq_plan_expressions.specs.declared.expr.Link.{Link}
use Rattle.kq_plan_expressions.specs.declared.expr.Link.TheVariants as link
use Rattle.kq_plan_expressions.specs.Terms.{Term, column, term_of}
use Rattle.kq_eval_columns.specs.kq_eval_row.Val.{cell_of}

-- the columns that the operand of a link reads
abbrev pub reads_link : Link (List ℕ) → List ℕ
reads_link link.ToLong = []
reads_link (link.With o js) = js

abbrev pub reads_step : Expr-F (List ℕ) → List ℕ
reads_step (Expr-F.Literal v) = []
reads_step (Expr-F.Column j) = j ∷ []
reads_step (Expr-F.Cell i) = []
reads_step (Expr-F.Call function args) = concat args.items
reads_step (Expr-F.Chain js ls) = js.value ++ concat (map reads_link ls.items)

-- the numbers of the columns that an expression reads
abbrev pub columns_read : Expr → List ℕ
columns_read = fold-Expr (List ℕ) reads_step

-- whether it is a column and nothing else
abbrev pub is_column : Term → Bool
is_column (column j) = true
is_column e = false

-- the columns that are copied for an expression: of a column alone, each cell is taken from its row
abbrev pub columns_copied : Expr → List ℕ
columns_copied e = if is_column (term_of e) then [] else columns_read e

-- the rows from a place on, up to another
abbrev pub piece_of : List (List Value) → ℕ → ℕ → List (List Value)
piece_of rows from to = take (to - from) (drop from rows)

-- the cells of a column
abbrev pub column_of : ℕ → List (List Value) → List Value
column_of j rows = map (λ r. cell_of r j) rows

-- the columns with these numbers hold the cells of the rows
abbrev pub Hold : List Vector → List (List Value) → List ℕ → Type 0
Hold columns rows js = All (λ j. get_or (map cells_of columns) j [] ≡ column_of j rows) js

-- the places of the values that are true, of which the first has this place
abbrev pub places_true : ℕ → List Value → List ℕ
places_true from [] = []
places_true from (v ∷ vs) = if is_yes v then from ∷ places_true (from + 1) vs else places_true (from + 1) vs

-- the places of the rows for which a condition is true
abbrev pub places_where : {A : Type 0} → (A → Computed Value) → List A → Computed (List ℕ)
places_where condition rows = and_then (each condition rows) (λ vs. Is (places_true 0 vs))
