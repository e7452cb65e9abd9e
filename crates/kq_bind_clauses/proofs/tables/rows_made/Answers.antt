use Rattle.std.proofs.Common.{◌≡◌, ℕ, zero, suc, ◌<◌, List, [], ◌∷◌, ◌++◌, map, length, drop, Ok, Err, refl, ap, ◌∙◌, arith}
use Rattle.kq_bind_clauses.specs.Tables.{rows_made}
use Rattle.kq_bind_clauses.proofs.tables.rows_made.Goals as goal
use Rattle.kq_bind_expressions.specs.Verdicts.{and_then, mistyped}
use Rattle.kq_read_grammar.specs.declared.clause.Cell.{Cell}
use Rattle.kq_plan.specs.Plans.{cells_seen}
use Rattle.kq_value.specs.declared.schema.Field.{Field}
use Rattle.kq_value.specs.declared.value.Value.{Value}

-- a cell for which no column is left
no_column : (text : List ℕ) (at : ℕ) (cs : List Field) (row : List Value) (left : List Field) (i : ℕ) (xs : List Cell) → length left < 1 → i < length xs → rows_made text at cs row left (drop i xs) ≡ Err (mistyped at)
no_column text at cs row (c ∷ left) i xs none some = absurd (omega arith)
no_column text at cs row [] i [] none some = absurd (omega arith)
no_column text at cs row [] zero (x ∷ xs) none some = refl
no_column text at cs row [] (suc i) (x ∷ xs) none some = no_column text at cs row [] i xs none (omega arith)

pub returns-in-empty : goal.returns-in-empty
returns-in-empty c =
    c.loop-cell.invariant ∙ ap (λ v. and_then v (λ more. Ok (map cells_seen c.loop-cell.rows.items ++ more)))
    (no_column c.args.text.now c.args.at c.args.columns.now c.loop-cell.row.items c.loop-cell.left.now c.loop-cell.cell-index c.args.cells.now c.in-empty.len_below c.loop-cell-test.true)
