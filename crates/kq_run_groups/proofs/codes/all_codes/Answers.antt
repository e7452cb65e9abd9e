use Rattle.std.proofs.Common.{ℕ, List, arith, map, subst}
use Rattle.std.proofs.lemmas.List.{take_all}
use Rattle.kq_store_column_view.specs.Vectors.{cells_of}
use Rattle.kq_store_column_view.specs.declared.vector.Vector.{Vector}
use Rattle.kq_run_groups.specs.Columns.{HaveLength, Tell}
use Rattle.kq_run_groups.proofs.Columns.{told_next}
use Rattle.kq_run_groups.proofs.codes.all_codes.Goals as goal

pub loop-column-preserved : goal.loop-column-preserved
loop-column-preserved c =
    rw c.in_ok-push.ensures.items
    (told_next c.loop-column.codes.items c.in_ok-codes_of.field-0 c.args.columns.now c.loop-column.column-index c.column-item.result c.loop-column-test.true c.column-item.is c.in_ok-codes_of.ensures c.loop-column.invariant)

pub returns : goal.returns
returns c =
    subst (λ (columns : List Vector). (n : ℕ) → HaveLength n (map cells_of columns) → Tell n c.loop-column.codes.items (map cells_of columns)) (take_all c.loop-column.column-index c.args.columns.now (omega arith)) c.loop-column.invariant
