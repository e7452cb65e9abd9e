use Rattle.std.proofs.Common.{map, sym, subst}
use Rattle.std.proofs.lemmas.Result.{err_from_is_err_and}
use Rattle.kq_value.specs.Computed.{AnswersAs, Is, each}
use Rattle.kq_plan_functions.specs.declared.function.Function.TheVariants.{Split}
use Rattle.kq_store_column_view.specs.Vectors.{cells_of}
use Rattle.kq_eval_columns.specs.Seen.{at_columns, members_at, rows_in, seen}
use Rattle.kq_eval_columns.proofs.Branches.{fails}
use Rattle.kq_eval_columns.proofs.SplitMembers.{members_beside, members_stop}
use Rattle.kq_eval_columns.proofs.splits.members_of_arrays.Goals as goal

pub returns : goal.returns
returns c =
    let s = seen c.args.piece in
    let rows = rows_in c.args.piece c.args.places.now in
    let gives = members_beside c.args.place.now (at_columns Split c.args.vectors.now) (cells_of c.in_ok-arrays.arrays) s rows c.in_ok-arrays.ensures in
    subst (λ o. AnswersAs cells_of o c.apply_pair.result) (sym gives) (c.apply_pair.ensures (Is (map (λ r. c.args.place.now) rows)) c.literal_over-others.ensures)

pub returns-in_err-arrays : goal.returns-in_err-arrays
returns-in_err-arrays c =
    let s = seen c.args.piece in
    let rows = rows_in c.args.piece c.args.places.now in
    let split = at_columns Split c.args.vectors.now in
    let p = err_from_is_err_and c.from_residual.result c.from_residual.ensures.1 in
    rw (p.1, p.2)
    (fails cells_of cells_of (split s rows) (members_at c.args.place.now split s rows) c.in_err-arrays.field-0.0 (members_stop c.args.place.now split s rows) c.in_err-arrays.ensures)
