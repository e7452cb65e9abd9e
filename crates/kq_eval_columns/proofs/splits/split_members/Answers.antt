use Rattle.kq_plan_functions.specs.declared.function.Function.TheVariants.{Split}
use Rattle.kq_eval_columns.specs.Seen.{at_columns, rows_in, seen}
use Rattle.kq_eval_columns.proofs.SplitMembers.{found_members, length_rows}
use Rattle.kq_eval_columns.proofs.splits.split_members.Goals as goal

pub returns-in-Some : goal.returns-in-Some
returns-in-Some c =
    let rows = rows_in c.args.piece c.args.places.now in
    found_members c.args.place.now (at_columns Split c.args.vectors.now) c.in_ok-members.field-0 c.in-Some.members _ (seen c.args.piece) rows c.in-Some.is c.in_ok-members.ensures
    (length_rows c.args.piece.columns.now c.args.places.now)
