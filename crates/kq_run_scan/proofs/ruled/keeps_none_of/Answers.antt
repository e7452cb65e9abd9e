use Rattle.kq_plan_expressions.specs.Terms.{term_of}
use Rattle.kq_run_scan.specs.Sources.{source_rows}
use Rattle.kq_run_scan.proofs.LeftOut.{piece_out}
use Rattle.kq_run_scan.proofs.ruled.keeps_none_of.Goals as goal

pub returns-in-Part : goal.returns-in-Part
returns-in-Part c told = rw c.in-Part.is (piece_out (term_of c.args.condition.now) (source_rows c.in-Part.source) c.in-Part.field-1 c.in-Part.field-2 (c.keeps_none_in.ensures told))
