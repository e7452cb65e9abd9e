use Rattle.std.proofs.Common.{◌≡◌, map, drop}
use Rattle.kq_plan_functions.specs.Table.{first_line}
use Rattle.kq_plan_functions.specs.Seen.{seen, signature_of}
use Rattle.kq_plan_functions.proofs.typing.first_line.Given as goal

abbrev pub invariant-loop-line : goal.invariant-loop-line
invariant-loop-line l = first_line (map signature_of l.lines) (map (seen l.widen) l.args) ≡ first_line (map signature_of (drop l.line-index l.lines)) (map (seen l.widen) l.args)
