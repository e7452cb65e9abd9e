use Rattle.std.proofs.Common.{◌≡◌, map, pos, take}
use Rattle.kq_run_groups.proofs.codes.widened.Given as goal

abbrev pub invariant-loop-code : goal.invariant-loop-code
invariant-loop-code l = l.wide.items ≡ map pos (take l.code-index l.codes)
