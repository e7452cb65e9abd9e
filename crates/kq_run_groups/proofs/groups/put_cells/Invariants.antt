use Rattle.std.proofs.Common.{◌≡◌, ◌++◌, drop}
use Rattle.kq_value.specs.Computed.{Is, and_then}
use Rattle.kq_run_groups.specs.Groups.{cells_from}
use Rattle.kq_run_groups.proofs.groups.put_cells.Given as goal

abbrev pub invariant-loop-one : goal.invariant-loop-one
invariant-loop-one l =
    and_then (cells_from l.states l.group) (λ cells. Is (l.fn.out.items ++ cells)) ≡ and_then (cells_from (drop l.one-index l.states) l.group) (λ cells. Is (l.out.items ++ cells))
