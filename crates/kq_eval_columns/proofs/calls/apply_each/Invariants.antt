use Rattle.std.proofs.Common.{◌≡◌, ◌++◌, drop}
use Rattle.kq_value.specs.Computed.{Is, and_then, each}
use Rattle.kq_eval_row.specs.Applied.{applied}
use Rattle.kq_eval_columns.specs.Seen.{rows_of}
use Rattle.kq_eval_columns.proofs.calls.apply_each.Given as goal

-- what has been made, then what is still to come, is the whole
abbrev pub invariant-loop-i : goal.invariant-loop-i
invariant-loop-i l =
    let f = applied l.function l.piece.now in
    let rows = rows_of l.vectors l.count in
    each f rows ≡ and_then (each f (drop l.i rows)) (λ zs. Is (l.cells.items ++ zs))
