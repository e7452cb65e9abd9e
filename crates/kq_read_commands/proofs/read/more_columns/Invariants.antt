use Rattle.std.proofs.Common.{◌≡◌, ◌≤◌, drop, length}
use Rattle.kq_read_commands.specs.Meanings.{behind, columns_of}
use Rattle.kq_read_commands.proofs.read.more_columns.Given as goal

-- what is left comes behind what was found, as the whole behind what was there
abbrev pub invariant-loop-column : goal.invariant-loop-column
invariant-loop-column l =
    (behind l.found.items (columns_of l.text (drop l.column-index l.columns)) ≡ behind l.fn.found.items (columns_of l.text l.columns))
    × (length l.fn.found.items ≤ length l.found.items)
