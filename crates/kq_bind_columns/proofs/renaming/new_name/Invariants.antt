use Rattle.std.proofs.Common.{◌≡◌, drop}
use Rattle.kq_bind_columns.specs.Chosen.{new_name}
use Rattle.kq_bind_columns.proofs.renaming.new_name.Given as goal

abbrev pub invariant-loop-i : goal.invariant-loop-i
invariant-loop-i l = new_name l.numbers l.names l.number l.old ≡ new_name (drop l.i l.numbers) (drop l.i l.names) l.number l.old
