use Rattle.std.proofs.Common.{◌≡◌, ◌++◌, false, drop}
use Rattle.kq_read_literals.specs.Strings.{undoubled}
use Rattle.kq_read_literals.proofs.strings.undouble.Given as goal

-- the text so far and that of what is left
abbrev pub invariant-loop-byte : goal.invariant-loop-byte
invariant-loop-byte l = l.text.items ++ undoubled l.quote l.closed (drop l.byte-index l.bytes) ≡ undoubled l.quote false l.bytes
