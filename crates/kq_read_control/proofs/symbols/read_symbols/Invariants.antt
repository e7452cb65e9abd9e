use Rattle.std.proofs.Common.{◌≡◌, map, take}
use Rattle.kq_read_control.specs.Symbols.{symbol_of}
use Rattle.kq_read_control.proofs.symbols.read_symbols.Given as goal

abbrev pub invariant-loop-index : goal.invariant-loop-index
invariant-loop-index l = l.list.items ≡ map (symbol_of l.fn.tokens.text) (take l.index l.fn.tokens.tokens)
