use Rattle.std.proofs.Common.{sym, subst}
use Rattle.std.specs.Str.{IsUtf8}
use Rattle.kq_read_control.proofs.statement.parse_statement.Goals as goal

pub read_symbols-requires-clause-utf8 : goal.read_symbols-requires-clause-utf8
read_symbols-requires-clause-utf8 c = subst IsUtf8 (sym c.in-Ok.ensures.text) c.utf8.text
