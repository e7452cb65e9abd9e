use Rattle.std.proofs.Common.{arith}
use Rattle.kq_read_literals.proofs.NumberLemmas.{IsAscii-digits, short_code}
use Rattle.kq_view_body.proofs.said.code.Goals as goal

pub ascii_text-requires : goal.ascii_text-requires
ascii_text-requires c = IsAscii-digits 16 c.args.digits.now (omega arith) c.requires.digits.1

pub unreachable-requires : goal.unreachable-requires
unreachable-requires c = c.in-Err.ensures.value (short_code c.args.digits.now c.ascii_text.result.now c.ascii_text.ensures c.requires.digits c.requires.short)
