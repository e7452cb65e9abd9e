use Rattle.kq_read_literals.proofs.NumberLemmas.{IsAscii-digits}
use Rattle.kq_read_literals.proofs.numbers.numeral.Goals as goal

pub ascii_text-requires : goal.ascii_text-requires
ascii_text-requires c = IsAscii-digits c.args.radix c.args.digits.now c.requires.radix.1 c.requires.digits.1
