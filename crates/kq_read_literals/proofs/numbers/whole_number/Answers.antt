use Rattle.std.proofs.Common.{◌≡◌, ◌-◌, sym, take, drop, length, length-drop, arith, ◌∙◌}
use Rattle.std.proofs.lemmas.List.{take_all}
use Rattle.kq_read_literals.proofs.NumberLemmas.{decimal_numeral, hexadecimal_numeral}
use Rattle.kq_read_literals.proofs.numbers.whole_number.Goals as goal

pub numeral-requires-clause-digits : goal.numeral-requires-clause-digits
numeral-requires-clause-digits c =
    let rest : take (length c.args.bytes.now - 2) (drop 2 c.args.bytes.now) ≡ drop 2 c.args.bytes.now = take_all _ _ (omega (arith, length-drop 2 c.args.bytes.now)) in
    rw rest (hexadecimal_numeral c.args.bytes.now c.requires (sym c.starts_with.ensures.value ∙ c.if-starts_with.true))

pub numeral-requires-else-starts_with-clause-digits : goal.numeral-requires-else-starts_with-clause-digits
numeral-requires-else-starts_with-clause-digits c = decimal_numeral c.args.bytes.now c.requires (sym c.starts_with.ensures.value ∙ c.if-starts_with.false)
