use Rattle.std.proofs.Common.{◌≡◌, ◌==◌, get_or, true, arith}
use Rattle.std.proofs.lemmas.Bool.Decides.{nat_tests}
use Rattle.kq_read_literals.proofs.StringLemmas.{escape_code}
use Rattle.kq_read_literals.proofs.strings.push_escape.Goals as goal

pub push_character-requires-clause-digits : goal.push_character-requires-clause-digits
push_character-requires-clause-digits c =
    let u : (get_or c.args.behind.now 0 0 == 117) ≡ true = grind (arith, nat_tests, c.if-letter-eq117.true) in
    (escape_code c.args.quote c.args.behind.now c.requires u).numeral

pub push_character-requires-clause-scalar : goal.push_character-requires-clause-scalar
push_character-requires-clause-scalar c =
    let u : (get_or c.args.behind.now 0 0 == 117) ≡ true = grind (arith, nat_tests, c.if-letter-eq117.true) in
    (escape_code c.args.quote c.args.behind.now c.requires u).scalar
