use Rattle.std.proofs.Common.{◌≡◌, ◌==◌, ◌<◌, get_or, length, true, false, ◌∙◌, arith}
use Rattle.std.proofs.lemmas.Bool.Decides.{nat_tests}
use Rattle.kq_view_body.proofs.Strings.{long_said, quoted_said, verbatim_said}
use Rattle.kq_view_body.proofs.said.string_rest.Goals as goal

pub returns-then-first-eq64-clause-content : goal.returns-then-first-eq64-clause-content
returns-then-first-eq64-clause-content c =
    let some : 0 < length c.args.bytes.now = omega (arith, c.in-len1-up.len_at_least) in
    let at : (get_or c.args.bytes.now 0 0 == 64) ≡ true = grind (arith, nat_tests, c.if-first-eq64.true) in
    c.verbatim_text.ensures.content ∙ verbatim_said c.args.bytes.now some at

pub returns-then-first-eq96-clause-content : goal.returns-then-first-eq96-clause-content
returns-then-first-eq96-clause-content c =
    let some : 0 < length c.args.bytes.now = omega (arith, c.in-len1-up.len_at_least) in
    let no_at : (get_or c.args.bytes.now 0 0 == 64) ≡ false = grind (arith, nat_tests, c.if-first-eq64.false) in
    let tick : (get_or c.args.bytes.now 0 0 == 96) ≡ true = grind (arith, nat_tests, c.if-first-eq96.true) in
    c.long_text.ensures.content ∙ long_said c.args.bytes.now some no_at tick

pub returns-else-first-eq96-clause-content : goal.returns-else-first-eq96-clause-content
returns-else-first-eq96-clause-content c =
    let some : 0 < length c.args.bytes.now = omega (arith, c.in-len1-up.len_at_least) in
    let no_at : (get_or c.args.bytes.now 0 0 == 64) ≡ false = grind (arith, nat_tests, c.if-first-eq64.false) in
    let no_tick : (get_or c.args.bytes.now 0 0 == 96) ≡ false = grind (arith, nat_tests, c.if-first-eq96.false) in
    c.quoted_text.ensures.content ∙ quoted_said c.args.bytes.now some no_at no_tick
