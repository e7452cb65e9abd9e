use Rattle.std.proofs.Common.{◌≡◌, ◌<◌, ℕ, false, nat_le, length, ◌∙◌, sym, arith}
use Rattle.std.proofs.lemmas.Bool.Decides.{nat_tests}
use Rattle.kq_value_strings.proofs.Cases.{endswith_within, endswith_longer}
use Rattle.kq_value_strings.proofs.find.ends_with.Goals as goal

longer : (m n : ℕ) → n < m → nat_le m n ≡ false
longer m n h = grind (arith, nat_tests)

pub returns-then-part-text : goal.returns-then-part-text
returns-then-part-text c = c.stands_at.ensures ∙ endswith_within c.args.by c.args.text.now c.args.part.now c.if-part-text.true

pub returns-else-part-text : goal.returns-else-part-text
returns-else-part-text c = longer (length c.args.part.now) (length c.args.text.now) c.if-part-text.false ∙ sym (endswith_longer c.args.by c.args.text.now c.args.part.now c.if-part-text.false)
