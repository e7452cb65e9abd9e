-- The rules of the code, as the definitions speak of them.
use Rattle.std.specs.Prelude.{ℕ, Bool, true, false, List, map}
use Rattle.kq_value.specs.declared.ty.Ty.{Ty}
use Rattle.kq_plan_functions.specs.declared.function.Function.{Function}
use Rattle.kq_plan_functions.specs.declared.names.Named.{Named}
use Rattle.kq_plan_functions.specs.declared.rules.Line.{Line}
use Rattle.kq_plan_functions.specs.declared.rules.Rule.{Rule}
use Rattle.kq_plan_functions.specs.declared.rules.Rule.TheVariants as rule
use Rattle.kq_plan_functions.specs.declared.typing.Choice.{Choice}
use Rattle.kq_plan_functions.specs.Table.{Typing, Signature, lines, any, equals, equals_one, texts, texts_one, one_choice, choices, alike, TypedCall, widened}

abbrev pub signature_of : Line → Signature
signature_of l = (l.takes.now, l.gives)

abbrev pub rule_of : Rule → Typing
rule_of (rule.Lines ls) = lines (map signature_of ls.now)
rule_of (rule.Any m n t) = any m n t
rule_of rule.Equals = equals
rule_of rule.EqualsOne = equals_one
rule_of rule.Texts = texts
rule_of rule.TextsOne = texts_one
rule_of rule.OneChoice = one_choice
rule_of rule.Choices = choices
rule_of rule.Alike = alike

abbrev pub choice_of : Choice → TypedCall
choice_of c = (c.widened, c.gives)

-- the type of an argument, an int widened where that is asked for
abbrev pub seen : Bool → Ty → Ty
seen true = widened
seen false = λ t. t

abbrev pub named_of : Named → List ℕ × Function
named_of n = (n.name.now, n.function)
