-- Which function an operator is. Each class of operators has its own; another symbol, which doesn't stand there, counts as the first of them.
use Rattle.kq_plan_functions.specs.declared.function.Function.{Function}
use Rattle.kq_plan_functions.specs.declared.function.Function.TheVariants as f
use Rattle.kq_read_grammar.specs.Trees.{Precedence, disjunction, conjunction, sum, product}
use Rattle.kq_plan_functions.specs.kq_value_strings.TheVariants as find
use Rattle.kq_read_symbols.specs.declared.kind.Kind.{Kind}
use Rattle.kq_read_symbols.specs.declared.kind.Kind.TheVariants as kind
use Rattle.kq_read_symbols.specs.declared.word.ReservedWord.{ReservedWord}
use Rattle.kq_read_symbols.specs.declared.word.ReservedWord.TheVariants as reserved
use Rattle.kq_read_symbols.specs.declared.word.Word.TheVariants as word
use Rattle.kq_read_tokens.specs.declared.kind.Operator.{Operator}
use Rattle.kq_read_tokens.specs.declared.kind.Operator.TheVariants as operator
use Rattle.kq_read_tokens.specs.declared.kind.WordOperator.{WordOperator}
use Rattle.kq_read_tokens.specs.declared.kind.WordOperator.TheVariants as negated

abbrev pub sign : Kind → Function
sign (kind.Operator operator.Minus) = f.Negate
sign _ = f.Keep

abbrev pub comparison_sign : Operator → Function
comparison_sign operator.NotEqual = f.Unequal
comparison_sign operator.Less = f.Less
comparison_sign operator.LessOrEqual = f.AtMost
comparison_sign operator.Greater = f.Greater
comparison_sign operator.GreaterOrEqual = f.AtLeast
comparison_sign operator.EqualTilde = f.EqualFolded
comparison_sign operator.NotEqualTilde = f.UnequalFolded
comparison_sign _ = f.Equal

abbrev pub find_word : ReservedWord → Function
find_word reserved.Has = f.Find find.Has
find_word reserved.HasCs = f.Find find.HasCs
find_word reserved.Contains = f.Find find.Contains
find_word reserved.ContainsCs = f.Find find.ContainsCs
find_word reserved.StartsWith = f.Find find.StartsWith
find_word reserved.StartsWithCs = f.Find find.StartsWithCs
find_word reserved.EndsWith = f.Find find.EndsWith
find_word reserved.EndsWithCs = f.Find find.EndsWithCs
find_word _ = f.Equal

abbrev pub negated_find : WordOperator → Function
negated_find negated.NotHas = f.FindNot find.Has
negated_find negated.NotHasCs = f.FindNot find.HasCs
negated_find negated.NotContains = f.FindNot find.Contains
negated_find negated.NotContainsCs = f.FindNot find.ContainsCs
negated_find negated.NotStartsWith = f.FindNot find.StartsWith
negated_find negated.NotStartsWithCs = f.FindNot find.StartsWithCs
negated_find negated.NotEndsWith = f.FindNot find.EndsWith
negated_find negated.NotEndsWithCs = f.FindNot find.EndsWithCs
negated_find _ = f.Equal

abbrev pub comparison : Kind → Function
comparison (kind.Operator o) = comparison_sign o
comparison (kind.Word (word.Reserved r)) = find_word r
comparison (kind.WordOperator w) = negated_find w
comparison _ = f.Equal

abbrev pub membership : Kind → Function
membership (kind.WordOperator negated.NotIn) = f.NotIn
membership (kind.WordOperator negated.InTilde) = f.InFolded
membership (kind.WordOperator negated.NotInTilde) = f.NotInFolded
membership _ = f.In

abbrev pub interval : Kind → Function
interval (kind.WordOperator negated.NotBetween) = f.NotBetween
interval _ = f.Between

abbrev pub operation : Precedence → Kind → Function
operation disjunction k = f.Or
operation conjunction k = f.And
operation sum (kind.Operator operator.Minus) = f.Subtract
operation sum _ = f.Add
operation product (kind.Operator operator.Slash) = f.Divide
operation product (kind.Operator operator.Percent) = f.Remainder
operation product _ = f.Multiply
