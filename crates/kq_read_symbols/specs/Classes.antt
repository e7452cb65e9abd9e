-- The classes of symbols that the grammar speaks of.
use Rattle.std.specs.Prelude.{Bool, true, false, ◌||◌}
use denote.Enum.Bare.{sameb}
use Rattle.kq_read_symbols.specs.declared.class.Class.{Class as Named}
use Rattle.kq_read_symbols.specs.declared.class.Class.TheVariants as c
use Rattle.kq_read_symbols.specs.declared.kind.Kind.{Kind}
use Rattle.kq_read_symbols.specs.declared.kind.Kind.TheVariants as kind
use Rattle.kq_read_symbols.specs.declared.kind.Quoted.TheVariants as quoted
use Rattle.kq_read_symbols.specs.declared.kind.Symbol.{Symbol}
use Rattle.kq_read_symbols.specs.declared.word.Word.TheVariants as word
use Rattle.kq_read_symbols.specs.declared.word.ReservedWord.{ReservedWord}
use Rattle.kq_read_symbols.specs.declared.word.ReservedWord.TheVariants as r
use Rattle.kq_read_symbols.specs.contracts.word.ReservedWord.{the_type as the_reserved}
use Rattle.kq_read_symbols.specs.declared.word.SourceWord.{SourceWord}
use Rattle.kq_read_symbols.specs.contracts.word.SourceWord.{the_type as the_source}
use Rattle.kq_read_symbols.specs.declared.word.OperatorWord.{OperatorWord}
use Rattle.kq_read_symbols.specs.contracts.word.OperatorWord.{the_type as the_leading}
use Rattle.kq_read_symbols.specs.declared.word.ClauseWord.{ClauseWord}
use Rattle.kq_read_symbols.specs.declared.word.ClauseWord.TheVariants as cl
use Rattle.kq_read_symbols.specs.contracts.word.ClauseWord.{the_type as the_clause}
use Rattle.kq_read_symbols.specs.declared.word.ControlWord.{ControlWord}
use Rattle.kq_read_symbols.specs.contracts.word.ControlWord.{the_type as the_control}
use Rattle.kq_read_symbols.specs.declared.word.JoinKind.TheVariants as j
use Rattle.kq_read_tokens.specs.declared.kind.DashedWord.{DashedWord}
use Rattle.kq_read_tokens.specs.contracts.kind.DashedWord.{the_type as the_dashed}
use Rattle.kq_read_tokens.specs.declared.kind.Side.{Side}
use Rattle.kq_read_tokens.specs.contracts.kind.Side.{the_type as the_side}
use Rattle.kq_read_tokens.specs.declared.kind.WordOperator.{WordOperator}
use Rattle.kq_read_tokens.specs.declared.kind.WordOperator.TheVariants as w
use Rattle.kq_read_tokens.specs.declared.kind.Punctuation.{Punctuation}
use Rattle.kq_read_tokens.specs.declared.kind.Punctuation.TheVariants as s
use Rattle.kq_read_tokens.specs.contracts.kind.Punctuation.{the_type as the_sign}
use Rattle.kq_read_tokens.specs.declared.kind.Operator.{Operator}
use Rattle.kq_read_tokens.specs.declared.kind.Operator.TheVariants as o
use Rattle.kq_read_tokens.specs.contracts.kind.Operator.{the_type as the_operator}

abbrev pub Class : Type 0
Class = Kind → Bool

abbrev pub of : Class → Symbol → Bool
of is t = is t.kind

-- ---- one kind

abbrev pub reserved : ReservedWord → Class
reserved a (kind.Word (word.Reserved b)) = sameb the_reserved a b
reserved a _ = false

abbrev pub source : SourceWord → Class
source a (kind.Word (word.Source b)) = sameb the_source a b
source a _ = false

abbrev pub leading : OperatorWord → Class
leading a (kind.Word (word.Operator b)) = sameb the_leading a b
leading a _ = false

abbrev pub clause : ClauseWord → Class
clause a (kind.Word (word.Clause b)) = sameb the_clause a b
clause a _ = false

abbrev pub control : ControlWord → Class
control a (kind.Word (word.Control b)) = sameb the_control a b
control a _ = false

abbrev pub dashed : DashedWord → Class
dashed a (kind.DashedWord b) = sameb the_dashed a b
dashed a _ = false

abbrev pub side : Side → Class
side a (kind.Side b) = sameb the_side a b
side a _ = false

abbrev pub sign : Punctuation → Class
sign a (kind.Punctuation b) = sameb the_sign a b
sign a _ = false

abbrev pub operator : Operator → Class
operator a (kind.Operator b) = sameb the_operator a b
operator a _ = false

abbrev pub open_parenthesis : Class
open_parenthesis = sign s.OpenParenthesis

abbrev pub close_parenthesis : Class
close_parenthesis = sign s.CloseParenthesis

abbrev pub open_bracket : Class
open_bracket = sign s.OpenBracket

abbrev pub close_bracket : Class
close_bracket = sign s.CloseBracket

abbrev pub open_brace : Class
open_brace = sign s.OpenBrace

abbrev pub close_brace : Class
close_brace = sign s.CloseBrace

abbrev pub comma : Class
comma = sign s.Comma

abbrev pub semicolon : Class
semicolon = sign s.Semicolon

abbrev pub colon : Class
colon = sign s.Colon

abbrev pub dot : Class
dot = sign s.Dot

abbrev pub dots : Class
dots = sign s.DotDot

abbrev pub pipe : Class
pipe = sign s.Pipe

abbrev pub assign : Class
assign = operator o.Assign

abbrev pub equals : Class
equals = operator o.Equal

abbrev pub star : Class
star = operator o.Star

abbrev pub minus : Class
minus = operator o.Minus

-- ---- words

abbrev pub any_word : Class
any_word (kind.Word w) = true
any_word _ = false

-- a word that isn't reserved
abbrev pub bare_name : Class
bare_name (kind.Word (word.Reserved w)) = false
bare_name (kind.Word w) = true
bare_name _ = false

abbrev pub truth : Class
truth (kind.Word (word.Reserved r.True)) = true
truth (kind.Word (word.Reserved r.False)) = true
truth _ = false

abbrev pub direction : Class
direction (kind.Word (word.Clause cl.Asc)) = true
direction (kind.Word (word.Clause cl.Desc)) = true
direction _ = false

abbrev pub extreme : Class
extreme (kind.Word (word.Clause cl.First)) = true
extreme (kind.Word (word.Clause cl.Last)) = true
extreme _ = false

abbrev pub join_kind : Class
join_kind (kind.Word (word.Join k)) = true
join_kind _ = false

abbrev pub quoted_join_kind : Class
quoted_join_kind (kind.String (quoted.JoinKind k)) = true
quoted_join_kind _ = false

abbrev pub union_kind : Class
union_kind (kind.Word (word.Join j.Inner)) = true
union_kind (kind.Word (word.Clause cl.Outer)) = true
union_kind _ = false

-- ---- literals

abbrev pub whole_number : Class
whole_number kind.WholeNumber = true
whole_number _ = false

abbrev pub text : Class
text (kind.String q) = true
text _ = false

abbrev pub literal : Class
literal kind.WholeNumber = true
literal kind.Real = true
literal kind.Timespan = true
literal kind.TypedLiteral = true
literal (kind.String q) = true
literal k = truth k

-- ---- operators

abbrev pub additive : Class
additive (kind.Operator o.Plus) = true
additive (kind.Operator o.Minus) = true
additive _ = false

abbrev pub multiplicative : Class
multiplicative (kind.Operator o.Star) = true
multiplicative (kind.Operator o.Slash) = true
multiplicative (kind.Operator o.Percent) = true
multiplicative _ = false

abbrev pub compares : Operator → Bool
compares o.Equal = true
compares o.NotEqual = true
compares o.Less = true
compares o.LessOrEqual = true
compares o.Greater = true
compares o.GreaterOrEqual = true
compares o.EqualTilde = true
compares o.NotEqualTilde = true
compares _ = false

abbrev pub compares_strings : ReservedWord → Bool
compares_strings r.Has = true
compares_strings r.HasCs = true
compares_strings r.Contains = true
compares_strings r.ContainsCs = true
compares_strings r.StartsWith = true
compares_strings r.StartsWithCs = true
compares_strings r.EndsWith = true
compares_strings r.EndsWithCs = true
compares_strings _ = false

abbrev pub compares_not : WordOperator → Bool
compares_not w.NotHas = true
compares_not w.NotHasCs = true
compares_not w.NotContains = true
compares_not w.NotContainsCs = true
compares_not w.NotStartsWith = true
compares_not w.NotStartsWithCs = true
compares_not w.NotEndsWith = true
compares_not w.NotEndsWithCs = true
compares_not _ = false

abbrev pub comparison : Class
comparison (kind.Operator a) = compares a
comparison (kind.Word (word.Reserved a)) = compares_strings a
comparison (kind.WordOperator a) = compares_not a
comparison _ = false

abbrev pub membership : Class
membership (kind.Word (word.Reserved r.In)) = true
membership (kind.WordOperator w.NotIn) = true
membership (kind.WordOperator w.InTilde) = true
membership (kind.WordOperator w.NotInTilde) = true
membership _ = false

abbrev pub interval : Class
interval (kind.Word (word.Reserved r.Between)) = true
interval (kind.WordOperator w.NotBetween) = true
interval _ = false

-- ---- what forms begin with

abbrev pub begins_name : Class
begins_name k = bare_name k || open_bracket k

abbrev pub opens_operand : Punctuation → Bool
opens_operand s.OpenParenthesis = true
opens_operand s.OpenBracket = true
opens_operand _ = false

abbrev pub begins_expression : Class
begins_expression (kind.Word w) = true
begins_expression (kind.Punctuation a) = opens_operand a
begins_expression k = literal k || additive k

abbrev pub begins_cell : Class
begins_cell k = literal k || minus k

abbrev pub begins_tabular : Class
begins_tabular k = begins_name k || open_parenthesis k

-- what a property can be
abbrev pub property_value : Class
property_value k = text k || truth k

-- ---- the code's classes

abbrev pub word_set_of : Named → Class
word_set_of c.Truth = truth
word_set_of c.Direction = direction
word_set_of c.Extreme = extreme
word_set_of c.JoinKind = join_kind
word_set_of c.QuotedJoinKind = quoted_join_kind
word_set_of c.UnionKind = union_kind
word_set_of c.NameStart = begins_name
word_set_of c.ExpressionStart = begins_expression
word_set_of c.CellStart = begins_cell
word_set_of c.TabularStart = begins_tabular
word_set_of c.PropertyValue = property_value
word_set_of _ = λ k. false

abbrev pub set_of : Named → Class
set_of c.Word = any_word
set_of c.BareName = bare_name
set_of c.WholeNumber = whole_number
set_of c.Text = text
set_of c.Literal = literal
set_of c.Additive = additive
set_of c.Multiplicative = multiplicative
set_of c.Comparison = comparison
set_of c.Membership = membership
set_of c.Interval = interval
set_of c = word_set_of c

abbrev pub class_of : Named → Class
class_of (c.Reserved a) = reserved a
class_of (c.Source a) = source a
class_of (c.Leading a) = leading a
class_of (c.Clause a) = clause a
class_of (c.Control a) = control a
class_of (c.Dashed a) = dashed a
class_of (c.Side a) = side a
class_of (c.Sign a) = sign a
class_of (c.Operator a) = operator a
class_of c = set_of c
