-- The tokens of one spelling, and the words of typed literals.
use Rattle.std.specs.Prelude.{ℕ, List, [], codes}
use Rattle.kq_read_tokens.specs.declared.kind.TokenKind.{TokenKind}
use Rattle.kq_read_tokens.specs.declared.kind.TokenKind.TheVariants as kind
use Rattle.kq_read_tokens.specs.declared.kind.DashedWord.{DashedWord}
use Rattle.kq_read_tokens.specs.declared.kind.DashedWord.TheVariants as dashed
use Rattle.kq_read_tokens.specs.declared.kind.Side.{Side}
use Rattle.kq_read_tokens.specs.declared.kind.Side.TheVariants as side
use Rattle.kq_read_tokens.specs.declared.kind.LiteralWord.{LiteralWord}
use Rattle.kq_read_tokens.specs.declared.kind.LiteralWord.TheVariants as literal
use Rattle.kq_read_tokens.specs.declared.kind.WordOperator.{WordOperator}
use Rattle.kq_read_tokens.specs.declared.kind.WordOperator.TheVariants as word
use Rattle.kq_read_tokens.specs.declared.kind.Punctuation.{Punctuation}
use Rattle.kq_read_tokens.specs.declared.kind.Punctuation.TheVariants as sign
use Rattle.kq_read_tokens.specs.declared.kind.Operator.{Operator}
use Rattle.kq_read_tokens.specs.declared.kind.Operator.TheVariants as operator

abbrev pub dashed_word_spelling : DashedWord → List ℕ
dashed_word_spelling dashed.ProjectAway = codes "project-away"
dashed_word_spelling dashed.ProjectRename = codes "project-rename"
dashed_word_spelling dashed.MvExpand = codes "mv-expand"
dashed_word_spelling dashed.MaterializedView = codes "materialized-view"
dashed_word_spelling dashed.AlterMerge = codes "alter-merge"

abbrev pub side_spelling : Side → List ℕ
side_spelling side.Left = codes "$left"
side_spelling side.Right = codes "$right"

abbrev pub word_operator_spelling : WordOperator → List ℕ
word_operator_spelling word.NotHas = codes "!has"
word_operator_spelling word.NotHasCs = codes "!has_cs"
word_operator_spelling word.NotContains = codes "!contains"
word_operator_spelling word.NotContainsCs = codes "!contains_cs"
word_operator_spelling word.NotStartsWith = codes "!startswith"
word_operator_spelling word.NotStartsWithCs = codes "!startswith_cs"
word_operator_spelling word.NotEndsWith = codes "!endswith"
word_operator_spelling word.NotEndsWithCs = codes "!endswith_cs"
word_operator_spelling word.NotIn = codes "!in"
word_operator_spelling word.NotInTilde = codes "!in~"
word_operator_spelling word.NotBetween = codes "!between"
word_operator_spelling word.InTilde = codes "in~"

abbrev pub punctuation_spelling : Punctuation → List ℕ
punctuation_spelling sign.Pipe = codes "|"
punctuation_spelling sign.OpenParenthesis = codes "("
punctuation_spelling sign.CloseParenthesis = codes ")"
punctuation_spelling sign.OpenBracket = codes "["
punctuation_spelling sign.CloseBracket = codes "]"
punctuation_spelling sign.OpenBrace = codes "{"
punctuation_spelling sign.CloseBrace = codes "}"
punctuation_spelling sign.Comma = codes ","
punctuation_spelling sign.Semicolon = codes ";"
punctuation_spelling sign.Colon = codes ":"
punctuation_spelling sign.Dot = codes "."
punctuation_spelling sign.DotDot = codes ".."
punctuation_spelling sign.BodyMark = codes "<|"
punctuation_spelling sign.Hash = codes "#"

abbrev pub operator_spelling : Operator → List ℕ
operator_spelling operator.Assign = codes "="
operator_spelling operator.Equal = codes "=="
operator_spelling operator.NotEqual = codes "!="
operator_spelling operator.Less = codes "<"
operator_spelling operator.LessOrEqual = codes "<="
operator_spelling operator.Greater = codes ">"
operator_spelling operator.GreaterOrEqual = codes ">="
operator_spelling operator.EqualTilde = codes "=~"
operator_spelling operator.NotEqualTilde = codes "!~"
operator_spelling operator.Plus = codes "+"
operator_spelling operator.Minus = codes "-"
operator_spelling operator.Star = codes "*"
operator_spelling operator.Slash = codes "/"
operator_spelling operator.Percent = codes "%"

abbrev pub literal_word_spelling : LiteralWord → List ℕ
literal_word_spelling literal.Long = codes "long"
literal_word_spelling literal.Int64 = codes "int64"
literal_word_spelling literal.Bool = codes "bool"
literal_word_spelling literal.Boolean = codes "boolean"
literal_word_spelling literal.Datetime = codes "datetime"
literal_word_spelling literal.Date = codes "date"
literal_word_spelling literal.Timespan = codes "timespan"
literal_word_spelling literal.Time = codes "time"
literal_word_spelling literal.Dynamic = codes "dynamic"
literal_word_spelling literal.Int = codes "int"
literal_word_spelling literal.Real = codes "real"
literal_word_spelling literal.Double = codes "double"
literal_word_spelling literal.Decimal = codes "decimal"
literal_word_spelling literal.Guid = codes "guid"

-- nothing, for a kind of many spellings
abbrev pub spelling : TokenKind → List ℕ
spelling (kind.DashedWord w) = dashed_word_spelling w
spelling (kind.Side s) = side_spelling s
spelling (kind.WordOperator o) = word_operator_spelling o
spelling (kind.Punctuation p) = punctuation_spelling p
spelling (kind.Operator o) = operator_spelling o
spelling _ = []
