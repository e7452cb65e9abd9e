-- Facts on classes of symbols, by a look at each kind.
use Rattle.std.proofs.Common.{◌≡◌, ℕ, zero, suc, Bool, true, false, not, if◌then◌else◌, List, [], ◌∷◌, refl, subst}
use Rattle.kq_read_symbols.specs.declared.kind.Kind.{Kind}
use Rattle.kq_read_symbols.specs.declared.kind.Kind.TheVariants as kind
use Rattle.kq_read_symbols.specs.declared.kind.Quoted.TheVariants as quoted
use Rattle.kq_read_symbols.specs.declared.kind.Symbol.{Symbol}
use Rattle.kq_read_symbols.specs.declared.word.Word.TheVariants as word
use Rattle.kq_read_symbols.specs.declared.word.ReservedWord.TheVariants as reserved
use Rattle.kq_read_symbols.specs.declared.word.SourceWord.TheVariants as source
use Rattle.kq_read_symbols.specs.declared.word.OperatorWord.TheVariants as leading
use Rattle.kq_read_symbols.specs.declared.word.ClauseWord.TheVariants as clause
use Rattle.kq_read_symbols.specs.declared.word.JoinKind.TheVariants as join
use Rattle.kq_read_symbols.specs.declared.word.ControlWord.TheVariants as control
use Rattle.kq_read_tokens.specs.declared.kind.DashedWord.TheVariants as dashed
use Rattle.kq_read_tokens.specs.declared.kind.Side.TheVariants as side
use Rattle.kq_read_tokens.specs.declared.kind.WordOperator.TheVariants as worded
use Rattle.kq_read_tokens.specs.declared.kind.Punctuation.TheVariants as sign
use Rattle.kq_read_tokens.specs.declared.kind.Operator.TheVariants as operator
use Rattle.kq_read_symbols.specs.Classes.{Class, of}

abbrev others : List Kind
others = (kind.Word (word.Reserved reserved.And)) ∷ (kind.Word (word.Reserved reserved.Or)) ∷ (kind.Word (word.Reserved reserved.By)) ∷ (kind.Word (word.Reserved reserved.True)) ∷ (kind.Word (word.Reserved reserved.False)) ∷ (kind.Word (word.Reserved reserved.Let)) ∷ (kind.Word (word.Reserved reserved.In)) ∷ (kind.Word (word.Reserved reserved.Between)) ∷ (kind.Word (word.Reserved reserved.Has)) ∷ (kind.Word (word.Reserved reserved.HasCs)) ∷ (kind.Word (word.Reserved reserved.Contains)) ∷ (kind.Word (word.Reserved reserved.ContainsCs)) ∷ (kind.Word (word.Reserved reserved.StartsWith)) ∷ (kind.Word (word.Reserved reserved.StartsWithCs)) ∷ (kind.Word (word.Reserved reserved.EndsWith)) ∷ (kind.Word (word.Reserved reserved.EndsWithCs)) ∷ (kind.Word (word.Source source.Print)) ∷ (kind.Word (word.Source source.Range)) ∷ (kind.Word (word.Source source.Datatable)) ∷ (kind.Word (word.Source source.Union)) ∷ (kind.Word (word.Source source.MaterializedView)) ∷ (kind.Word (word.Operator leading.Where)) ∷ (kind.Word (word.Operator leading.Filter)) ∷ (kind.Word (word.Operator leading.Extend)) ∷ (kind.Word (word.Operator leading.Project)) ∷ (kind.Word (word.Operator leading.Take)) ∷ (kind.Word (word.Operator leading.Limit)) ∷ (kind.Word (word.Operator leading.Count)) ∷ (kind.Word (word.Operator leading.Sort)) ∷ (kind.Word (word.Operator leading.Order)) ∷ (kind.Word (word.Operator leading.Top)) ∷ (kind.Word (word.Operator leading.Distinct)) ∷ (kind.Word (word.Operator leading.Summarize)) ∷ (kind.Word (word.Operator leading.Join)) ∷ (kind.Word (word.Clause clause.From)) ∷ (kind.Word (word.Clause clause.To)) ∷ (kind.Word (word.Clause clause.Step)) ∷ (kind.Word (word.Clause clause.Kind)) ∷ (kind.Word (word.Clause clause.Outer)) ∷ (kind.Word (word.Clause clause.Asc)) ∷ (kind.Word (word.Clause clause.Desc)) ∷ (kind.Word (word.Clause clause.Nulls)) ∷ (kind.Word (word.Clause clause.First)) ∷ (kind.Word (word.Clause clause.Last)) ∷ (kind.Word (word.Clause clause.On)) ∷ (kind.Word (word.Clause clause.Typeof)) ∷ (kind.Word (word.Join join.InnerUnique)) ∷ (kind.Word (word.Join join.Inner)) ∷ (kind.Word (word.Join join.LeftOuter)) ∷ (kind.Word (word.Join join.RightOuter)) ∷ (kind.Word (word.Join join.FullOuter)) ∷ (kind.Word (word.Join join.LeftSemi)) ∷ (kind.Word (word.Join join.RightSemi)) ∷ (kind.Word (word.Join join.LeftAnti)) ∷ (kind.Word (word.Join join.RightAnti)) ∷ (kind.Word (word.Control control.Create)) ∷ (kind.Word (word.Control control.Table)) ∷ (kind.Word (word.Control control.Ingest)) ∷ (kind.Word (word.Control control.Inline)) ∷ (kind.Word (word.Control control.Into)) ∷ (kind.Word (word.Control control.With)) ∷ (kind.Word (word.Control control.Alter)) ∷ (kind.Word (word.Control control.Policy)) ∷ (kind.Word (word.Control control.Update)) ∷ (kind.Word (word.Control control.Async)) ∷ (kind.Word (word.Control control.IfNotExists)) ∷ (kind.Word (word.Control control.Show)) ∷ (kind.Word (word.Control control.Ingestion)) ∷ (kind.Word (word.Control control.Failures)) ∷ (kind.Word (word.Control control.Extents)) ∷ (kind.Word (word.Control control.Journal)) ∷ (kind.Word (word.Control control.Fold)) ∷ (kind.Word (word.Control control.Merge)) ∷ (kind.Word (word.Control control.Export)) ∷ (kind.Word (word.Control control.Over)) ∷ (kind.DashedWord dashed.ProjectAway) ∷ (kind.DashedWord dashed.ProjectRename) ∷ (kind.DashedWord dashed.MvExpand) ∷ (kind.DashedWord dashed.MaterializedView) ∷ (kind.DashedWord dashed.AlterMerge) ∷ (kind.Side side.Left) ∷ (kind.Side side.Right) ∷ kind.WholeNumber ∷ kind.Real ∷ kind.Timespan ∷ kind.TypedLiteral ∷ (kind.String (quoted.JoinKind join.InnerUnique)) ∷ (kind.String (quoted.JoinKind join.Inner)) ∷ (kind.String (quoted.JoinKind join.LeftOuter)) ∷ (kind.String (quoted.JoinKind join.RightOuter)) ∷ (kind.String (quoted.JoinKind join.FullOuter)) ∷ (kind.String (quoted.JoinKind join.LeftSemi)) ∷ (kind.String (quoted.JoinKind join.RightSemi)) ∷ (kind.String (quoted.JoinKind join.LeftAnti)) ∷ (kind.String (quoted.JoinKind join.RightAnti)) ∷ (kind.String quoted.Other) ∷ (kind.WordOperator worded.NotHas) ∷ (kind.WordOperator worded.NotHasCs) ∷ (kind.WordOperator worded.NotContains) ∷ (kind.WordOperator worded.NotContainsCs) ∷ (kind.WordOperator worded.NotStartsWith) ∷ (kind.WordOperator worded.NotStartsWithCs) ∷ (kind.WordOperator worded.NotEndsWith) ∷ (kind.WordOperator worded.NotEndsWithCs) ∷ (kind.WordOperator worded.NotIn) ∷ (kind.WordOperator worded.NotInTilde) ∷ (kind.WordOperator worded.NotBetween) ∷ (kind.WordOperator worded.InTilde) ∷ (kind.Punctuation sign.Pipe) ∷ (kind.Punctuation sign.OpenParenthesis) ∷ (kind.Punctuation sign.CloseParenthesis) ∷ (kind.Punctuation sign.OpenBracket) ∷ (kind.Punctuation sign.CloseBracket) ∷ (kind.Punctuation sign.OpenBrace) ∷ (kind.Punctuation sign.CloseBrace) ∷ (kind.Punctuation sign.Comma) ∷ (kind.Punctuation sign.Semicolon) ∷ (kind.Punctuation sign.Colon) ∷ (kind.Punctuation sign.Dot) ∷ (kind.Punctuation sign.DotDot) ∷ (kind.Punctuation sign.BodyMark) ∷ (kind.Punctuation sign.Hash) ∷ (kind.Operator operator.Assign) ∷ (kind.Operator operator.Equal) ∷ (kind.Operator operator.NotEqual) ∷ (kind.Operator operator.Less) ∷ (kind.Operator operator.LessOrEqual) ∷ (kind.Operator operator.Greater) ∷ (kind.Operator operator.GreaterOrEqual) ∷ (kind.Operator operator.EqualTilde) ∷ (kind.Operator operator.NotEqualTilde) ∷ (kind.Operator operator.Plus) ∷ (kind.Operator operator.Minus) ∷ (kind.Operator operator.Star) ∷ (kind.Operator operator.Slash) ∷ (kind.Operator operator.Percent) ∷ []

abbrev kinds : List Kind
kinds = kind.Word word.Other ∷ others

abbrev holds : Class → List Kind → Bool
holds p [] = true
holds p (k ∷ ks) = if p k then holds p ks else false

abbrev pub holds_everywhere : Class → Bool
holds_everywhere p = holds p kinds

abbrev nth : List Kind → ℕ → Kind
nth [] i = kind.Word word.Other
nth (k ∷ ks) zero = k
nth (k ∷ ks) (suc i) = nth ks i

holds_tail : (p : Class) (k : Kind) (ks : List Kind) (b : Bool) → p k ≡ b → (if b then holds p ks else false) ≡ true → (b ≡ true) × (holds p ks ≡ true)
holds_tail p k ks true e h = (refl, h)
holds_tail p k ks false e h = let no : false ≡ true = h in cc

holds_at : (p : Class) (ks : List Kind) → p (kind.Word word.Other) ≡ true → holds p ks ≡ true → (i : ℕ) → p (nth ks i) ≡ true
holds_at p [] w h i = w
holds_at p (k ∷ ks) w h zero = (holds_tail p k ks (p k) refl h).0
holds_at p (k ∷ ks) w h (suc i) = holds_at p ks w (holds_tail p k ks (p k) refl h).1 i

abbrev number_of : Kind → ℕ
number_of (kind.Word word.Other) = 0
number_of (kind.Word (word.Reserved reserved.And)) = 1
number_of (kind.Word (word.Reserved reserved.Or)) = 2
number_of (kind.Word (word.Reserved reserved.By)) = 3
number_of (kind.Word (word.Reserved reserved.True)) = 4
number_of (kind.Word (word.Reserved reserved.False)) = 5
number_of (kind.Word (word.Reserved reserved.Let)) = 6
number_of (kind.Word (word.Reserved reserved.In)) = 7
number_of (kind.Word (word.Reserved reserved.Between)) = 8
number_of (kind.Word (word.Reserved reserved.Has)) = 9
number_of (kind.Word (word.Reserved reserved.HasCs)) = 10
number_of (kind.Word (word.Reserved reserved.Contains)) = 11
number_of (kind.Word (word.Reserved reserved.ContainsCs)) = 12
number_of (kind.Word (word.Reserved reserved.StartsWith)) = 13
number_of (kind.Word (word.Reserved reserved.StartsWithCs)) = 14
number_of (kind.Word (word.Reserved reserved.EndsWith)) = 15
number_of (kind.Word (word.Reserved reserved.EndsWithCs)) = 16
number_of (kind.Word (word.Source source.Print)) = 17
number_of (kind.Word (word.Source source.Range)) = 18
number_of (kind.Word (word.Source source.Datatable)) = 19
number_of (kind.Word (word.Source source.Union)) = 20
number_of (kind.Word (word.Source source.MaterializedView)) = 21
number_of (kind.Word (word.Operator leading.Where)) = 22
number_of (kind.Word (word.Operator leading.Filter)) = 23
number_of (kind.Word (word.Operator leading.Extend)) = 24
number_of (kind.Word (word.Operator leading.Project)) = 25
number_of (kind.Word (word.Operator leading.Take)) = 26
number_of (kind.Word (word.Operator leading.Limit)) = 27
number_of (kind.Word (word.Operator leading.Count)) = 28
number_of (kind.Word (word.Operator leading.Sort)) = 29
number_of (kind.Word (word.Operator leading.Order)) = 30
number_of (kind.Word (word.Operator leading.Top)) = 31
number_of (kind.Word (word.Operator leading.Distinct)) = 32
number_of (kind.Word (word.Operator leading.Summarize)) = 33
number_of (kind.Word (word.Operator leading.Join)) = 34
number_of (kind.Word (word.Clause clause.From)) = 35
number_of (kind.Word (word.Clause clause.To)) = 36
number_of (kind.Word (word.Clause clause.Step)) = 37
number_of (kind.Word (word.Clause clause.Kind)) = 38
number_of (kind.Word (word.Clause clause.Outer)) = 39
number_of (kind.Word (word.Clause clause.Asc)) = 40
number_of (kind.Word (word.Clause clause.Desc)) = 41
number_of (kind.Word (word.Clause clause.Nulls)) = 42
number_of (kind.Word (word.Clause clause.First)) = 43
number_of (kind.Word (word.Clause clause.Last)) = 44
number_of (kind.Word (word.Clause clause.On)) = 45
number_of (kind.Word (word.Clause clause.Typeof)) = 46
number_of (kind.Word (word.Join join.InnerUnique)) = 47
number_of (kind.Word (word.Join join.Inner)) = 48
number_of (kind.Word (word.Join join.LeftOuter)) = 49
number_of (kind.Word (word.Join join.RightOuter)) = 50
number_of (kind.Word (word.Join join.FullOuter)) = 51
number_of (kind.Word (word.Join join.LeftSemi)) = 52
number_of (kind.Word (word.Join join.RightSemi)) = 53
number_of (kind.Word (word.Join join.LeftAnti)) = 54
number_of (kind.Word (word.Join join.RightAnti)) = 55
number_of (kind.Word (word.Control control.Create)) = 56
number_of (kind.Word (word.Control control.Table)) = 57
number_of (kind.Word (word.Control control.Ingest)) = 58
number_of (kind.Word (word.Control control.Inline)) = 59
number_of (kind.Word (word.Control control.Into)) = 60
number_of (kind.Word (word.Control control.With)) = 61
number_of (kind.Word (word.Control control.Alter)) = 62
number_of (kind.Word (word.Control control.Policy)) = 63
number_of (kind.Word (word.Control control.Update)) = 64
number_of (kind.Word (word.Control control.Async)) = 65
number_of (kind.Word (word.Control control.IfNotExists)) = 66
number_of (kind.Word (word.Control control.Show)) = 67
number_of (kind.Word (word.Control control.Ingestion)) = 68
number_of (kind.Word (word.Control control.Failures)) = 69
number_of (kind.Word (word.Control control.Extents)) = 70
number_of (kind.Word (word.Control control.Journal)) = 71
number_of (kind.Word (word.Control control.Fold)) = 72
number_of (kind.Word (word.Control control.Merge)) = 73
number_of (kind.Word (word.Control control.Export)) = 74
number_of (kind.Word (word.Control control.Over)) = 75
number_of (kind.DashedWord dashed.ProjectAway) = 76
number_of (kind.DashedWord dashed.ProjectRename) = 77
number_of (kind.DashedWord dashed.MvExpand) = 78
number_of (kind.DashedWord dashed.MaterializedView) = 79
number_of (kind.DashedWord dashed.AlterMerge) = 80
number_of (kind.Side side.Left) = 81
number_of (kind.Side side.Right) = 82
number_of kind.WholeNumber = 83
number_of kind.Real = 84
number_of kind.Timespan = 85
number_of kind.TypedLiteral = 86
number_of (kind.String (quoted.JoinKind join.InnerUnique)) = 87
number_of (kind.String (quoted.JoinKind join.Inner)) = 88
number_of (kind.String (quoted.JoinKind join.LeftOuter)) = 89
number_of (kind.String (quoted.JoinKind join.RightOuter)) = 90
number_of (kind.String (quoted.JoinKind join.FullOuter)) = 91
number_of (kind.String (quoted.JoinKind join.LeftSemi)) = 92
number_of (kind.String (quoted.JoinKind join.RightSemi)) = 93
number_of (kind.String (quoted.JoinKind join.LeftAnti)) = 94
number_of (kind.String (quoted.JoinKind join.RightAnti)) = 95
number_of (kind.String quoted.Other) = 96
number_of (kind.WordOperator worded.NotHas) = 97
number_of (kind.WordOperator worded.NotHasCs) = 98
number_of (kind.WordOperator worded.NotContains) = 99
number_of (kind.WordOperator worded.NotContainsCs) = 100
number_of (kind.WordOperator worded.NotStartsWith) = 101
number_of (kind.WordOperator worded.NotStartsWithCs) = 102
number_of (kind.WordOperator worded.NotEndsWith) = 103
number_of (kind.WordOperator worded.NotEndsWithCs) = 104
number_of (kind.WordOperator worded.NotIn) = 105
number_of (kind.WordOperator worded.NotInTilde) = 106
number_of (kind.WordOperator worded.NotBetween) = 107
number_of (kind.WordOperator worded.InTilde) = 108
number_of (kind.Punctuation sign.Pipe) = 109
number_of (kind.Punctuation sign.OpenParenthesis) = 110
number_of (kind.Punctuation sign.CloseParenthesis) = 111
number_of (kind.Punctuation sign.OpenBracket) = 112
number_of (kind.Punctuation sign.CloseBracket) = 113
number_of (kind.Punctuation sign.OpenBrace) = 114
number_of (kind.Punctuation sign.CloseBrace) = 115
number_of (kind.Punctuation sign.Comma) = 116
number_of (kind.Punctuation sign.Semicolon) = 117
number_of (kind.Punctuation sign.Colon) = 118
number_of (kind.Punctuation sign.Dot) = 119
number_of (kind.Punctuation sign.DotDot) = 120
number_of (kind.Punctuation sign.BodyMark) = 121
number_of (kind.Punctuation sign.Hash) = 122
number_of (kind.Operator operator.Assign) = 123
number_of (kind.Operator operator.Equal) = 124
number_of (kind.Operator operator.NotEqual) = 125
number_of (kind.Operator operator.Less) = 126
number_of (kind.Operator operator.LessOrEqual) = 127
number_of (kind.Operator operator.Greater) = 128
number_of (kind.Operator operator.GreaterOrEqual) = 129
number_of (kind.Operator operator.EqualTilde) = 130
number_of (kind.Operator operator.NotEqualTilde) = 131
number_of (kind.Operator operator.Plus) = 132
number_of (kind.Operator operator.Minus) = 133
number_of (kind.Operator operator.Star) = 134
number_of (kind.Operator operator.Slash) = 135
number_of (kind.Operator operator.Percent) = 136

at_number : (k : Kind) → nth kinds (number_of k) ≡ k
at_number (kind.Word word.Other) = refl
at_number (kind.Word (word.Reserved reserved.And)) = refl
at_number (kind.Word (word.Reserved reserved.Or)) = refl
at_number (kind.Word (word.Reserved reserved.By)) = refl
at_number (kind.Word (word.Reserved reserved.True)) = refl
at_number (kind.Word (word.Reserved reserved.False)) = refl
at_number (kind.Word (word.Reserved reserved.Let)) = refl
at_number (kind.Word (word.Reserved reserved.In)) = refl
at_number (kind.Word (word.Reserved reserved.Between)) = refl
at_number (kind.Word (word.Reserved reserved.Has)) = refl
at_number (kind.Word (word.Reserved reserved.HasCs)) = refl
at_number (kind.Word (word.Reserved reserved.Contains)) = refl
at_number (kind.Word (word.Reserved reserved.ContainsCs)) = refl
at_number (kind.Word (word.Reserved reserved.StartsWith)) = refl
at_number (kind.Word (word.Reserved reserved.StartsWithCs)) = refl
at_number (kind.Word (word.Reserved reserved.EndsWith)) = refl
at_number (kind.Word (word.Reserved reserved.EndsWithCs)) = refl
at_number (kind.Word (word.Source source.Print)) = refl
at_number (kind.Word (word.Source source.Range)) = refl
at_number (kind.Word (word.Source source.Datatable)) = refl
at_number (kind.Word (word.Source source.Union)) = refl
at_number (kind.Word (word.Source source.MaterializedView)) = refl
at_number (kind.Word (word.Operator leading.Where)) = refl
at_number (kind.Word (word.Operator leading.Filter)) = refl
at_number (kind.Word (word.Operator leading.Extend)) = refl
at_number (kind.Word (word.Operator leading.Project)) = refl
at_number (kind.Word (word.Operator leading.Take)) = refl
at_number (kind.Word (word.Operator leading.Limit)) = refl
at_number (kind.Word (word.Operator leading.Count)) = refl
at_number (kind.Word (word.Operator leading.Sort)) = refl
at_number (kind.Word (word.Operator leading.Order)) = refl
at_number (kind.Word (word.Operator leading.Top)) = refl
at_number (kind.Word (word.Operator leading.Distinct)) = refl
at_number (kind.Word (word.Operator leading.Summarize)) = refl
at_number (kind.Word (word.Operator leading.Join)) = refl
at_number (kind.Word (word.Clause clause.From)) = refl
at_number (kind.Word (word.Clause clause.To)) = refl
at_number (kind.Word (word.Clause clause.Step)) = refl
at_number (kind.Word (word.Clause clause.Kind)) = refl
at_number (kind.Word (word.Clause clause.Outer)) = refl
at_number (kind.Word (word.Clause clause.Asc)) = refl
at_number (kind.Word (word.Clause clause.Desc)) = refl
at_number (kind.Word (word.Clause clause.Nulls)) = refl
at_number (kind.Word (word.Clause clause.First)) = refl
at_number (kind.Word (word.Clause clause.Last)) = refl
at_number (kind.Word (word.Clause clause.On)) = refl
at_number (kind.Word (word.Clause clause.Typeof)) = refl
at_number (kind.Word (word.Join join.InnerUnique)) = refl
at_number (kind.Word (word.Join join.Inner)) = refl
at_number (kind.Word (word.Join join.LeftOuter)) = refl
at_number (kind.Word (word.Join join.RightOuter)) = refl
at_number (kind.Word (word.Join join.FullOuter)) = refl
at_number (kind.Word (word.Join join.LeftSemi)) = refl
at_number (kind.Word (word.Join join.RightSemi)) = refl
at_number (kind.Word (word.Join join.LeftAnti)) = refl
at_number (kind.Word (word.Join join.RightAnti)) = refl
at_number (kind.Word (word.Control control.Create)) = refl
at_number (kind.Word (word.Control control.Table)) = refl
at_number (kind.Word (word.Control control.Ingest)) = refl
at_number (kind.Word (word.Control control.Inline)) = refl
at_number (kind.Word (word.Control control.Into)) = refl
at_number (kind.Word (word.Control control.With)) = refl
at_number (kind.Word (word.Control control.Alter)) = refl
at_number (kind.Word (word.Control control.Policy)) = refl
at_number (kind.Word (word.Control control.Update)) = refl
at_number (kind.Word (word.Control control.Async)) = refl
at_number (kind.Word (word.Control control.IfNotExists)) = refl
at_number (kind.Word (word.Control control.Show)) = refl
at_number (kind.Word (word.Control control.Ingestion)) = refl
at_number (kind.Word (word.Control control.Failures)) = refl
at_number (kind.Word (word.Control control.Extents)) = refl
at_number (kind.Word (word.Control control.Journal)) = refl
at_number (kind.Word (word.Control control.Fold)) = refl
at_number (kind.Word (word.Control control.Merge)) = refl
at_number (kind.Word (word.Control control.Export)) = refl
at_number (kind.Word (word.Control control.Over)) = refl
at_number (kind.DashedWord dashed.ProjectAway) = refl
at_number (kind.DashedWord dashed.ProjectRename) = refl
at_number (kind.DashedWord dashed.MvExpand) = refl
at_number (kind.DashedWord dashed.MaterializedView) = refl
at_number (kind.DashedWord dashed.AlterMerge) = refl
at_number (kind.Side side.Left) = refl
at_number (kind.Side side.Right) = refl
at_number kind.WholeNumber = refl
at_number kind.Real = refl
at_number kind.Timespan = refl
at_number kind.TypedLiteral = refl
at_number (kind.String (quoted.JoinKind join.InnerUnique)) = refl
at_number (kind.String (quoted.JoinKind join.Inner)) = refl
at_number (kind.String (quoted.JoinKind join.LeftOuter)) = refl
at_number (kind.String (quoted.JoinKind join.RightOuter)) = refl
at_number (kind.String (quoted.JoinKind join.FullOuter)) = refl
at_number (kind.String (quoted.JoinKind join.LeftSemi)) = refl
at_number (kind.String (quoted.JoinKind join.RightSemi)) = refl
at_number (kind.String (quoted.JoinKind join.LeftAnti)) = refl
at_number (kind.String (quoted.JoinKind join.RightAnti)) = refl
at_number (kind.String quoted.Other) = refl
at_number (kind.WordOperator worded.NotHas) = refl
at_number (kind.WordOperator worded.NotHasCs) = refl
at_number (kind.WordOperator worded.NotContains) = refl
at_number (kind.WordOperator worded.NotContainsCs) = refl
at_number (kind.WordOperator worded.NotStartsWith) = refl
at_number (kind.WordOperator worded.NotStartsWithCs) = refl
at_number (kind.WordOperator worded.NotEndsWith) = refl
at_number (kind.WordOperator worded.NotEndsWithCs) = refl
at_number (kind.WordOperator worded.NotIn) = refl
at_number (kind.WordOperator worded.NotInTilde) = refl
at_number (kind.WordOperator worded.NotBetween) = refl
at_number (kind.WordOperator worded.InTilde) = refl
at_number (kind.Punctuation sign.Pipe) = refl
at_number (kind.Punctuation sign.OpenParenthesis) = refl
at_number (kind.Punctuation sign.CloseParenthesis) = refl
at_number (kind.Punctuation sign.OpenBracket) = refl
at_number (kind.Punctuation sign.CloseBracket) = refl
at_number (kind.Punctuation sign.OpenBrace) = refl
at_number (kind.Punctuation sign.CloseBrace) = refl
at_number (kind.Punctuation sign.Comma) = refl
at_number (kind.Punctuation sign.Semicolon) = refl
at_number (kind.Punctuation sign.Colon) = refl
at_number (kind.Punctuation sign.Dot) = refl
at_number (kind.Punctuation sign.DotDot) = refl
at_number (kind.Punctuation sign.BodyMark) = refl
at_number (kind.Punctuation sign.Hash) = refl
at_number (kind.Operator operator.Assign) = refl
at_number (kind.Operator operator.Equal) = refl
at_number (kind.Operator operator.NotEqual) = refl
at_number (kind.Operator operator.Less) = refl
at_number (kind.Operator operator.LessOrEqual) = refl
at_number (kind.Operator operator.Greater) = refl
at_number (kind.Operator operator.GreaterOrEqual) = refl
at_number (kind.Operator operator.EqualTilde) = refl
at_number (kind.Operator operator.NotEqualTilde) = refl
at_number (kind.Operator operator.Plus) = refl
at_number (kind.Operator operator.Minus) = refl
at_number (kind.Operator operator.Star) = refl
at_number (kind.Operator operator.Slash) = refl
at_number (kind.Operator operator.Percent) = refl

at_other : (p : Class) → holds_everywhere p ≡ true → p (kind.Word word.Other) ≡ true
at_other p h = (holds_tail p (kind.Word word.Other) others (p (kind.Word word.Other)) refl h).0

pub everywhere : (p : Class) → holds_everywhere p ≡ true → (k : Kind) → p k ≡ true
everywhere p h k = subst (λ k. p k ≡ true) (at_number k) (holds_at p kinds (at_other p h) h (number_of k))

not_true : (b : Bool) → not b ≡ true → b ≡ false
not_true true h = let no : false ≡ true = h in cc
not_true false h = refl

choice : (a b : Bool) → a ≡ true → (if a then not b else true) ≡ true → not b ≡ true
choice true b is h = h
choice false b is h = let no : false ≡ true = is in cc

other : (a b : Bool) → a ≡ false → (if a then true else not b) ≡ true → not b ≡ true
other true b is h = let no : true ≡ false = is in cc
other false b is h = h

-- no kind of the first class is in the second
pub apart : (a b : Class) → holds_everywhere (λ k. if a k then not (b k) else true) ≡ true → (t : Symbol) → of a t ≡ true → of b t ≡ false
apart a b h t is = not_true (b t.kind) (choice (a t.kind) (b t.kind) is (everywhere (λ k. if a k then not (b k) else true) h t.kind))

-- each kind of the second class is in the first
pub within : (a b : Class) → holds_everywhere (λ k. if a k then true else not (b k)) ≡ true → (t : Symbol) → of a t ≡ false → of b t ≡ false
within a b h t isnt = not_true (b t.kind) (other (a t.kind) (b t.kind) isnt (everywhere (λ k. if a k then true else not (b k)) h t.kind))

a_part : (a b : Bool) → a ≡ true → (if a then b else true) ≡ true → b ≡ true
a_part true b is h = h
a_part false b is h = let no : false ≡ true = is in cc

-- each kind of the first class is in the second
pub part : (a b : Class) → holds_everywhere (λ k. if a k then b k else true) ≡ true → (t : Symbol) → of a t ≡ true → of b t ≡ true
part a b h t is = a_part (a t.kind) (b t.kind) is (everywhere (λ k. if a k then b k else true) h t.kind)
