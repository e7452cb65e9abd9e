-- The symbols of a text: its tokens, with what each word says.
use Rattle.std.specs.Prelude.{ℕ, List, map, slice_range}
use Rattle.kq_read_literals.specs.Strings.{string_text_of}
use Rattle.kq_read_symbols.specs.declared.kind.Kind.{Kind}
use Rattle.kq_read_symbols.specs.declared.kind.Kind.TheVariants as kind
use Rattle.kq_read_symbols.specs.declared.kind.Quoted.{Quoted}
use Rattle.kq_read_symbols.specs.declared.kind.Quoted.TheVariants as quoted
use Rattle.kq_read_symbols.specs.declared.kind.Symbol.{Symbol}
use Rattle.kq_read_symbols.specs.declared.word.Word.{Word}
use Rattle.kq_read_symbols.specs.declared.word.Word.TheVariants as word
use Rattle.kq_read_symbols.specs.Words.{word_of}
use Rattle.kq_read_tokens.specs.declared.kind.TokenKind.{TokenKind}
use Rattle.kq_read_tokens.specs.declared.kind.TokenKind.TheVariants as token
use Rattle.kq_read_tokens.specs.declared.token.Token.{Token}

abbrev pub quoted_as : Word → Quoted
quoted_as (word.Join k) = quoted.JoinKind k
quoted_as _ = quoted.Other

-- what the text of a string says
abbrev pub quoted_of : TokenKind → List ℕ → Quoted
quoted_of k bytes = quoted_as (word_of (string_text_of k bytes))

abbrev pub kind_of : TokenKind → List ℕ → Kind
kind_of token.Word bytes = kind.Word (word_of bytes)
kind_of (token.DashedWord d) bytes = kind.DashedWord d
kind_of (token.Side s) bytes = kind.Side s
kind_of token.WholeNumber bytes = kind.WholeNumber
kind_of token.Real bytes = kind.Real
kind_of token.Timespan bytes = kind.Timespan
kind_of (token.TypedLiteral l) bytes = kind.TypedLiteral
kind_of token.String bytes = kind.String (quoted_of token.String bytes)
kind_of token.VerbatimString bytes = kind.String (quoted_of token.VerbatimString bytes)
kind_of token.LongString bytes = kind.String (quoted_of token.LongString bytes)
kind_of (token.WordOperator o) bytes = kind.WordOperator o
kind_of (token.Punctuation p) bytes = kind.Punctuation p
kind_of (token.Operator o) bytes = kind.Operator o

abbrev pub symbol_of : List ℕ → Token → Symbol
symbol_of text t = record { kind = kind_of t.kind (slice_range text t.from t.to); from = t.from; to = t.to }

abbrev pub symbols_of : List ℕ → List Token → List Symbol
symbols_of text ts = map (symbol_of text) ts
