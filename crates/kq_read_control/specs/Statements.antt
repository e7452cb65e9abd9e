-- Which command a text is, and why it is none.
use Rattle.std.specs.Prelude.{◌⊎◌, ℕ, List, length}
use Rattle.kq_read_control.specs.ControlTrees.{StatementTree}
use Rattle.kq_read_control.specs.Controls.{statement_text}
use Rattle.kq_read_control.specs.Symbols.{symbols_of}
use Rattle.kq_read_queries.specs.declared.asking.ParseFault.{ParseFault}
use Rattle.kq_read_queries.specs.declared.asking.ParseFault.TheVariants as fault
use Rattle.kq_read_queries.specs.Places.{AcceptsOnly, RefusesAt}
use Rattle.kq_read_tokens.specs.declared.token.Token.{Token}
use Rattle.kq_read_tokens.specs.declared.token.LexFault.TheVariants as lexed
use Rattle.kq_read_tokens.specs.Reading.{AreTokens, IsFault}

-- The text has these tokens, and the command is the only one that has their symbols.
pub record IsStatement (text : List ℕ) (s : StatementTree) : Type 0 where
  pub tokens : List Token
  pub are : AreTokens text tokens
  pub is : AcceptsOnly statement_text (symbols_of text tokens) s

-- The text has these tokens, and no command has their symbols.
pub record IsNone (text : List ℕ) (f : ParseFault) : Type 0 where
  pub tokens : List Token
  pub are : AreTokens text tokens
  pub refused : RefusesAt statement_text (symbols_of text tokens) (length text) f

-- Tokens come first: a text that isn't all tokens is refused where none starts.
abbrev pub IsRefusedText : List ℕ → ParseFault → Type 0
IsRefusedText text (fault.Syntax place) = IsFault text (lexed.Syntax place) ⊎ IsNone text (fault.Syntax place)
IsRefusedText text (fault.Deep place) = IsNone text (fault.Deep place)
IsRefusedText text fault.Memory = Unit {0}
