-- What contracts see of `Tokens`.
use Rattle.std.specs.Prelude.{ℕ, ◌≤◌, List, length}
use Rattle.kq_read_tokens.specs.declared.token.Token.{Token}

pub record Lexed : Type 0 where
  pub text : List ℕ
  pub tokens : List Token

-- the token is a piece of the text
abbrev pub StandsIn : List ℕ → Token → Type 0
StandsIn text t = (t.from ≤ t.to) × (t.to ≤ length text)
