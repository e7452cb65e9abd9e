-- What names may stand for.
use Rattle.std.specs.Prelude.{ℕ, List}
use Rattle.kq_bind_expressions.specs.declared.scope.Scope.{Scope}
use Rattle.kq_value.specs.declared.schema.Field.{Field}

-- a query's text, and the scalar lets so far
pub record Names : Type 0 where
  pub text : List ℕ
  pub lets : List Field

abbrev pub names_of : Scope → Names
names_of s = record { text = s.text.now; lets = s.lets.now }
