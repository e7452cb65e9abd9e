-- A function value that reads nested expressions: the readers of their parts are proved with one in hand.
use Rattle.std.specs.Prelude.{ℕ, List, Result}
use Rattle.std.specs.declared.alloc.Global.{Global}
use denote.Ref.{MutBor}
use Rattle.kq_read_grammar.specs.declared.expression.Expression.{Expression}
use Rattle.kq_read_grammar.specs.Views.{tree_of}
use Rattle.kq_read_symbols.specs.declared.cursor.Stop.{Stop}
use Rattle.kq_read_symbols.specs.declared.kind.Symbol.{Symbol}
use Rattle.kq_read_symbols.specs.Outcomes.{IsOutcome}
use Rattle.kq_read_expressions.specs.Reading.{expression}

pub record Nests (budget : ℕ) (pre : Global → MutBor (List Symbol) → ℕ → Type 0)
    (post : Global → MutBor (List Symbol) → ℕ → Result Expression Stop → MutBor (List Symbol) → Type 0) : Type 0 where
  pub callable : (alloc : Global) (old : MutBor (List Symbol)) → pre alloc old budget
  pub reads : (alloc : Global) (old new : MutBor (List Symbol)) (r : Result Expression Stop) → post alloc old budget r new
      → IsOutcome tree_of (expression budget old.now) r new.now
