-- A function value that reads nested sources with their operators, with a number that is at least that of the symbols.
use Rattle.std.specs.Prelude.{ℕ, Result, List, Box}
use Rattle.std.specs.declared.alloc.Global.{Global}
use denote.Ref.{MutBor}
use Rattle.kq_read_grammar.specs.declared.tabular.Tabular.{Tabular}
use Rattle.kq_read_grammar.specs.TabularViews.{tabular_of}
use Rattle.kq_read_queries.specs.Reading.{tabular}
use Rattle.kq_read_symbols.specs.declared.cursor.Stop.{Stop}
use Rattle.kq_read_symbols.specs.declared.kind.Symbol.{Symbol}
use Rattle.kq_read_symbols.specs.Outcomes.{IsOutcome}

pub record Nests (budget : ℕ) (pre : Global → MutBor (List Symbol) → ℕ → Type 0)
    (post : Global → MutBor (List Symbol) → ℕ → Result (Box Tabular Global) Stop → MutBor (List Symbol) → Type 0) : Type 0 where
  pub callable : (alloc : Global) (old : MutBor (List Symbol)) → pre alloc old budget
  pub reads : (alloc : Global) (old new : MutBor (List Symbol)) (r : Result (Box Tabular Global) Stop) → post alloc old budget r new
      → IsOutcome (λ b. tabular_of b.value) (tabular budget old.now) r new.now
