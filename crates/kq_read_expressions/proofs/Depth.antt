-- The reader of expressions within one that is read with a number.
use Rattle.std.proofs.Common.{◌≡◌, ℕ, zero, suc, ◌<◌, ◌-◌, List, Err, refl, ap, arith}
use Rattle.kq_read_symbols.specs.declared.kind.Symbol.{Symbol}
use Rattle.kq_read_expressions.specs.Reading.{expression, disjunction}

pub expression_none : (n : ℕ) → n ≡ 0 → (ts : List Symbol) → expression n ts ≡ Err ts
unfolding expression
expression_none zero e ts = refl
expression_none (suc n) e ts = absurd (omega arith)

pub expression_deeper : (n : ℕ) → 0 < n → (ts : List Symbol) → expression n ts ≡ disjunction (expression (n - 1)) n ts
unfolding expression
expression_deeper zero some ts = absurd (omega arith)
expression_deeper (suc n) some ts = let e : n ≡ suc n - 1 = omega arith in ap (λ m. disjunction (expression m) (suc n) ts) e
