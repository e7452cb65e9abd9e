-- The reader of sources with operators, a budget at a time.
use Rattle.std.proofs.Common.{◌≡◌, ℕ, zero, suc, ◌<◌, ◌-◌, List, Err, refl, ap, arith}
use Rattle.kq_read_queries.specs.Reading.{tabular, pipeline}
use Rattle.kq_read_symbols.specs.declared.kind.Symbol.{Symbol}

pub tabular_none : (n : ℕ) → n ≡ 0 → (ts : List Symbol) → tabular n ts ≡ Err ts
unfolding tabular
tabular_none zero e ts = refl
tabular_none (suc n) e ts = absurd (omega arith)

pub tabular_deeper : (n : ℕ) → 0 < n → (ts : List Symbol) → tabular n ts ≡ pipeline (tabular (n - 1)) n ts
unfolding tabular
tabular_deeper zero some ts = absurd (omega arith)
tabular_deeper (suc n) some ts = let e : n ≡ suc n - 1 = omega arith in ap (λ m. pipeline (tabular m) (suc n) ts) e
