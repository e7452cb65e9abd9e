-- What a search knows of the m bytes x that it looks for, once it has cut them.
use Rattle.std.specs.Prelude.{◌≡◌, ℕ, ◌+◌, ◌<◌, ◌≤◌}
use Rattle.memchr.specs.Critical.{IsCritical, NoPeriodBelow}
use Rattle.kq_value_strings.specs.declared.cut.Cut.{Cut}

-- what repeats across the cut is a period of all, no period is below the shift, and the known bytes stand a shift later
pub record IsCutOf (x : ℕ → ℕ) (m : ℕ) (cut : Cut) : Type 0 where
  pub inside : cut.critical < m
  pub critical : IsCritical x m cut.critical
  pub moves : 0 < cut.shift
  pub fits : cut.known + cut.shift ≤ m
  pub least : NoPeriodBelow x m cut.shift
  pub compared : (k : ℕ) → k < cut.known → cut.critical ≤ k + cut.shift
  pub repeats : (k : ℕ) → k < cut.known → x k ≡ x (k + cut.shift)
