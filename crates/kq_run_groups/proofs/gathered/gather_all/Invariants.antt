use Rattle.std.proofs.Common.{◌≡◌, ◌<◌, ◌≤◌, ℕ, length}
use Rattle.kq_run_groups.specs.Arguments.{rows_given}
use Rattle.kq_run_groups.specs.Groups.{Gathers, args_at, state_at}
use Rattle.kq_run_groups.proofs.gathered.gather_all.Given as goal

abbrev pub invariant-loop-i : goal.invariant-loop-i
invariant-loop-i l = record {
  done : (a : ℕ) → a < l.i → Gathers l.numbers (args_at (rows_given (length l.numbers) l.args) a) l.count (state_at l.fn.states a) (state_at l.states a);
  rest : (a : ℕ) → l.i ≤ a → state_at l.states a ≡ state_at l.fn.states a;
}
