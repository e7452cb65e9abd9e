use Rattle.std.proofs.Common.{◌≡◌, ◌+◌, ◌≤◌, drop}
use Rattle.std.specs.Option.{option_map}
use Rattle.kq_read_tokens.specs.Delimited.{nesting_step, unnested}
use Rattle.kq_read_tokens.specs.Scanning.{closing_len}
use Rattle.kq_read_tokens.proofs.literals.dynamic_len.Given as goal

-- what is left gives the rest of the length, and no more brackets are open than bytes were read
abbrev pub invariant-loop-i : goal.invariant-loop-i
invariant-loop-i l = (closing_len nesting_step unnested l.bytes ≡ option_map (λ k. l.i + k) (closing_len nesting_step l.nesting (drop l.i l.bytes))) × (l.nesting.depth ≤ l.i)
