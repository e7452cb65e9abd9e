use Rattle.std.proofs.Common.{◌≡◌, ◌+◌, drop}
use Rattle.std.specs.Option.{option_map}
use Rattle.kq_read_tokens.specs.Delimited.{step}
use Rattle.kq_read_tokens.specs.Scanning.{closing_len}
use Rattle.kq_read_tokens.proofs.delimited.closing_len.Given as goal

-- what is left gives the rest of the length
abbrev pub invariant-loop-i : goal.invariant-loop-i
invariant-loop-i l = closing_len step l.fn.start l.bytes ≡ option_map (λ k. l.i + k) (closing_len step l.within (drop l.i l.bytes))
