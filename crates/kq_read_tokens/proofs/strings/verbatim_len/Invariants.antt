use Rattle.std.proofs.Common.{◌≡◌, ◌+◌, false, drop}
use Rattle.std.specs.Option.{option_map}
use Rattle.kq_read_tokens.specs.Scanning.{verbatim_len}
use Rattle.kq_read_tokens.proofs.strings.verbatim_len.Given as goal

-- what is left gives the rest of the length
abbrev pub invariant-loop-i : goal.invariant-loop-i
invariant-loop-i l = verbatim_len l.quote false l.bytes ≡ option_map (λ k. l.i + k) (verbatim_len l.quote l.closed (drop l.i l.bytes))
