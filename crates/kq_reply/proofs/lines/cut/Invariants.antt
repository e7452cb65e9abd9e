use Rattle.std.proofs.Common.{◌≡◌, ◌≤◌, ◌++◌, Bor, List, ℕ, drop, length, map}
use Rattle.std.specs.List.{sum}
use Rattle.kq_reply.specs.Lines.{pieces}
use Rattle.kq_reply.proofs.lines.cut.Given as goal

abbrev pub invariant-loop-size : goal.invariant-loop-size
invariant-loop-size l = record {
  cut : map (λ (line : Bor (List ℕ)). line.now) l.lines.items ++ pieces (drop l.size-index l.sizes) l.rest ≡ pieces l.sizes l.bytes;
  fits : sum (drop l.size-index l.sizes) ≤ length l.rest;
}
