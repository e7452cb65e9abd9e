use Rattle.std.proofs.Common.{◌≡◌, ◌++◌, Bor, List, ℕ, map, take, flat_map}
use Rattle.kq_reply.specs.Lines.{ended}
use Rattle.kq_reply.proofs.lines.put_lines.Given as goal

abbrev pub invariant-loop-line : goal.invariant-loop-line
invariant-loop-line l = l.text ≡ l.fn.text ++ flat_map ended (map (λ (line : Bor (List ℕ)). line.now) (take l.line-index l.lines))
