use Rattle.std.proofs.Common.{◌≡◌, map, take}
use Rattle.kq_program_options.proofs.options.feeds.Given as goal

abbrev pub invariant-loop-name : goal.invariant-loop-name
invariant-loop-name l = l.feeds.items ≡ map (λ n. n.now) (take l.name-index l.names)
