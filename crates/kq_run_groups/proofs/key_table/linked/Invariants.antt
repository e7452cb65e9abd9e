use Rattle.std.proofs.Common.{◌≡◌, map, take}
use Rattle.kq_run_groups.specs.Keys.{head_of}
use Rattle.kq_run_groups.proofs.key_table.linked.Given as goal

abbrev pub invariant-loop-hash : goal.invariant-loop-hash
invariant-loop-hash l = l.chain ≡ record { heads = l.heads; added = map (head_of l.heads) (take l.hash-index l.hashes) }
