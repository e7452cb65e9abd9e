use Rattle.std.proofs.Common.{◌≡◌, drop}
use Rattle.kq_value.specs.Hash.{bytes_hash}
use Rattle.kq_value.proofs.hash.step_bytes.Given as goal

abbrev pub invariant-loop-byte : goal.invariant-loop-byte
invariant-loop-byte l = bytes_hash l.fn.state l.bytes ≡ bytes_hash l.state (drop l.byte-index l.bytes)
