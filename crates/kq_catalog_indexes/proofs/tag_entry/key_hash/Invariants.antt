use Rattle.std.proofs.Common.{◌≡◌, drop}
use Rattle.kq_value.specs.Hash.{bytes_hash, seed, step}
use Rattle.kq_catalog_indexes.proofs.tag_entry.key_hash.Given as goal

abbrev pub invariant-loop-byte : goal.invariant-loop-byte
invariant-loop-byte l = bytes_hash (step seed l.table) l.byte-items ≡ bytes_hash l.state (drop l.byte-index l.byte-items)
