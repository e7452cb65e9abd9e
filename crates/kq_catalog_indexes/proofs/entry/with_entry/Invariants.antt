use Rattle.std.proofs.Common.{◌≡◌, take}
use Rattle.kq_catalog_indexes.proofs.entry.with_entry.Given as goal

abbrev pub invariant-loop-held : goal.invariant-loop-held
invariant-loop-held l = l.all.items ≡ take l.held-index l.entries
