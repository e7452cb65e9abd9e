use Rattle.std.proofs.Common.{rules}
use Rattle.kq_catalog_indexes.specs.declared.entry.Entry.{Entry}
use Rattle.kq_catalog_indexes.proofs.Indexed.{IsIndex-with}
use Rattle.kq_catalog_indexes.proofs.names.Names.with.Goals as goal

pub invariant_of-result : goal.invariant_of-result
invariant_of-result c =
    let held = c.self.inside in
    let new : Entry = record { name = c.args.name.now; number = c.len-number.result } in
    IsIndex-with held.names.items c.in_ok-names.names.items held.entries.items c.in_ok-entries.entries.items new c.gap_for-at.result c.self.invariant (rw c.self.view_is c.requires.new) (search rules)
    (rw c.as_slice.ensures.value at c.gap_for-at.ensures) (rw c.as_slice-3.ensures.value at c.in_ok-names.ensures) (rw (c.as_slice-2.ensures.value, c.in_ok-clone_in.ensures) at c.in_ok-entries.ensures)
