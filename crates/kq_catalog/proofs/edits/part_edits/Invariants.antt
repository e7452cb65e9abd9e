use Rattle.std.proofs.Common.{◌≡◌, ◌+◌, ℕ, [], length, map}
use Rattle.kq_catalog_journal.specs.Edits.{new_extents}
use Rattle.kq_catalog_journal.specs.Records.{rows_to}
use Rattle.kq_catalog.specs.Edits.{count_given, edits_by}
use Rattle.kq_catalog.specs.Intents.{batch_of}
use Rattle.kq_catalog.proofs.edits.part_edits.Given as goal

-- the parts so far are batches and extents, and their rows are counted
abbrev pub invariant-loop-part : goal.invariant-loop-part
invariant-loop-part l =
    (l.batches ≡ map batch_of l.yielded) ×
    (edits_by l.changes.items ≡ new_extents l.cursor l.id [] (map batch_of l.yielded)) × (l.next ≡ l.id + length l.yielded) ×
    ((t : ℕ) → count_given l.given t ≡ rows_to t (map batch_of l.yielded))
