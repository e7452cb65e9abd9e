use Rattle.std.proofs.Common.{◌≡◌, ℕ, List, []}
use Rattle.csv.specs.Reading.{source_of}
use Rattle.kq_store_extent.specs.Coming.{types_of}
use Rattle.kq_store_ingest.specs.Reading.{known}
use Rattle.kq_store_ingest.proofs.HasRead.{HasRead}
use Rattle.kq_store_ingest.proofs.Records.{bytes_in}
use Rattle.kq_store_ingest.proofs.Taking.{Taken}
use Rattle.kq_store_ingest.proofs.rows.read_rows.Given as goal

abbrev pub invariant-loop-row : goal.invariant-loop-row
invariant-loop-row l = (l.row.items ≡ []) × (l.rows.types ≡ types_of l.fn.schema) × (seen : List (List (List ℕ))) × (left : List ℕ) × HasRead l.fn.body l.reader seen left × Taken l.fn.schema l.fn.skip_first l.skip l.fn.limit seen l.rows.rows

abbrev pub decreases-loop-row : goal.decreases-loop-row
decreases-loop-row l = bytes_in (source_of known l.reader)
