use Rattle.std.proofs.Common.{◌≡◌, ◌<◌, drop, get_or, length}
use Rattle.kq_value.specs.declared.record_id.RecordId.{RecordId}
use Rattle.kq_store_extent.specs.Runs.{ids_by}
use Rattle.kq_store_extent.proofs.runs.Runs.id_of.Given as goal

-- the id is that of this place in the runs that are left
abbrev pub invariant-loop-run : goal.invariant-loop-run
invariant-loop-run l =
    let left = ids_by (drop l.run-index l.run-items) in
    record { within : l.rest < length left; there : (d : RecordId) → get_or left l.rest d ≡ get_or (ids_by l.run-items) l.index d }
