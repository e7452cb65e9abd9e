use Rattle.std.proofs.Common.{◌≡◌, ◌++◌, map, take, flat_map}
use Rattle.kq_reply.specs.Lines.{ended}
use Rattle.kq_export_csv.specs.Artefacts.{row_line}
use Rattle.kq_export_csv.specs.Recording.{IsBetweenRecords}
use Rattle.kq_export_csv.proofs.rows.put_in_order.Given as goal

abbrev pub invariant-loop-i : goal.invariant-loop-i
invariant-loop-i l = IsBetweenRecords l.recorder.writer × (l.text ≡ l.fn.text ++ flat_map ended (map row_line (take l.i l.rows)))
