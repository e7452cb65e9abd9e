use Rattle.std.proofs.Common.{map, take}
use Rattle.kq_export_csv.specs.Artefacts.{row_line}
use Rattle.kq_export_csv.specs.Recording.{IsBetweenRecords}
use Rattle.kq_reply.specs.Lines.{AreLines}
use Rattle.kq_export_csv.proofs.rows.row_lines.Given as goal

abbrev pub invariant-loop-i : goal.invariant-loop-i
invariant-loop-i l = IsBetweenRecords l.recorder.writer × AreLines (map row_line (take l.i l.rows)) l.bytes l.sizes.items
