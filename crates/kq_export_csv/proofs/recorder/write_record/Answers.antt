use Rattle.std.proofs.Common.{◌≡◌, ◌++◌, ◌∙◌, ◌≢◌, List, ℕ, []}
use Rattle.std.proofs.lemmas.List.{append-nil}
use Rattle.csv.specs.declared.writer.QuoteStyle.TheVariants as style
use Rattle.csv.specs.Records.{fields_of}
use Rattle.csv.specs.Writing.{writer_pending, writer_under}
use Rattle.kq_export_csv.proofs.Flexible.{row-same}
use Rattle.kq_export_csv.proofs.recorder.write_record.Goals as goal

-- a record that went through an empty buffer
passed : (held held2 held3 buffer buffer2 buffer3 row : List ℕ) → buffer ≡ [] → held2 ++ buffer2 ≡ (held ++ buffer) ++ row
    → held3 ++ buffer3 ≡ held2 ++ buffer2 → buffer3 ≡ [] → held3 ≡ held ++ row
passed held held2 held3 buffer buffer2 buffer3 row none wrote kept empty = rw (none, empty, append-nil held, append-nil held3) at (kept ∙ wrote)

pub returns-clause-written : goal.returns-clause-written
returns-clause-written c =
    let ready = c.requires in
    let before = c.args.writer.now in
    let between = c.write_byte_record.new.self in
    let after = c.flush.new.self in
    let plain : before.cfg.style ≢ style.NonNumeric = rw ready.setup (λ e. cc e) in
    let wrote = rw (ready.setup, row-same (fields_of c.args.fields.now)) at (c.in-Ok.ensures.bytes ready.fields ready.wrote plain) in
    passed (writer_under before).items (writer_under between).items (writer_under after).items (writer_pending before) (writer_pending between) (writer_pending after) _
    ready.pending wrote c.in-Ok-flush.ensures.bytes c.in-Ok-flush.ensures.pending
