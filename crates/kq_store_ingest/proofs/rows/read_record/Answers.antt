use Rattle.kq_store_ingest.proofs.Stops.{stops_flexible}
use Rattle.kq_store_ingest.proofs.rows.read_record.Goals as goal

pub reading_fault-requires : goal.reading_fault-requires
reading_fault-requires c =
    stops_flexible c.args.reader.now c.read_record.new.self _ c.requires.plain.flexible c.requires.text (c.in-Err.ensures.why c.requires.plain.untrimmed c.requires.plain.ready)
