-- A writer of records that serves many.
use Rattle.std.specs.Prelude.{◌≡◌, [], false, true}
use Rattle.csv.specs.Writing.{default_writer, fields_written, has_written, with_flexible, writer_pending, writer_setup}
use Rattle.csv.specs.declared.writer.Writer.{Writer}
use Rattle.csv.specs.declared.writer.WriterBuilder.{WriterBuilder}

-- the default writer, for records of any number of fields
abbrev pub flexible_writer : WriterBuilder
flexible_writer = with_flexible default_writer true

-- each record that was begun is whole, and has reached the writer underneath
pub record IsBetweenRecords {W : Type 0} (w : Writer W) : Type 0 where
  pub setup : writer_setup w ≡ flexible_writer
  pub fields : fields_written w ≡ 0
  pub wrote : has_written w ≡ false
  pub pending : writer_pending w ≡ []
