-- What a history leaves of each of its tables.
use Rattle.std.specs.Prelude.{ℕ, ◌+◌, List, [], ◌∷◌}
use Rattle.kq_value.specs.declared.record.Record.{Record}
use Rattle.kq_catalog_journal.specs.declared.table.Table.{Table}
use Rattle.kq_catalog_journal.specs.History.{History, log, tables}
use Rattle.kq_catalog_journal.specs.Records.{ExtentItem, records_given, extents}
use Rattle.kq_store_rows.specs.Widened.{widened_records}

-- a table as a history leaves it: its records, each widened to its columns, and its extents by the ids of their records
pub record TableState : Type 0 where
  pub table : Table
  pub records : List Record
  pub items : List ExtentItem

abbrev pub states_from : ℕ → List Table → History → List TableState
states_from n [] h = []
states_from n (t ∷ ts) h = record { table = t; records = widened_records t.schema (records_given (log h) n); items = extents h n } ∷ states_from (n + 1) ts h

-- the tables of a history in order, each with what it holds
abbrev pub table_states : History → List TableState
table_states h = states_from 0 (tables (log h)) h
