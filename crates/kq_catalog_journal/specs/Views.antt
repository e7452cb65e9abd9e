-- What views cover.
use Rattle.std.specs.Prelude.{ℕ, Bool, not, ◌&&◌, List, length, map, take, nat_lt}
use Rattle.std.specs.List.{filter}
use Rattle.kq_run_plan.specs.kq_run_gather.Bodies.{columns_read}
use Rattle.kq_plan.specs.Plans.{planned_of}
use Rattle.kq_value.specs.declared.record.Record.{Record}
use Rattle.kq_value.specs.declared.value.Value.{Value}
use Rattle.kq_catalog_journal.specs.declared.view.View.{View}
use Rattle.kq_catalog_journal.specs.History.{Log}
use Rattle.kq_catalog_journal.specs.Records.{records}

-- whether a record came above one cursor and up to another
abbrev pub is_between : ℕ → ℕ → Record → Bool
is_between above to r = nat_lt above r.id.cursor && not (nat_lt to r.id.cursor)

-- a record's row, cut to the columns that the view's table had when the view was made
abbrev pub row_for : View → Record → List Value
row_for v r = take (length (columns_read (planned_of v.body))) r.row

-- the rows that a view reads of the records of its table above one cursor and up to another
abbrev pub covered : Log → View → ℕ → ℕ → List (List Value)
covered l v above to = map (row_for v) (filter (is_between above to) (records l v.source))
