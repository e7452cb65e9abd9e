use Rattle.std.proofs.Common.{◌∙◌, ◌+◌, arith, map, subst, take}
use Rattle.std.proofs.lemmas.List.{take_all}
use Rattle.kq_store_column_view.specs.Vectors.{cells_of}
use Rattle.kq_run_aggregates.specs.Across.{across}
use Rattle.kq_run_groups.specs.Columns.{rows_of}
use Rattle.kq_run_groups.specs.Keys.{Numbers}
use Rattle.kq_run_groups.proofs.Columns.{length-rows_of, numbers_so_far, take_rows, told_first}
use Rattle.kq_run_groups.proofs.Tables.{Numbers-step}
use Rattle.kq_run_groups.proofs.key_table.KeyTable.numbers_of_columns.Goals as goal

pub loop-i-preserved : goal.loop-i-preserved
loop-i-preserved c =
    let columns = map cells_of c.args.columns.now in
    let i = c.loop-i.i in
    let rows = rows_of c.args.count columns in
    record {
      table = c.in_ok-number.ensures.table;
      width = c.number_of_row.ensures.width ∙ c.loop-i.invariant.width;
      numbers = rw (take_rows c.args.count columns i c.requires.along c.loop-i-test.true, c.in_ok-push.ensures.items)
          (Numbers-step c.args.self.now.keys c.loop-i.self.keys c.number_of_row.new.self.keys c.loop-i.numbers.items (take i rows) c.in_ok-number.number (across columns i) c.loop-i.invariant.numbers
          c.in_ok-number.ensures.keys c.in_ok-number.ensures.number.0 c.in_ok-number.ensures.number.1);
    }

pub number_of_row-requires-clause-next : goal.number_of_row-requires-clause-next
number_of_row-requires-clause-next c =
    let columns = map cells_of c.args.columns.now in
    rw c.as_slice-in-loop-i.ensures.value (numbers_so_far c.loop-i.self.keys c.loop-i.numbers.items c.args.count columns c.loop-i.i c.requires.along (omega arith) c.loop-i.invariant.numbers.are).0

pub number_of_row-requires-clause-told : goal.number_of_row-requires-clause-told
number_of_row-requires-clause-told c =
    let columns = map cells_of c.args.columns.now in
    rw c.as_slice.ensures.value (told_first c.args.count (c.loop-i.i + 1) c.in_ok-codes.codes.items columns (omega arith) (c.in_ok-codes.ensures c.args.count c.requires.along))

pub number_of_row-requires-clause-so_far : goal.number_of_row-requires-clause-so_far
number_of_row-requires-clause-so_far c =
    let columns = map cells_of c.args.columns.now in
    rw c.as_slice-in-loop-i.ensures.value (numbers_so_far c.loop-i.self.keys c.loop-i.numbers.items c.args.count columns c.loop-i.i c.requires.along (omega arith) c.loop-i.invariant.numbers.are).1

pub returns-clause-numbers : goal.returns-clause-numbers
returns-clause-numbers c =
    let columns = map cells_of c.args.columns.now in
    let rows = rows_of c.args.count columns in
    let long = length-rows_of c.args.count columns c.requires.along in
    subst (Numbers c.args.self.now.keys c.loop-i.self.keys c.loop-i.numbers.items) (take_all c.loop-i.i rows (omega (arith, long))) c.loop-i.invariant.numbers
