use Rattle.std.proofs.Common.{map}
use Rattle.kq_store_column_view.specs.Vectors.{cells_of}
use Rattle.kq_run_groups.proofs.Columns.{same_number}
use Rattle.kq_run_groups.proofs.key_table.KeyTable.number_of_row.Goals as goal

pub returns-in-Some-clause-number : goal.returns-in-Some-clause-number
returns-in-Some-clause-number c =
    same_number c.args.self.now.keys c.args.numbers.now (map cells_of c.args.columns.now) c.args.codes.now c.args.row c.of.result c.in-Some.number c.requires.next c.requires.so_far c.requires.told c.in-Some.ensures
