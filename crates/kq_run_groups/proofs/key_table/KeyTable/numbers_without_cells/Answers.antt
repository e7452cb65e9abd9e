use Rattle.std.proofs.Common.{◌≡◌, [], arith, replicate}
use Rattle.kq_run_groups.proofs.ColumnKeys.{Numbers-all, Numbers-none}
use Rattle.kq_run_groups.proofs.key_table.KeyTable.numbers_without_cells.Goals as goal

pub returns-clause-numbers : goal.returns-clause-numbers
returns-clause-numbers c =
    let old = c.args.self.now.keys in
    let at = c.in_ok-number.ensures.number in
    let all : c.in_ok-numbers.numbers.items ≡ replicate c.args.count c.in_ok-number.number = c.in_ok-numbers.ensures.items_if_clones_equal (λ y same. same) in
    rw all (Numbers-all old c.number.new.self.keys c.in_ok-number.number [] c.args.count (omega arith) (Numbers-none old c.requires.table.apart) c.in_ok-number.ensures.keys at.0 at.1)
