use Rattle.std.proofs.Common.{◌<◌, ◌∙◌, length, get_or, map, take, pos, arith, rules, w64, FitsSigned}
use Rattle.std.proofs.lemmas.Int.{to_z-of_z}
use Rattle.kq_run_aggregates.specs.Alone.{alone, cell_as, each_alone}
use Rattle.kq_run_groups.proofs.ColumnKeys.{take_numbers}
use Rattle.kq_run_groups.proofs.Tables.{Numbers-step}
use Rattle.kq_run_groups.proofs.key_table.KeyTable.numbers_by_hint.Goals as goal

pub loop-i-preserved : goal.loop-i-preserved
loop-i-preserved c =
    let values = c.args.values.now in
    let r = c.args.reading in
    let i = c.loop-i.i in
    let h : i < length values = omega arith in
    let z = get_or values i (pos 0) in
    let fz : FitsSigned w64 z = search rules in
    let rows = each_alone (map (cell_as r) values) in
    let keys = simp to_z-of_z at c.in_ok-number.ensures.keys in
    let at = simp to_z-of_z at c.in_ok-number.ensures.number.1 in
    record {
      table = c.in_ok-number.ensures.table;
      width = c.number_by_hint.ensures.width ∙ c.loop-i.invariant.width;
      numbers = rw (take_numbers r values i h, c.in_ok-push.ensures.items)
          (Numbers-step c.args.self.now.keys c.loop-i.self.keys c.number_by_hint.new.self.keys c.loop-i.numbers.items (take i rows) c.in_ok-number.number (alone (cell_as r z)) c.loop-i.invariant.numbers
          keys c.in_ok-number.ensures.number.0 at);
    }
