use Rattle.std.proofs.Common.{◌∙◌, get_or, map, take}
use Rattle.kq_store_rows.specs.Chunks.{row_at}
use Rattle.kq_run_groups.proofs.Tables.{Numbers-step, take_mapped}
use Rattle.kq_run_groups.proofs.key_table.KeyTable.numbers_at.Goals as goal

pub loop-i-preserved : goal.loop-i-preserved
loop-i-preserved c =
    let keys = c.args.other.now.keys in
    let places = c.args.places.now in
    let i = c.loop-i.i in
    let those = map (row_at keys) places in
    record {
      table = c.in_ok-number.ensures.table;
      width = c.number_at.ensures.width ∙ c.loop-i.invariant.width;
      numbers = rw (take_mapped (row_at keys) places i 0 c.loop-i-test.true, c.in_ok-push.ensures.items)
          (Numbers-step c.args.self.now.keys c.loop-i.self.keys c.number_at.new.self.keys c.loop-i.numbers.items (take i those) c.in_ok-number.number (row_at keys (get_or places i 0)) c.loop-i.invariant.numbers
          c.in_ok-number.ensures.keys c.in_ok-number.ensures.number.0 c.in_ok-number.ensures.number.1);
    }
