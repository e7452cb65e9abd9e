use Rattle.std.proofs.Common.{◌-◌, ap, length, map, rules, sym, ◌∙◌, arith}
use Rattle.kq_store_frame.specs.Series.{cells_in}
use Rattle.kq_store_frame.proofs.Across.{column_got, length-rows_across, lent_across, long_at}
use Rattle.kq_store_frame.proofs.frame.Frame.lend.Goals as goal

pub lend-requires : goal.lend-requires
lend-requires c =
    let s = c.self.inside in
    let n = sym (length-rows_across (map cells_in s.columns.items) s.count) ∙ ap length c.self.view_is in
    let long = long_at s.columns.items s.count c.args.column c.index.result.now c.self.invariant.long (search rules) c.index.ensures in
    (c.requires.0, omega (arith, n, long, c.requires.1))

pub returns-then-column-len : goal.returns-then-column-len
returns-then-column-len c =
    let s = c.self.inside in
    let x = c.index.result.now in
    let long = long_at s.columns.items s.count c.args.column x c.self.invariant.long (search rules) c.index.ensures in
    let got = column_got s.columns.items c.args.column x (search rules) c.index.ensures in
    c.lend.ensures ∙ lent_across (map cells_in s.columns.items) c.args.self.now s.count c.args.column (c.args.to - c.args.from) c.args.from (cells_in x) got long c.self.view_is
