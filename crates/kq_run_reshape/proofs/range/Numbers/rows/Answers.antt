use Rattle.std.proofs.Common.{◌+◌, refl, sym, ap, ◌∙◌, map, arith}
use Rattle.std.specs.List.{range_with_len}
use Rattle.kq_run_reshape.specs.Range.{row_at_place}
use Rattle.kq_run_reshape.proofs.Ranging.{number_fits, length-numbers_as}
use Rattle.kq_run_reshape.proofs.range.Numbers.rows.Goals as goal

pub first_rows-requires-clause-fit : goal.first_rows-requires-clause-fit
first_rows-requires-clause-fit c =
    let n = c.args.self.now in
    number_fits n.from n.to n.step (c.in-Some.last + 1) (sym c.in-Some.ensures.count) c.last_place.ensures.from c.last_place.ensures.to

pub returns-in_ok-first_rows-in-Some : goal.returns-in_ok-first_rows-in-Some
returns-in_ok-first_rows-in-Some c =
    let n = c.args.self.now in (
      c.in_ok-first_rows-in-Some.ensures ∙ ap (λ count. map (row_at_place c.args.ty n.from n.step) (range_with_len 0 count)) (sym c.in-Some.ensures.count),
      omega (arith, length-numbers_as c.args.ty n.from n.to n.step, c.in-Some.ensures.count),
    )

pub returns-in-Some-2 : goal.returns-in-Some-2
returns-in-Some-2 c =
    let n = c.args.self.now in
    (refl, omega (arith, length-numbers_as c.args.ty n.from n.to n.step, c.in-Some.ensures.count))
