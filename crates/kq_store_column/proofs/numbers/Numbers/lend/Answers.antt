use Rattle.std.proofs.Common.{◌-◌, ℤ, Bool, List, length, take, drop, ap, ◌∙◌, arith}
use Rattle.kq_store_column_view.proofs.Masked.{length-cells}
use Rattle.kq_store_column.proofs.Lent.{numbers_lent}
use Rattle.kq_store_column.proofs.numbers.Numbers.lend.Goals as goal

pub part-requires : goal.part-requires
part-requires c =
    let s = c.self.inside in
    let same = ap length c.deref.ensures.value in
    (c.requires.0, omega (arith, ap length c.self.view_is, length-cells s.ty s.nulls.items s.numbers.items, c.requires.1, same))

pub marks-requires : goal.marks-requires
marks-requires c =
    let s = c.self.inside in
    let same = ap length c.deref-2.ensures.value in (
      c.requires.0,
      λ some.
          let long = c.self.invariant.marks (omega (arith, same, some)) in
          omega (arith, ap length c.self.view_is, length-cells s.ty s.nulls.items s.numbers.items, c.requires.1, same, long),
    )

pub returns : goal.returns
returns c =
    let s = c.self.inside in
    let n = c.args.to - c.args.from in
    c.lent_numbers.ensures
    ∙ numbers_lent s.ty s.nulls.items c.marks.result.now s.numbers.items c.part.result.now c.args.self.now n c.args.from c.self.invariant
    (c.marks.ensures ∙ ap (λ (bs : List Bool). take n (drop c.args.from bs)) c.deref-2.ensures.value)
    (c.part.ensures ∙ ap (λ (zs : List ℤ). take n (drop c.args.from zs)) c.deref.ensures.value)
    c.self.view_is
