use Rattle.std.proofs.Common.{◌-◌, ℤ, List, ap, drop, map, sym, take, ◌∙◌}
use Rattle.std.proofs.lemmas.List.{drop-map, take-map}
use Rattle.kq_store_frame.specs.Series.{cell_by, cells_in}
use Rattle.kq_store_frame.specs.declared.series.Series.{Series}
use Rattle.kq_store_frame.proofs.series.Series.lend.Goals as goal

pub returns-in-Numbers : goal.returns-in-Numbers
returns-in-Numbers c =
    let f = cell_by c.in-Numbers.kind in
    let zs = c.in-Numbers.numbers.items in
    let from = c.args.from in
    let n = c.args.to - from in
    c.lent.ensures ∙ ap (λ (xs : List ℤ). map f (take n (drop from xs))) c.deref.ensures.value ∙ sym (take-map f n (drop from zs)) ∙ sym (ap (take n) (drop-map f from zs))
    ∙ ap (λ (s : Series). take n (drop from (cells_in s))) (sym c.in-Numbers.is)
