use Rattle.std.proofs.Common.{ℤ, List, ap, map, sym, take, ◌∙◌}
use Rattle.std.proofs.lemmas.List.{take-map}
use Rattle.kq_store_frame.specs.Series.{cell_by, cells_in}
use Rattle.kq_store_frame.specs.declared.series.Series.{Series}
use Rattle.kq_store_frame.proofs.series.Series.first.Goals as goal

pub returns-in_ok-copied-in-Numbers : goal.returns-in_ok-copied-in-Numbers
returns-in_ok-copied-in-Numbers c =
    let f = cell_by c.in-Numbers.kind in
    let zs = c.in-Numbers.numbers.items in
    let n = c.args.count in
    ap (map f) c.in_ok-copied-in-Numbers.ensures ∙ ap (λ (xs : List ℤ). map f (take n xs)) c.deref.ensures.value ∙ sym (take-map f n zs) ∙ ap (λ (s : Series). take n (cells_in s)) (sym c.in-Numbers.is)
