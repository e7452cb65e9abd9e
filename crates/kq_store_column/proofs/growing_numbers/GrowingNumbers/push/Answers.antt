use Rattle.std.proofs.Common.{map, ap, ◌∙◌}
use Rattle.kq_store_column_view.specs.Numbers.{marked, number_cell}
use Rattle.kq_store_column.specs.Growing.{Grown, with_cell}
use Rattle.kq_store_column.proofs.Grown.{built_from, grown_from}
use Rattle.kq_store_column.proofs.growing_numbers.GrowingNumbers.push.Goals as goal

pub invariant_of-self-2 : goal.invariant_of-self-2
invariant_of-self-2 c =
    let s = c.self.inside in
    let cells = map (number_cell s.ty) (marked s.nulls.items s.numbers.items) in
    grown_from s.ty _ _ _ _ c.self.invariant.of_numbers (c.in_ok-null.ensures.ok s.any cells (built_from s.ty s.nulls.items s.numbers.items s.any c.self.invariant))

pub returns-clause-ok : goal.returns-clause-ok
returns-clause-ok c =
    let s = c.self.inside in
    let cells = map (number_cell s.ty) (marked s.nulls.items s.numbers.items) in
    let built = c.in_ok-null.ensures.ok s.any cells (built_from s.ty s.nulls.items s.numbers.items s.any c.self.invariant) in
    (λ t. record { ty = s.ty; cells = built.stand t }) ∙ ap (λ (g : Grown). with_cell g c.args.cell.now) c.self.view_is
