use Rattle.std.proofs.Common.{◌≡◌, ◌∙◌, map, ap, sym, subst}
use Rattle.std.specs.Prelude.{IfSome}
use Rattle.kq_value.specs.Computed.{Is}
use Rattle.kq_eval_kernels.specs.Numbers.{of_kind}
use Rattle.kq_eval_columns.specs.Seen.{beside_one}
use Rattle.kq_eval_columns.proofs.OneValue.{map-twice}
use Rattle.kq_eval_columns.proofs.arithmetic.operated_beside.Goals as goal

pub returns-in-Some-2 : goal.returns-in-Some-2
returns-in-Some-2 c =
    let kind = c.in-Some.kind in
    let f = beside_one c.args.function c.args.value.now in
    let gives = subst (λ o. IfSome o (λ zs. f (map (of_kind kind) c.in-Some.numbers.now) ≡ map (λ z. Is (of_kind kind z)) zs.items)) c.in-Some-2.is c.in_ok-found.ensures in
    ap f c.in-Some.ensures ∙ gives ∙ sym (map-twice Is (of_kind kind) c.in-Some-2.found.items) ∙ ap (map Is) (sym c.numbers_as.ensures)
