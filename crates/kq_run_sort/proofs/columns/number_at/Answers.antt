use Rattle.std.proofs.Common.{◌≡◌, ◌<◌, ℤ, List, [], Some, length, rules, slice_get, subst, sym}
use Rattle.std.specs.Prelude.{IfSome}
use Rattle.std.proofs.lemmas.List.{get_or-map}
use Rattle.kq_run_sort.proofs.columns.number_at.Goals as goal
use denote.Ref.{Bor}

pub returns-then-part-slices : goal.returns-then-part-slices
returns-then-part-slices c =
    let slices = c.args.slices.now in
    let part = c.args.spot.part in
    let within : part < length slices = search rules in
    let at = get_or-map (λ (xs : Bor (List ℤ)). xs.now) slices part _ [] within in
    subst (λ (xs : List ℤ). IfSome c.item_at.result (λ z. slice_get xs c.args.spot.row ≡ Some z)) (sym at) c.item_at.ensures
