use Rattle.std.proofs.Common.{◌<◌, ◌++◌, ◌∷◌, [], List, length, map, take, ap, ◌∙◌, arith}
use Rattle.std.specs.Arc.{arc_value}
use Rattle.std.proofs.lemmas.List.{map_push}
use Rattle.kq_store_extent.specs.Seen.{ExtentView}
use Rattle.kq_store_merge.proofs.Front.{take_next}
use Rattle.kq_store_merge.proofs.picked.first_of.Goals as goal

pub loop-at-preserved : goal.loop-at-preserved
loop-at-preserved c =
    let small = c.args.small.now in
    let at = c.loop-at.at in
    let within : at < length small = omega (arith, c.loop-at-test.true, c.requires) in
    ap (map arc_value) c.in_ok-push.ensures.items ∙ map_push arc_value c.loop-at.extents.items c.in_ok-try_clone.field-0
    ∙ ap (λ (es : List ExtentView). es ++ arc_value c.in_ok-try_clone.field-0 ∷ []) c.loop-at.invariant
    ∙ ap (λ (e : ExtentView). take at small ++ e ∷ []) c.in_ok-try_clone.ensures
    ∙ take_next small at (arc_value c.handle_at.result.now) within c.handle_at.ensures
