use Rattle.std.proofs.Common.{◌≡◌, ◌&&◌, suc, ◌-◌, ◌≤◌, Bool, List, [], ◌∷◌, map, length, take, drop, slice_index_or, refl, ap, ◌∙◌, arith}
use Rattle.std.proofs.lemmas.List.{take_all}
use Rattle.kq_value.specs.declared.ty.Ty.{Ty}
use Rattle.kq_value.specs.declared.ty.Ty.TheVariants.{Long, Bool as Truth}
use Rattle.kq_value.specs.Ty.{same_ty}
use Rattle.kq_plan_functions.specs.Table.{choice_type, choice_fits, when}
use Rattle.kq_plan_functions.specs.Seen.{seen}
use Rattle.kq_plan_functions.proofs.typing.choice_type.Goals as goal

choice-at : (w : Bool) (ts : List Ty) (p t : Ty) (us : List Ty) → 2 ≤ length ts → p ≡ seen w (slice_index_or ts 0 Long) → t ≡ seen w (slice_index_or ts 1 Long)
    → us ≡ map (seen w) (take (length ts - 2) (drop 2 ts)) → when (same_ty p Truth && choice_fits t us) t ≡ choice_type (map (seen w) ts)
choice-at w [] p t us h a b c = absurd (omega arith)
choice-at w (x ∷ []) p t us h a b c = absurd (omega arith)
choice-at w (x ∷ y ∷ zs) p t us h a b c =
    let e : suc (suc (length zs)) - 2 ≡ length zs = omega arith in
    let d : us ≡ map (seen w) zs = c ∙ ap (λ n. map (seen w) (take n zs)) e ∙ ap (map (seen w)) (take_all (length zs) zs (omega arith)) in
    rw (a, b, d) refl

pub returns-in-len2-up : goal.returns-in-len2-up
returns-in-len2-up c = c.chosen_type.ensures ∙ choice-at c.args.widen c.args.args.now _ _ _ c.in-len2-up.len_at_least c.seen.ensures c.seen-in-len2-up.ensures refl
