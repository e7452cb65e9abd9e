use Rattle.std.proofs.Common.{◌<◌, ℕ, length, get_or, false, [], ◌∷◌, ◌++◌, arith, add-one}
use Rattle.std.specs.Prelude.{slice_get}
use Rattle.std.proofs.lemmas.List.{map-append}
use Rattle.kq_eval_columns.proofs.Rows.{map_next, some_there}
use Rattle.kq_eval_columns.proofs.comparisons.truths_by_code.Goals as goal

pub loop-code-preserved : goal.loop-code-preserved
loop-code-preserved c =
    let truths = c.args.truths.now in
    let codes = c.args.codes.now in
    let i = c.loop-code.code-index in
    let h : i < length codes = omega arith in
    let code : ℕ = get_or codes i 0 in
    let k : code < length truths = omega arith in
    let p = some_there truths code false k in
    rw (c.in_ok-push.ensures.items, add-one, map-append, map_next (slice_get truths) codes i 0 h) (λ j. c.loop-code.invariant j ++ p j ∷ [])
