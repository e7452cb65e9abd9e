use Rattle.std.proofs.Common.{◌-◌, [], drop, length, map, take, refl, sym, arith}
use Rattle.std.proofs.lemmas.List.{length-map}
use Rattle.std.proofs.lemmas.Result.{IfOk-weaker}
use Rattle.kq_plan_expressions.specs.Terms.{term_of}
use Rattle.kq_run_gather.specs.Bodies.{StandsFor}
use Rattle.kq_plan.specs.Plans.{aggregating_of, planned_of, stepping_of}
use Rattle.kq_view_fold.proofs.Folding.{columns_so, left_so, starts_so}
use Rattle.kq_view_fold.proofs.part.empty_part.Goals as goal

pub slice_bounds-typed-count : goal.slice_bounds-typed-count
slice_bounds-typed-count c =
    let keys = c.keys_in-width.result.now in
    let long =
    columns_so (planned_of c.args.body.now) (stepping_of c.last_step-last.result.now) c.last_step-last.ensures
    (map term_of keys) (map aggregating_of c.aggregates_in.result.now) c.as_slice.result.now c.keys_in-width.ensures c.aggregates_in.ensures c.as_slice.ensures.value
    c.requires (length keys) (sym (length-map keys term_of)) in
    omega (arith, long)

pub slice_bounds-typed-start : goal.slice_bounds-typed-start
slice_bounds-typed-start c =
    let keys = c.keys_in-width.result.now in
    let long =
    columns_so (planned_of c.args.body.now) (stepping_of c.last_step-last.result.now) c.last_step-last.ensures
    (map term_of keys) (map aggregating_of c.aggregates_in.result.now) c.as_slice.result.now c.keys_in-width.ensures c.aggregates_in.ensures c.as_slice.ensures.value
    c.requires (length keys) (sym (length-map keys term_of)) in
    omega (arith, long)

pub typed-requires : goal.typed-requires
typed-requires c =
    let keys = c.keys_in-width.result.now in
    let fs = c.as_slice.result.now in
    left_so (planned_of c.args.body.now) (stepping_of c.last_step-last.result.now) c.last_step-last.ensures
    (map term_of keys) (map aggregating_of c.aggregates_in.result.now) fs c.keys_in-width.ensures c.aggregates_in.ensures c.as_slice.ensures.value
    c.requires (length keys) (take (length fs - length keys) (drop (length keys) fs)) (sym (length-map keys term_of)) refl

pub returns : goal.returns
returns c =
    let p = planned_of c.args.body.now in
    let keys = c.keys_in-width.result.now in
    let fs = c.as_slice.result.now in
    IfOk-weaker c.empty.result _ (StandsFor p [])
    (λ g starts.
    starts_so p (stepping_of c.last_step-last.result.now) c.last_step-last.ensures
    (map term_of keys) (map aggregating_of c.aggregates_in.result.now) fs c.keys_in-width.ensures c.aggregates_in.ensures c.as_slice.ensures.value
    (length keys) (take (length fs - length keys) (drop (length keys) fs)) c.in_ok-aggregates.aggregates.items g (sym (length-map keys term_of)) refl c.in_ok-aggregates.ensures starts)
    c.empty.ensures
