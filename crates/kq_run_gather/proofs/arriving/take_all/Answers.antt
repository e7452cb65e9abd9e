use Rattle.std.proofs.Common.{◌≡◌, ◌∙◌, ℤ, List, Ok, drop, length, map, refl, rules, subst, w64, to_z, of_z}
use Rattle.std.proofs.lemmas.Int.{to_z-of_z}
use Rattle.std.proofs.lemmas.List.{length-map}
use Rattle.kq_plan_expressions.specs.Terms.{term_of}
use Rattle.kq_plan.specs.Fits.{ty_of}
use Rattle.kq_plan.specs.Plans.{aggregating_of}
use Rattle.kq_run_scan.specs.kq_eval_row.Val.{surroundings}
use Rattle.kq_value.specs.declared.schema.Field.{Field}
use Rattle.kq_value.specs.declared.ty.Ty.{Ty}
use Rattle.kq_run_gather.specs.declared.arriving.Arrived.TheVariants as arrived
use Rattle.kq_run_gather.specs.Arriving.{ArriveAs}
use Rattle.kq_run_gather.specs.Grouping.{under}
use Rattle.kq_run_gather.proofs.Regrouped.{reached_along, reached_end, reached_failure, reached_first, reached_lost, reached_more}
use Rattle.kq_run_gather.proofs.arriving.take_all.Goals as goal

pub loop-piece-init : goal.loop-piece-init
loop-piece-init c cs begins =
    let es = map term_of c.args.keys.now in
    let gs = map aggregating_of c.args.aggregates.now in
    let ts = map ty_of (drop (length es) cs) in
    reached_first es gs ts (surroundings (to_z w64 (of_z w64 c.args.now)) c.args.lets.now) c.args.flow.now.to_come c.args.groups.now (length es) (under gs ts) refl refl begins

pub take_piece-requires-clause-whole : goal.take_piece-requires-clause-whole
take_piece-requires-clause-whole c = (c.loop-piece.invariant c.requires.0 c.requires.1).groups.whole

pub take_piece-requires-clause-width : goal.take_piece-requires-clause-width
take_piece-requires-clause-width c = (c.loop-piece.invariant c.requires.0 c.requires.1).groups.width_is ∙ length-map c.args.keys.now term_of

pub take_piece-requires-clause-each : goal.take_piece-requires-clause-each
take_piece-requires-clause-each c =
    reached_along _ (map aggregating_of c.args.aggregates.now) _ _ _ _ c.loop-piece.groups (c.loop-piece.invariant c.requires.0 c.requires.1) ∙ length-map c.args.aggregates.now aggregating_of

pub loop-piece-preserved : goal.loop-piece-preserved
loop-piece-preserved c cs begins =
    let es = map term_of c.args.keys.now in
    let ts : List Ty = map ty_of (drop (length es) cs) in
    reached_more es (map aggregating_of c.args.aggregates.now) ts (surroundings (to_z w64 (of_z w64 c.args.now)) c.args.lets.now)
    c.args.flow.now.to_come c.loop-piece.flow c.next.new.self c.in_ok-piece.field-0 c.in-Piece.piece c.loop-piece.groups c.take_piece.new.groups c.in-Ok.field-0 (c.loop-piece.invariant cs begins) c.in_ok-piece.ensures c.in-Piece.is c.in-Ok.ensures

pub returns-in-Err-Overflow : goal.returns-in-Err-Overflow
returns-in-Err-Overflow c cs begins =
    let same : to_z w64 (of_z w64 c.args.now) ≡ c.args.now = search (rules, to_z-of_z) in
    let es = map term_of c.args.keys.now in
    let gs = map aggregating_of c.args.aggregates.now in
    let lets = c.args.lets.now in
    let whole = c.args.flow.now.to_come in
    let other = c.in_ok-overflow-in-Err-Overflow.field-0 in
    subst (λ (z : ℤ). ArriveAs es gs cs (surroundings z lets) whole other) same
    (reached_lost es gs (map ty_of (drop (length es) cs)) cs (surroundings (to_z w64 (of_z w64 c.args.now)) lets) whole c.loop-piece.flow c.next.new.self c.in_ok-piece.field-0 c.in-Piece.piece c.loop-piece.groups c.take_piece.new.groups c.in-Err-Overflow.field-0 (Ok other)
    (c.loop-piece.invariant cs begins) c.in_ok-piece.ensures c.in-Piece.is c.in-Err-Overflow.ensures c.in-Err-Overflow.field-0-is c.in_ok-overflow-in-Err-Overflow.ensures)

pub returns-in-End : goal.returns-in-End
returns-in-End c cs begins =
    let same : to_z w64 (of_z w64 c.args.now) ≡ c.args.now = search (rules, to_z-of_z) in
    let es = map term_of c.args.keys.now in
    let gs = map aggregating_of c.args.aggregates.now in
    let lets = c.args.lets.now in
    let whole = c.args.flow.now.to_come in
    subst (λ (z : ℤ). ArriveAs es gs cs (surroundings z lets) whole (arrived.Groups c.loop-piece.groups)) same
    (reached_end es gs cs (surroundings (to_z w64 (of_z w64 c.args.now)) lets) whole c.loop-piece.flow c.next.new.self c.in_ok-piece.field-0 c.loop-piece.groups (length es) refl (c.loop-piece.invariant cs begins) c.in_ok-piece.ensures c.in-End.is)

pub returns-in-Failed : goal.returns-in-Failed
returns-in-Failed c cs begins =
    let same : to_z w64 (of_z w64 c.args.now) ≡ c.args.now = search (rules, to_z-of_z) in
    let es = map term_of c.args.keys.now in
    let gs = map aggregating_of c.args.aggregates.now in
    let lets = c.args.lets.now in
    let whole = c.args.flow.now.to_come in
    subst (λ (z : ℤ). ArriveAs es gs cs (surroundings z lets) whole (arrived.Failed c.in-Failed.n)) same
    (reached_failure es gs (map ty_of (drop (length es) cs)) cs (surroundings (to_z w64 (of_z w64 c.args.now)) lets) whole c.loop-piece.flow c.next.new.self c.in_ok-piece.field-0 c.loop-piece.groups c.in-Failed.n (c.loop-piece.invariant cs begins) c.in_ok-piece.ensures c.in-Failed.is)
