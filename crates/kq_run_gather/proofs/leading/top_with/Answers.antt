use Rattle.std.proofs.Common.{◌≡◌, [], ℤ, IfOk, rules, subst, sym, w64, to_z, of_z}
use Rattle.std.proofs.lemmas.Int.{to_z-of_z}
use Rattle.kq_run_scan.specs.kq_eval_row.Val.{surroundings}
use Rattle.kq_run_sort.specs.Leading.{Lead}
use Rattle.kq_plan.specs.Plans.{sorting_of}
use Rattle.kq_run_gather.specs.Leading.{LeadsTo}
use Rattle.kq_run_gather.specs.declared.leading.Leading.TheVariants as leading
use Rattle.kq_run_gather.proofs.Led.{first_came, piece_wide, reached_end, reached_failure, reached_first, reached_lost, reached_more}
use Rattle.kq_run_gather.proofs.leading.top_with.Goals as goal

pub loop-piece-init : goal.loop-piece-init
loop-piece-init c =
    let same : to_z w64 (of_z w64 c.args.now) ≡ c.args.now = search (rules, to_z-of_z) in
    let k = sorting_of c.args.key.now in
    let lets = c.args.lets.now in
    let lead = subst (λ (z : ℤ). Lead c.args.count k (surroundings z lets) [] c.args.leaders.now) (sym same) c.requires.lead in
    reached_first c.args.count k (surroundings (to_z w64 (of_z w64 c.args.now)) lets) c.args.flow.now c.args.leaders.now lead c.requires.none

pub take_in-requires : goal.take_in-requires
take_in-requires c =
    let k = sorting_of c.args.key.now in
    let s = surroundings (to_z w64 (of_z w64 c.args.now)) c.args.lets.now in
    let inv = c.loop-piece.invariant in (
      c.args.flow.now.width,
      inv.wide,
      piece_wide c.args.count k s c.args.flow.now c.loop-piece.flow c.next.new.self c.loop-piece.leaders c.in_ok-piece.field-0 c.in-Piece.piece inv c.in_ok-piece.ensures c.in-Piece.is,
    )

pub returns-in-Err-Overflow : goal.returns-in-Err-Overflow
returns-in-Err-Overflow c =
    let same : to_z w64 (of_z w64 c.args.now) ≡ c.args.now = search (rules, to_z-of_z) in
    let k = sorting_of c.args.key.now in
    let lets = c.args.lets.now in
    let s = surroundings (to_z w64 (of_z w64 c.args.now)) lets in
    let flow = c.args.flow.now in
    subst (λ (z : ℤ). IfOk c.overflow.result (LeadsTo flow.width c.args.count k (surroundings z lets) flow.to_come)) same
    (reached_lost c.args.count k s flow c.loop-piece.flow c.next.new.self c.loop-piece.leaders c.take_in.new.leaders c.in_ok-piece.field-0 c.in-Piece.piece c.in-Err-Overflow.field-0 c.overflow.result
    c.loop-piece.invariant c.in_ok-piece.ensures c.in-Piece.is c.in-Err-Overflow.ensures.takes c.in-Err-Overflow.field-0-is c.overflow.ensures)

pub loop-piece-preserved : goal.loop-piece-preserved
loop-piece-preserved c =
    let k = sorting_of c.args.key.now in
    let s = surroundings (to_z w64 (of_z w64 c.args.now)) c.args.lets.now in
    let inv = c.loop-piece.invariant in
    let w = c.args.flow.now.width in
    let piece = piece_wide c.args.count k s c.args.flow.now c.loop-piece.flow c.next.new.self c.loop-piece.leaders c.in_ok-piece.field-0 c.in-Piece.piece inv c.in_ok-piece.ensures c.in-Piece.is in
    reached_more c.args.count k s c.args.flow.now c.loop-piece.flow c.next.new.self c.loop-piece.leaders c.take_in.new.leaders c.in_ok-piece.field-0 c.in-Piece.piece c.in-Ok.field-0 inv c.in_ok-piece.ensures c.in-Piece.is
    c.in-Ok.ensures.takes (c.in-Ok.ensures.wide w inv.wide piece)

pub returns-in-End : goal.returns-in-End
returns-in-End c =
    let same : to_z w64 (of_z w64 c.args.now) ≡ c.args.now = search (rules, to_z-of_z) in
    let k = sorting_of c.args.key.now in
    let lets = c.args.lets.now in
    let s = surroundings (to_z w64 (of_z w64 c.args.now)) lets in
    let flow = c.args.flow.now in
    let inv = c.loop-piece.invariant in
    let told = first_came c.args.count k s flow.width inv.all c.told.result inv.came_wide (c.told.ensures c.args.count k s inv.all (c.first.ensures inv.all inv.lead)) in
    subst (λ (z : ℤ). IfOk c.told.result (LeadsTo flow.width c.args.count k (surroundings z lets) flow.to_come)) same
    (reached_end c.args.count k s flow c.loop-piece.flow c.next.new.self c.loop-piece.leaders c.in_ok-piece.field-0 c.told.result inv c.in_ok-piece.ensures c.in-End.is told)

pub returns-in-Failed : goal.returns-in-Failed
returns-in-Failed c =
    let same : to_z w64 (of_z w64 c.args.now) ≡ c.args.now = search (rules, to_z-of_z) in
    let k = sorting_of c.args.key.now in
    let lets = c.args.lets.now in
    let s = surroundings (to_z w64 (of_z w64 c.args.now)) lets in
    let flow = c.args.flow.now in
    subst (λ (z : ℤ). LeadsTo flow.width c.args.count k (surroundings z lets) flow.to_come (leading.Failed c.in-Failed.n)) same
    (reached_failure c.args.count k s flow c.loop-piece.flow c.next.new.self c.loop-piece.leaders c.in_ok-piece.field-0 c.in-Failed.n c.loop-piece.invariant c.in_ok-piece.ensures c.in-Failed.is)
