use Rattle.std.proofs.Common.{◌≡◌, ℤ, Option, map, subst, rules, w64, to_z, of_z}
use Rattle.std.proofs.lemmas.Int.{to_z-of_z}
use Rattle.kq_run_row_operators.specs.kq_eval_row.Val.{surroundings}
use Rattle.kq_run_row_operators.specs.Operators.{rowwise_of}
use Rattle.kq_run_row_operators.specs.Pieces.{rows_in}
use Rattle.kq_run_row_operators.specs.declared.piece.Piece.{Piece}
use Rattle.kq_run_scan.specs.Opened.{IsOpen}
use Rattle.kq_run_scan.specs.ReadParts.{ReadsPart}
use Rattle.kq_run_scan.specs.Ruled.{LeavesNothing}
use Rattle.kq_run_scan.specs.Sources.{source_rows}
use Rattle.kq_run_scan.specs.Unread.{IsRead}
use Rattle.kq_run_scan.specs.declared.source.Source.{Source}
use Rattle.kq_run_scan.proofs.Flown.{opened, passed_all, passed_first, passed_more}
use Rattle.kq_run_scan.proofs.Settling.{ruled_out}
use Rattle.kq_run_scan.proofs.flow.next_open.Goals as goal

pub loop-part-init : goal.loop-part-init
loop-part-init c = passed_first (map rowwise_of c.args.operators.now) (surroundings (to_z w64 (of_z w64 c.args.now)) c.args.lets.now) c.args.unread.now

pub loop-part-preserved-else-not-is_ruled_out : goal.loop-part-preserved-else-not-is_ruled_out
loop-part-preserved-else-not-is_ruled_out c =
    let os = map rowwise_of c.args.operators.now in
    let s = surroundings (to_z w64 (of_z w64 c.args.now)) c.args.lets.now in
    let part = rows_in source_rows c.in-Some.part in
    let read : IsRead c.loop-part.unread part c.next_part.new.self = subst (λ (o : Option (Piece Source)). ReadsPart c.loop-part.unread c.next_part.new.self o) c.in-Some.is c.next_part.ensures in
    passed_more os s c.args.unread.now c.loop-part.unread c.next_part.new.self part c.loop-part.invariant read
    (ruled_out os s c.in_ok-settled.settled part c.in_ok-settled.ensures (c.is_ruled_out.ensures c.if-not-is_ruled_out.false))

pub loop-part-preserved-else-not-is_ruled_out-2 : goal.loop-part-preserved-else-not-is_ruled_out-2
loop-part-preserved-else-not-is_ruled_out-2 c =
    let os = map rowwise_of c.args.operators.now in
    let s = surroundings (to_z w64 (of_z w64 c.args.now)) c.args.lets.now in
    let part = rows_in source_rows c.in-Some.part in
    let read : IsRead c.loop-part.unread part c.next_part.new.self = subst (λ (o : Option (Piece Source)). ReadsPart c.loop-part.unread c.next_part.new.self o) c.in-Some.is c.next_part.ensures in
    passed_more os s c.args.unread.now c.loop-part.unread c.next_part.new.self part c.loop-part.invariant read
    (ruled_out os s c.in_ok-settled.settled part c.in_ok-settled.ensures (c.is_ruled_out.ensures c.if-not-is_ruled_out.false))

pub loop-part-preserved : goal.loop-part-preserved
loop-part-preserved c =
    let os = map rowwise_of c.args.operators.now in
    let s = surroundings (to_z w64 (of_z w64 c.args.now)) c.args.lets.now in
    let part = rows_in source_rows c.in-Some.part in
    let read : IsRead c.loop-part.unread part c.next_part.new.self = subst (λ (o : Option (Piece Source)). ReadsPart c.loop-part.unread c.next_part.new.self o) c.in-Some.is c.next_part.ensures in
    passed_more os s c.args.unread.now c.loop-part.unread c.next_part.new.self part c.loop-part.invariant read
    (ruled_out os s c.in_ok-settled.settled part c.in_ok-settled.ensures (c.is_ruled_out.ensures c.if-not-is_ruled_out.false))

pub returns-then-not-is_ruled_out : goal.returns-then-not-is_ruled_out
returns-then-not-is_ruled_out c =
    let same : to_z w64 (of_z w64 c.args.now) ≡ c.args.now = search (rules, to_z-of_z) in
    let os = map rowwise_of c.args.operators.now in
    let s = λ (z : ℤ). surroundings z c.args.lets.now in
    let part = rows_in source_rows c.in-Some.part in
    let read : IsRead c.loop-part.unread part c.next_part.new.self = subst (λ (o : Option (Piece Source)). ReadsPart c.loop-part.unread c.next_part.new.self o) c.in-Some.is c.next_part.ensures in
    subst (λ (z : ℤ). IsOpen os (s z) c.args.unread.now part c.next_part.new.self) same
    (opened os (s (to_z w64 (of_z w64 c.args.now))) c.args.unread.now c.loop-part.unread c.next_part.new.self part c.loop-part.invariant read)

pub returns : goal.returns
returns c =
    let same : to_z w64 (of_z w64 c.args.now) ≡ c.args.now = search (rules, to_z-of_z) in
    let os = map rowwise_of c.args.operators.now in
    let s = λ (z : ℤ). surroundings z c.args.lets.now in
    let none = subst (λ (o : Option (Piece Source)). ReadsPart c.loop-part.unread c.next_part.new.self o) c.in_default.is c.next_part.ensures in
    subst (λ (z : ℤ). LeavesNothing os (s z) c.args.unread.now.rows) same
    (passed_all os (s (to_z w64 (of_z w64 c.args.now))) c.args.unread.now c.loop-part.unread c.loop-part.invariant none)
