use Rattle.std.proofs.Common.{◌≡◌, ℤ, [], Option, map, ap, subst, ◌∙◌, rules, arith, w64, to_z, of_z}
use Rattle.std.proofs.lemmas.Int.{to_z-of_z}
use Rattle.kq_store_rows.proofs.Typed.{same_width-wide}
use Rattle.kq_run_row_operators.specs.kq_eval_row.Val.{surroundings}
use Rattle.kq_run_row_operators.specs.Operators.{rowwise_of}
use Rattle.kq_run_row_operators.specs.Pieces.{rows_in}
use Rattle.kq_run_row_operators.specs.Ran.{Ran, failed, joined, ran}
use Rattle.kq_run_row_operators.specs.declared.piece.Piece.{Piece}
use Rattle.kq_run_scan.specs.ReadParts.{ReadsPart}
use Rattle.kq_run_scan.specs.Sources.{source_rows}
use Rattle.kq_run_scan.specs.Unread.{IsRead}
use Rattle.kq_run_scan.specs.declared.source.Source.{Source}
use Rattle.kq_run_scan.proofs.Flown.{least_next, none_left}
use Rattle.kq_run_scan.proofs.flow.least_of_rest.Goals as goal

pub least_of_part-requires-clause-wide : goal.least_of_part-requires-clause-wide
least_of_part-requires-clause-wide c =
    let part = rows_in source_rows c.in-Some.part in
    let read : IsRead c.loop-least.unread part c.next_part.new.self = subst (λ (o : Option (Piece Source)). ReadsPart c.loop-least.unread c.next_part.new.self o) c.in-Some.is c.next_part.ensures in
    same_width-wide c.loop-least.unread.width part read.wide

pub loop-least-preserved : goal.loop-least-preserved
loop-least-preserved c =
    let part = rows_in source_rows c.in-Some.part in
    let read : IsRead c.loop-least.unread part c.next_part.new.self = subst (λ (o : Option (Piece Source)). ReadsPart c.loop-least.unread c.next_part.new.self o) c.in-Some.is c.next_part.ensures in
    let os = map rowwise_of c.args.operators.now in
    let s = surroundings (to_z w64 (of_z w64 c.args.now)) c.args.lets.now in
    let least = c.in_ok-least-in-Some.least in (
      omega (arith, c.in_ok-least-in-Some.ensures.less, c.loop-least.invariant.0),
      c.loop-least.invariant.1 ∙ least_next os s c.loop-least.unread c.next_part.new.self part c.loop-least.least least read c.in_ok-least-in-Some.ensures.least,
    )

pub returns-in-None : goal.returns-in-None
returns-in-None c =
    let same : to_z w64 (of_z w64 c.args.now) ≡ c.args.now = search (rules, to_z-of_z) in
    let none : c.loop-least.unread.rows ≡ [] = subst (λ (o : Option (Piece Source)). ReadsPart c.loop-least.unread c.next_part.new.self o) c.in-None.is c.next_part.ensures in
    let os = map rowwise_of c.args.operators.now in
    let s = λ (z : ℤ). surroundings z c.args.lets.now in
    let again = to_z w64 (of_z w64 c.args.now) in
    subst (λ (z : ℤ). joined (failed c.args.first) (ran os (s z) c.args.unread.now.rows) ≡ failed c.loop-least.least) same
    (c.loop-least.invariant.1 ∙ ap (λ (r : Ran). joined (failed c.loop-least.least) r) (none_left os (s again) c.loop-least.unread.rows none))
