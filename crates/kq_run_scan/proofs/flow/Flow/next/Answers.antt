use Rattle.std.proofs.Common.{◌≡◌, ℤ, IfOk, Option, map, ap, sym, subst, ◌∙◌, rules, w64, to_z, of_z}
use Rattle.std.proofs.lemmas.Int.{to_z-of_z}
use Rattle.kq_store_rows.proofs.Typed.{same_width-wide}
use Rattle.kq_run_row_operators.specs.kq_eval_row.Val.{surroundings}
use Rattle.kq_run_row_operators.specs.Operators.{rowwise_of}
use Rattle.kq_run_row_operators.specs.Pieces.{rows_in}
use Rattle.kq_run_row_operators.specs.declared.piece.Piece.{Piece}
use Rattle.kq_run_scan.specs.Flowing.{Flowing, flowing}
use Rattle.kq_run_scan.specs.Opened.{IsOpen, ReadsOpen}
use Rattle.kq_run_scan.specs.Ruled.{LeavesNothing}
use Rattle.kq_run_scan.specs.Sources.{source_rows}
use Rattle.kq_run_scan.specs.Yielded.{Yields}
use Rattle.kq_run_scan.specs.declared.source.Source.{Source}
use Rattle.kq_run_scan.proofs.flow.Flow.next.Goals as goal

pub next_of-requires : goal.next_of-requires
next_of-requires c =
    let part = rows_in source_rows c.in-Some.part in
    let os = map rowwise_of c.self.inside.operators.now in
    let again = surroundings (to_z w64 (of_z w64 c.self.inside.now)) c.self.inside.lets.now in
    let read : IsOpen os again c.self.inside.unread part c.next_open.new.unread = subst (λ (o : Option (Piece Source)). ReadsOpen os again c.self.inside.unread c.next_open.new.unread o) c.in-Some.is c.in_ok-part.ensures in
    same_width-wide c.self.inside.unread.width part read.wide

pub returns-in-Some : goal.returns-in-Some
returns-in-Some c =
    let same : to_z w64 (of_z w64 c.self.inside.now) ≡ c.self.inside.now = search (rules, to_z-of_z) in
    let old = c.self.inside.unread in
    let os = map rowwise_of c.self.inside.operators.now in
    let s = λ (z : ℤ). surroundings z c.self.inside.lets.now in
    let again = to_z w64 (of_z w64 c.self.inside.now) in
    let read = subst (λ (o : Option (Piece Source)). ReadsOpen os (s again) old c.next_open.new.unread o) c.in-Some.is c.in_ok-part.ensures in
    let yields = subst (λ (z : ℤ). IfOk c.next_of.result (Yields (flowing os (s z) old) (flowing os (s z) c.next_of.new.unread))) same (c.next_of.ensures old read) in
    subst (λ (f : Flowing). IfOk c.next_of.result (Yields f (flowing os (s c.self.inside.now) c.next_of.new.unread))) c.self.view_is yields

pub returns-in-None : goal.returns-in-None
returns-in-None c =
    let old = c.self.inside.unread in
    let os = map rowwise_of c.self.inside.operators.now in
    let same : to_z w64 (of_z w64 c.self.inside.now) ≡ c.self.inside.now = search (rules, to_z-of_z) in
    let s = λ (z : ℤ). surroundings z c.self.inside.lets.now in
    let again = to_z w64 (of_z w64 c.self.inside.now) in
    let nothing : LeavesNothing os (s again) old.rows = subst (λ (o : Option (Piece Source)). ReadsOpen os (s again) old c.next_open.new.unread o) c.in-None.is c.in_ok-part.ensures in
    ap (λ (f : Flowing). f.to_come) (sym c.self.view_is) ∙ subst (λ (z : ℤ). LeavesNothing os (s z) old.rows) same nothing
