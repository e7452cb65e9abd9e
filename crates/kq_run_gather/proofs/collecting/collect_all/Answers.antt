use Rattle.std.proofs.Common.{◌≡◌, ◌++◌, ◌∙◌, List, ap, subst, sym}
use Rattle.std.specs.List.{All}
use Rattle.std.proofs.lemmas.List.Elements.{All-append}
use Rattle.kq_run_scan.specs.Flowing.{Flows}
use Rattle.kq_run_scan.specs.Sources.{source_rows}
use Rattle.kq_run_scan.specs.Yielded.{Yields}
use Rattle.kq_run_scan.specs.kq_eval_pieces.Operators.{Row}
use Rattle.kq_store_rows.specs.Chunks.{HasWidth}
use Rattle.kq_store_rows.proofs.Typed.{same_width-wide}
use Rattle.kq_run_row_operators.specs.Pieces.{rows_in}
use Rattle.kq_run_row_operators.specs.Ran.{came, joined}
use Rattle.kq_run_gather.proofs.Coming.{even}
use Rattle.kq_run_gather.proofs.Pieces.{piece_came}
use Rattle.kq_run_gather.proofs.collecting.collect_all.Goals as goal

pub into_rows-requires : goal.into_rows-requires
into_rows-requires c =
    let piece = rows_in source_rows c.in-Piece.piece in
    let more : Flows c.loop-rows.flow piece c.next.new.self = subst (Yields c.loop-rows.flow c.next.new.self) c.in-Piece.is c.in_ok-piece.ensures in
    same_width-wide c.loop-rows.flow.width piece more.wide

pub append-requires : goal.append-requires
append-requires c =
    let piece = rows_in source_rows c.in-Piece.piece in
    let made = c.in_ok-into_rows-in-Piece.field-0 in
    let w = c.args.flow.now.width in
    let more : Flows c.loop-rows.flow piece c.next.new.self = subst (Yields c.loop-rows.flow c.next.new.self) c.in-Piece.is c.in_ok-piece.ensures in
    let wide : All (HasWidth w) piece = rw c.loop-rows.invariant.width at more.wide in
    even w c.loop-rows.rows made c.loop-rows.invariant.kept.wide (subst (λ (rs : List Row). All (HasWidth w) rs) (sym c.in_ok-into_rows-in-Piece.ensures) wide)

pub loop-rows-preserved : goal.loop-rows-preserved
loop-rows-preserved c =
    let piece = rows_in source_rows c.in-Piece.piece in
    let w = c.args.flow.now.width in
    let more : Flows c.loop-rows.flow piece c.next.new.self = subst (Yields c.loop-rows.flow c.next.new.self) c.in-Piece.is c.in_ok-piece.ensures in
    let wide : All (HasWidth w) piece = rw c.loop-rows.invariant.width at more.wide in
    let both : c.append.new.self ≡ c.loop-rows.rows ++ piece = c.in_ok-append-in-Piece.ensures.ok ∙ ap (λ (rs : List Row). c.loop-rows.rows ++ rs) c.in_ok-into_rows-in-Piece.ensures in
    record {
      kept = record {
        so_far = subst (λ (rs : List Row). c.args.flow.now.to_come ≡ joined (came rs) c.next.new.self.to_come) (sym both)
            (piece_came c.args.flow.now.to_come c.loop-rows.flow c.next.new.self c.in_ok-piece.field-0 c.in-Piece.piece c.loop-rows.rows c.loop-rows.invariant.kept.so_far c.in_ok-piece.ensures c.in-Piece.is);
        wide = subst (λ (rs : List Row). All (HasWidth w) rs) (sym both) (All-append (HasWidth w) c.loop-rows.rows piece c.loop-rows.invariant.kept.wide wide);
      };
      width = more.width ∙ c.loop-rows.invariant.width;
    }
