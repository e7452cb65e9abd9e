use Rattle.std.proofs.Common.{List, sym, subst}
use Rattle.std.specs.Prelude.{flat_map}
use Rattle.std.specs.List.{All}
use Rattle.kq_run_gather.specs.kq_run_row_operators.Piece.{Piece}
use Rattle.kq_run_gather.specs.kq_run_row_operators.Pieces.{rows_in}
use Rattle.kq_run_scan.specs.Sources.{source_rows}
use Rattle.kq_run_scan.specs.declared.source.Source.{Source}
use Rattle.kq_store_rows.specs.Chunks.{HasWidth}
use Rattle.kq_run_plan.proofs.Parting.{Arrived, arrived_more}
use Rattle.kq_run_plan.proofs.sorted.sort_flow.Goals as goal

pub loop-pieces-preserved : goal.loop-pieces-preserved
loop-pieces-preserved c =
    subst (λ (ps : List (Piece Source)). Arrived c.args.flow.now c.next.new.self ps) (sym c.in_ok-push-in-Piece.ensures.items)
    (arrived_more c.args.flow.now c.loop-pieces.flow c.next.new.self c.in_ok-piece.field-0 c.loop-pieces.pieces.items c.in-Piece.piece c.loop-pieces.invariant c.in_ok-piece.ensures c.in-Piece.is)

pub sort_pieces-requires : goal.sort_pieces-requires
sort_pieces-requires c =
    let w = c.args.flow.now.width in (
      w,
      subst (λ (ps : List (Piece Source)). All (HasWidth w) (flat_map (rows_in source_rows) ps)) (sym c.deref.ensures.value) c.loop-pieces.invariant.wide,
    )
