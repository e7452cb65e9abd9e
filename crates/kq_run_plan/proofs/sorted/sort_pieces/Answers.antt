use Rattle.std.proofs.Common.{◌≡◌, ◌∷◌, [], ◌++◌, ℤ, List, Err, Ok, length, rules, sym, subst, take, w64, to_z, of_z}
use Rattle.std.specs.Prelude.{IfOk, IfSome, Some, flat_map}
use Rattle.std.specs.List.{All}
use Rattle.std.proofs.lemmas.Int.{to_z-of_z}
use Rattle.std.proofs.lemmas.List.{take_all}
use Rattle.kq_run_gather.specs.kq_eval_row.Val.{surroundings}
use Rattle.kq_run_sort.proofs.Spots.{flat_map-more}
use Rattle.kq_run_sort.specs.Parts.{PickedParts}
use Rattle.kq_run_sort.specs.declared.parts.Part.{Part}
use Rattle.kq_plan.specs.Plans.{sorting_of}
use Rattle.kq_store_rows.specs.Chunks.{HasWidth}
use Rattle.kq_run_plan.specs.Outcomes.{Row}
use Rattle.kq_run_plan.specs.Sorting.{IsPartOf, SortsIf}
use Rattle.kq_run_plan.proofs.Parting.{Parted, all_of_one, parted_if, parted_lost, parted_more}
use Rattle.kq_run_plan.proofs.sorted.sort_pieces.Goals as goal

pub part_of-requires : goal.part_of-requires
part_of-requires g c = (c.requires.0, all_of_one (HasWidth c.requires.0) g.R.Relation.rows c.args.pieces.now c.loop-piece.piece-index c.piece-item.result c.loop-piece-test.true c.piece-item.is c.requires.1)

pub returns-in-Err : goal.returns-in-Err
returns-in-Err g c =
    let same : to_z w64 (of_z w64 c.args.now) ≡ c.args.now = search (rules, to_z-of_z) in
    let k = sorting_of c.args.key.now in
    let rows_of = g.R.Relation.rows in
    let met = c.in-Err.fault in
    subst (λ (z : ℤ). SortsIf (k ∷ []) (surroundings z c.args.lets.now) (flat_map rows_of c.args.pieces.now) (Err met)) same
    (parted_lost k (surroundings (to_z w64 (of_z w64 c.args.now)) c.args.lets.now) rows_of c.args.pieces.now c.loop-piece.piece-index c.piece-item.result met c.loop-piece-test.true c.piece-item.is c.in-Err.ensures.part)

pub loop-piece-preserved : goal.loop-piece-preserved
loop-piece-preserved g c =
    let k = sorting_of c.args.key.now in
    let s = surroundings (to_z w64 (of_z w64 c.args.now)) c.args.lets.now in
    let rows_of = g.R.Relation.rows in
    let pieces = c.args.pieces.now in
    let i = c.loop-piece.piece-index in
    let piece = c.piece-item.result in
    let w = c.in_ok-width.width in
    let before = flat_map rows_of (take i pieces) in
    let is : c.part_of.result ≡ Ok (Some c.in-Ok-Some.part) = search (rules, c.in-Ok-Some.is, c.in-Ok-Some.field-0-is, c.in-Ok-Some.part-is) in
    let part = subst (IsPartOf k s (rows_of piece)) is c.part_of.ensures.part in
    let wide = subst (λ r. IfOk r (λ o. IfSome o (λ (p : Part). length p.columns.items ≡ w))) is c.part_of.ensures.wide in
    let more = parted_more k s w before (rows_of piece) c.loop-piece.parts.items c.in-Ok-Some.part c.loop-piece.invariant part wide in
    subst (λ (rs : List Row). Parted k s w rs c.push.new.self.items) (sym (flat_map-more rows_of i pieces piece c.loop-piece-test.true c.piece-item.is))
    (subst (λ (ps : List Part). Parted k s w (before ++ rows_of piece) ps) (sym c.in_ok-push-in-Ok-Some.ensures.items) more)

pub sort_parts-requires : goal.sort_parts-requires
sort_parts-requires g c =
    let w = c.in_ok-width.width in (
      w,
      subst (λ (ps : List Part). All (λ (p : Part). length p.columns.items ≡ w) ps) (sym c.deref.ensures.value) c.loop-piece.invariant.wide,
    )

pub returns : goal.returns
returns g c =
    let same : to_z w64 (of_z w64 c.args.now) ≡ c.args.now = search (rules, to_z-of_z) in
    let k = sorting_of c.args.key.now in
    let rows_of = g.R.Relation.rows in
    let pieces = c.args.pieces.now in
    let i = c.loop-piece.piece-index in
    let made = c.in_ok-sort_parts.field-0 in
    let s = surroundings (to_z w64 (of_z w64 c.args.now)) c.args.lets.now in
    let picked = subst (λ (ps : List Part). IfSome made (PickedParts k ps)) c.deref.ensures.value c.in_ok-sort_parts.ensures in
    let sorted = parted_if k s c.in_ok-width.width (flat_map rows_of (take i pieces)) c.loop-piece.parts.items made c.loop-piece.invariant picked in
    subst (λ (z : ℤ). SortsIf (k ∷ []) (surroundings z c.args.lets.now) (flat_map rows_of pieces) (Ok made)) same
    (subst (λ ps. SortsIf (k ∷ []) s (flat_map rows_of ps) (Ok made)) (take_all i pieces c.loop-piece-test.false) sorted)
