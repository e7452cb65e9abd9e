use Rattle.std.proofs.Common.{◌≡◌, ◌<◌, ◌∷◌, [], ◌++◌, length, get_or, sym, ◌∙◌, arith, add-one}
use Rattle.std.proofs.lemmas.List.{length-set}
use Rattle.kq_store_rows.specs.Chunks.{row_at}
use Rattle.kq_eval_pieces.proofs.Mapped.{cell_put, still_there, give_same}
use Rattle.kq_eval_pieces.proofs.map.fill_row.Goals as goal

pub loop-n-preserved : goal.loop-n-preserved
loop-n-preserved g c =
    let old = c.args.sources.now.items in
    let now = c.loop-n.sources.items in
    let n = c.loop-n.n in
    let x = c.index_mut.result.now in
    let y = c.take_cell.new.source in
    let i = c.args.i in
    let before = c.loop-n.invariant in
    let short : n < length now = omega arith in
    let is : x ≡ get_or now n x = c.index_mut.ensures.value in
    let put = cell_put old now n i x (row_at (g.R.Relation.rows c.args.relation.now) c.args.at) before.3 before.1 short is in (
      rw (c.in_ok-push.ensures.items, add-one) ((λ t. before.0 t ++ c.in_ok-take_cell.ensures.cell t ∷ []) ∙ sym put),
      rw add-one (still_there old now n y before.1),
      give_same old now n i x y short is before.2 c.in_ok-take_cell.ensures.behind,
      rw length-set before.3,
    )
