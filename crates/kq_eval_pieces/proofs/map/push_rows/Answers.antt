use Rattle.std.proofs.Common.{◌≡◌, ◌≤◌, ◌<◌, ◌-◌, ◌∷◌, [], ◌++◌, ℕ, length, ap, sym, ◌∙◌, subst, arith, add-one, append_assoc}
use Rattle.std.specs.List.{All}
use Rattle.kq_value.specs.declared.value.Value.{Value}
use Rattle.kq_store_rows.specs.Chunks.{HasWidth, row_at}
use Rattle.kq_eval_pieces.specs.Pieces.{piece_of}
use Rattle.kq_eval_pieces.specs.Sources.{row_from, rows_from}
use Rattle.kq_eval_pieces.proofs.Mapped.{rows_next}
use Rattle.kq_eval_pieces.proofs.map.push_rows.Goals as goal

pub loop-i-preserved : goal.loop-i-preserved
loop-i-preserved g c =
    let xs = c.args.sources.items in
    let rows = g.R.Relation.rows c.args.relation.now in
    let from = c.args.from in
    let i = c.loop-i.i in
    let before = c.loop-i.invariant in
    let low : from ≤ i = omega arith in
    let high : i < length rows = omega arith in
    let wide : c.len-width.result ≡ length xs = omega (arith, c.len-width.ensures) in
    let row : c.fill_row.new.row.items ≡ row_from xs (i - from) (row_at rows i) =
    c.in_ok-fill_row.ensures.row ∙ before.3 (i - from) (row_at rows i) (omega arith) in
    let old = c.args.mapped.now in (
      c.in_ok-push_row.ensures.left,
      rw add-one
          (c.in_ok-push_row.ensures.ok ∙ (λ t. before.1 t ++ row t ∷ []) ∙ append_assoc old (rows_from xs 0 (piece_of rows from i)) (row_from xs (i - from) (row_at rows i) ∷ []) ∙ ap (λ rs. old ++ rs) (sym (rows_next xs rows from i low high))),
      subst (λ (w : ℕ). All (HasWidth {T = Value} w) c.push_row.new.mapped) wide c.in_ok-push_row.ensures.wide,
      λ k r behind. c.in_ok-fill_row.ensures.behind k r (omega arith) ∙ before.3 k r (omega arith),
      c.fill_row.ensures.wide ∙ before.4,
    )
