use Rattle.std.proofs.Common.{◌≡◌, ◌<◌, ℕ, List, get_or, length, map, subst, sym, ap, ◌∙◌}
use Rattle.std.specs.List.{All}
use Rattle.kq_eval_pieces.specs.Operators.{Row}
use Rattle.kq_eval_pieces.specs.Pieces.{piece_of}
use Rattle.kq_store_rows.specs.Chunks.{row_at}
use Rattle.kq_run_row_operators.specs.Pieces.{rows_in}
use Rattle.kq_run_row_operators.proofs.Places.{chosen_again}
use Rattle.kq_run_row_operators.proofs.apply.select.Goals as goal

pub chosen_between-requires : goal.chosen_between-requires
chosen_between-requires g c =
    let rows = g.R.Relation.rows c.in-Part.relation in
    let places = c.args.places.now in
    let same : rows_in g.R.Relation.rows c.args.piece ≡ piece_of rows c.in-Part.from c.in-Part.to = ap (rows_in g.R.Relation.rows) c.in-Part.is in
    subst (λ (rs : List Row). All (λ (p : ℕ). p < length rs) places) same c.requires

pub returns-in_ok-chosen-in-Part : goal.returns-in_ok-chosen-in-Part
returns-in_ok-chosen-in-Part g c =
    let rows = g.R.Relation.rows c.in-Part.relation in
    let same : rows_in g.R.Relation.rows c.args.piece ≡ piece_of rows c.in-Part.from c.in-Part.to = ap (rows_in g.R.Relation.rows) c.in-Part.is in
    c.in_ok-chosen-in-Part.ensures ∙ ap (λ (rs : List Row). map (row_at rs) c.args.places.now) (sym same)

pub returns-in_ok-chosen-in-Chosen : goal.returns-in_ok-chosen-in-Chosen
returns-in_ok-chosen-in-Chosen g c =
    let rows = g.R.Relation.rows c.in-Chosen.relation in
    let before = c.in-Chosen.before.items in
    let places = c.args.places.now in
    let same : rows_in g.R.Relation.rows c.args.piece ≡ map (row_at rows) before = ap (rows_in g.R.Relation.rows) c.in-Chosen.is in
    let known = subst (λ (rs : List Row). All (λ (p : ℕ). p < length rs) places) same c.requires in
    let is = c.in_ok-chosen-in-Chosen.ensures ∙ ap (λ (bs : List ℕ). map (λ (n : ℕ). get_or bs n 0) places) c.deref.ensures.value in
    chosen_again rows before places c.in_ok-chosen-in-Chosen.chosen.items known is ∙ ap (λ (rs : List Row). map (row_at rs) places) (sym same)
