use Rattle.std.proofs.Common.{◌≡◌, ◌<◌, ◌+◌, ◌^◌, ℕ, Vec, Global, length, map, arith}
use Rattle.std.proofs.lemmas.List.Elements.{All-weaker}
use Rattle.std.proofs.lemmas.Result.{IfOk-weaker}
use Rattle.kq_eval_pieces.specs.Pieces.{piece_of}
use Rattle.kq_store_rows.specs.Chunks.{row_at}
use Rattle.kq_run_row_operators.proofs.Places.{part_chosen, piece_within}
use Rattle.kq_run_row_operators.proofs.apply.chosen_between.Goals as goal

pub shifted-requires : goal.shifted-requires
shifted-requires g c =
    let rows = g.R.Relation.rows c.args.relation.now in
    let from = c.args.from in
    let to = c.args.to in
    All-weaker (λ (p : ℕ). p < length (piece_of rows from to)) (λ (p : ℕ). from + p < 2 ^ 63) (λ p h. let within = piece_within rows from to p h in omega (arith, within)) c.args.places.now c.requires

pub returns : goal.returns
returns g c =
    let rows = g.R.Relation.rows c.args.relation.now in
    let from = c.args.from in
    let to = c.args.to in
    let places = c.args.places.now in
    IfOk-weaker c.shifted.result (λ (ps : Vec ℕ Global). ps.items ≡ map (λ p. from + p) places) (λ (ps : Vec ℕ Global). map (row_at rows) ps.items ≡ map (row_at (piece_of rows from to)) places)
    (λ ps is. part_chosen rows from to places ps.items c.requires is) c.shifted.ensures
