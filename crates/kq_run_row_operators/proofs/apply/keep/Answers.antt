use Rattle.std.proofs.Common.{◌≡◌, ◌<◌, ℕ, ℤ, List, Err, length, rules, subst, sym, ◌∙◌, ap, map, w64, to_z, of_z, Vec, Global}
use Rattle.std.proofs.lemmas.Int.{to_z-of_z}
use Rattle.std.specs.List.{All}
use Rattle.kq_value.specs.Computed.{AnswersAs, Is}
use Rattle.kq_plan_expressions.specs.Terms.{term_of}
use Rattle.kq_eval_pieces.specs.Operators.{filtered}
use Rattle.kq_eval_pieces.specs.Pieces.{places_where}
use Rattle.kq_eval_pieces.proofs.Kept.{places_in, kept_rows, kept_fault}
use Rattle.kq_store_rows.specs.Chunks.{row_at}
use Rattle.kq_eval_pieces.specs.kq_eval_row.Val.{meaning, surroundings}
use Rattle.kq_run_row_operators.specs.Pieces.{rows_in}
use Rattle.kq_run_row_operators.proofs.Faults.{fault_seen}
use Rattle.kq_run_row_operators.proofs.apply.keep.Goals as goal

pub select-requires : goal.select-requires
select-requires g c =
    let rows = rows_in g.R.Relation.rows c.args.piece in
    let f = meaning (term_of c.args.condition.now) (surroundings (to_z w64 (of_z w64 c.args.now)) c.args.lets.now) in
    subst (λ (ps : List ℕ). All (λ (p : ℕ). p < length rows) ps) (sym c.as_slice.ensures.value) (places_in f rows c.in-Ok.places.items c.in-Ok.ensures)

pub returns-in_ok-select-in-Ok : goal.returns-in_ok-select-in-Ok
returns-in_ok-select-in-Ok g c =
    let same : to_z w64 (of_z w64 c.args.now) ≡ c.args.now = search (rules, to_z-of_z) in
    let rows = rows_in g.R.Relation.rows c.args.piece in
    let e = term_of c.args.condition.now in
    let picked = c.in_ok-select-in-Ok.ensures ∙ ap (map (row_at rows)) c.as_slice.ensures.value in
    let found = subst (λ (z : ℤ). places_where (meaning e (surroundings z c.args.lets.now)) rows ≡ Is c.in-Ok.places.items) same c.in-Ok.ensures in
    kept_rows e (surroundings c.args.now c.args.lets.now) rows c.in-Ok.places.items found ∙ ap Is (sym picked)

pub returns-in-Err : goal.returns-in-Err
returns-in-Err g c =
    let same : to_z w64 (of_z w64 c.args.now) ≡ c.args.now = search (rules, to_z-of_z) in
    let rows = rows_in g.R.Relation.rows c.args.piece in
    let e = term_of c.args.condition.now in
    let s = surroundings c.args.now c.args.lets.now in
    let see = λ (v : Vec ℕ Global). v.items in
    let fault = c.in-Err.fault in
    let failed = subst (λ (z : ℤ). AnswersAs see (places_where (meaning e (surroundings z c.args.lets.now)) rows) (Err fault)) same c.in-Err.ensures in
    fault_seen (rows_in g.R.Relation.rows) (filtered e s rows) fault (kept_fault e s rows see fault failed)
