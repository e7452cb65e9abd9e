use Rattle.std.proofs.Common.{◌≡◌, ◌≤◌, ℤ, Err, subst, length, arith, rules, w64, to_z, of_z, Vec, Global, ℕ}
use Rattle.std.proofs.lemmas.Int.{to_z-of_z}
use Rattle.std.proofs.lemmas.Result.{err_from_is_err_and}
use Rattle.kq_value.specs.Computed.{AnswersAs, Is}
use Rattle.kq_store_column_view.specs.Vectors.{cells_of}
use Rattle.kq_plan_expressions.specs.Terms.{term_of}
use Rattle.kq_eval_columns.specs.kq_eval_row.Val.{meaning, surroundings}
use Rattle.kq_eval_pieces.specs.Pieces.{places_where}
use Rattle.kq_eval_pieces.proofs.Kept.{places_more, places_fault, places_end}
use Rattle.kq_eval_pieces.proofs.filter.places_kept.Goals as goal

pub returns-in_err-truths : goal.returns-in_err-truths
returns-in_err-truths g c =
    let again = to_z w64 (of_z w64 c.args.now) in
    let same : again ≡ c.args.now = search (rules, to_z-of_z) in
    let f = λ (z : ℤ). meaning (term_of c.args.condition.now) (surroundings z c.args.lets.now) in
    let see = λ (v : Vec ℕ Global). v.items in
    let rows = g.R.Relation.rows c.args.relation.now in
    let fault = c.in_err-truths.field-0.0 in
    let low : c.loop-from.from ≤ c.min-to.result = omega arith in
    let fails = places_fault (f again) see cells_of (places_where (f again) rows) rows c.loop-from.from c.min-to.result c.loop-from.places.items fault low c.loop-from.invariant.1 c.in_err-truths.ensures.values in
    let p = err_from_is_err_and c.from_residual.result c.from_residual.ensures.1 in
    rw (p.1, p.2) (subst (λ (z : ℤ). AnswersAs see (places_where (f z) rows) (Err fault)) same fails)

pub loop-from-preserved : goal.loop-from-preserved
loop-from-preserved g c =
    let f = meaning (term_of c.args.condition.now) (surroundings (to_z w64 (of_z w64 c.args.now)) c.args.lets.now) in
    let rows = g.R.Relation.rows c.args.relation.now in
    let from = c.loop-from.from in
    let to = c.min-to.result in
    let low : from ≤ to = omega arith in
    let high : to ≤ length rows = omega arith in
    (high, rw c.in_ok-push_places.ensures (places_more f (places_where f rows) rows from to c.loop-from.places.items (cells_of c.in_ok-truths.truths) low high c.loop-from.invariant.1 c.in_ok-truths.ensures.values))

pub returns : goal.returns
returns g c =
    let again = to_z w64 (of_z w64 c.args.now) in
    let same : again ≡ c.args.now = search (rules, to_z-of_z) in
    let f = λ (z : ℤ). meaning (term_of c.args.condition.now) (surroundings z c.args.lets.now) in
    let rows = g.R.Relation.rows c.args.relation.now in
    subst (λ (z : ℤ). places_where (f z) rows ≡ Is c.loop-from.places.items) same
    (places_end (f again) (places_where (f again) rows) rows c.loop-from.from c.loop-from.places.items (omega arith) c.loop-from.invariant.1)

pub push_places-requires : goal.push_places-requires
push_places-requires g c =
    let long = c.in_ok-truths.ensures.beside in
    omega arith
