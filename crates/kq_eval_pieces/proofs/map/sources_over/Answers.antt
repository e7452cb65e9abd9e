use Rattle.std.proofs.Common.{◌≡◌, ◌-◌, ◌<◌, ℤ, List, Ok, Err, length, take, map, ap, ◌∙◌, sym, subst, arith, add-one, refl, rules, w64, to_z, of_z, Vec, Global}
use Rattle.std.specs.List.{concat}
use Rattle.std.proofs.lemmas.Int.{to_z-of_z}
use Rattle.std.proofs.lemmas.List.{length-append, take_all}
use Rattle.std.proofs.lemmas.Result.{err_from_is_err_and}
use Rattle.kq_value.specs.declared.value.Value.{Value}
use Rattle.kq_value.specs.Computed.{Is, each}
use Rattle.kq_eval_columns.specs.Vectors.{rows_at}
use Rattle.kq_plan_expressions.specs.Terms.{term_of}
use Rattle.kq_eval_columns.specs.kq_eval_row.Val.{surroundings, val}
use Rattle.kq_eval_pieces.specs.declared.sources.Source.{Source}
use Rattle.kq_eval_pieces.specs.Operators.{values_at}
use Rattle.kq_eval_pieces.specs.Pieces.{columns_copied, piece_of}
use Rattle.kq_eval_pieces.specs.Sources.{Sourced, cells_from, rows_from}
use Rattle.kq_eval_pieces.proofs.Mapped.{no_sources, source_fault, source_pushed, source_stands}
use Rattle.kq_eval_pieces.proofs.Standing.{piece_long}
use Rattle.kq_eval_pieces.proofs.map.sources_over.Goals as goal

pub loop-expr-init : goal.loop-expr-init
loop-expr-init g c =
    let s = surroundings c.args.now c.args.lets.now in
    let rows = piece_of (g.R.Relation.rows c.args.relation.now) c.args.from c.args.to in
    (search rules, rw c.new-sources.ensures.items (no_sources s rows 0))

pub returns-in_err-source-clause-rows : goal.returns-in_err-source-clause-rows
returns-in_err-source-clause-rows g c =
    let same : to_z w64 (of_z w64 c.args.now) ≡ c.args.now = search (rules, to_z-of_z) in
    let n = c.args.to - c.args.from in
    let s = surroundings c.args.now c.args.lets.now in
    let rows = piece_of (g.R.Relation.rows c.args.relation.now) c.args.from c.args.to in
    let long = piece_long (g.R.Relation.rows c.args.relation.now) c.args.from c.args.to c.requires.piece.0 c.requires.piece.1 in
    let e = c.expr-item.result in
    let i = c.loop-expr.expr-index in
    let l : i < length c.args.exprs.now = omega arith in
    let fault = c.in_err-source.field-0.0 in
    let given = c.args.columns.now in
    let places = c.args.places.now in
    let came = subst (λ (z : ℤ). Sourced (term_of e) (each (val e (surroundings z c.args.lets.now)) (rows_at given places)) (Err fault)) same c.in_err-source.ensures in
    let gives = source_stands c.args.exprs.now i e s given given (concat (map columns_copied c.args.exprs.now)) places rows n long l c.expr-item.is c.requires.columns refl refl c.requires.places (Err fault) came in
    let p = err_from_is_err_and c.from_residual.result c.from_residual.ensures.1 in
    rw (p.1, p.2) (source_fault (λ (v : Vec Source Global). rows_from v.items 0 rows) (λ (x : Source). cells_from x 0 rows) s c.args.exprs.now i e rows fault l c.expr-item.is gives)

pub loop-expr-preserved : goal.loop-expr-preserved
loop-expr-preserved g c =
    let same : to_z w64 (of_z w64 c.args.now) ≡ c.args.now = search (rules, to_z-of_z) in
    let n = c.args.to - c.args.from in
    let s = surroundings c.args.now c.args.lets.now in
    let rows = piece_of (g.R.Relation.rows c.args.relation.now) c.args.from c.args.to in
    let long = piece_long (g.R.Relation.rows c.args.relation.now) c.args.from c.args.to c.requires.piece.0 c.requires.piece.1 in
    let e = c.expr-item.result in
    let i = c.loop-expr.expr-index in
    let l : i < length c.args.exprs.now = omega arith in
    let x = c.in_ok-source.source in
    let lent = c.in_ok-lent_source.field-0 in
    let made = c.loop-expr.sources.items in
    let given = c.args.columns.now in
    let places = c.args.places.now in
    let came = subst (λ (z : ℤ). Sourced (term_of e) (each (val e (surroundings z c.args.lets.now)) (rows_at given places)) (Ok x)) same c.in_ok-source.ensures in
    let gives = source_stands c.args.exprs.now i e s given given (concat (map columns_copied c.args.exprs.now)) places rows n long l c.expr-item.is c.requires.columns refl refl c.requires.places (Ok x) came in
    let read_so = gives ∙ ap (λ (cs : List Value). Is cs) (sym c.in_ok-lent_source.ensures) in
    let before = subst (λ (z : ℤ). each (values_at (map term_of (take i c.args.exprs.now)) (surroundings z c.args.lets.now)) rows ≡ Is (rows_from made 0 rows)) same c.loop-expr.invariant.1 in
    rw (same, c.in_ok-push.ensures.items, add-one)
    (rw length-append (omega (arith, c.loop-expr.invariant.0)), source_pushed s c.args.exprs.now i e made lent rows l c.expr-item.is before read_so)

pub returns-clause-rows : goal.returns-clause-rows
returns-clause-rows g c =
    let same : to_z w64 (of_z w64 c.args.now) ≡ c.args.now = search (rules, to_z-of_z) in
    let s = surroundings c.args.now c.args.lets.now in
    let rows = piece_of (g.R.Relation.rows c.args.relation.now) c.args.from c.args.to in
    ap (λ es. each (values_at (map term_of es) s) rows) (sym (take_all c.loop-expr.expr-index c.args.exprs.now (omega arith)))
    ∙ subst (λ (z : ℤ). each (values_at (map term_of (take c.loop-expr.expr-index c.args.exprs.now)) (surroundings z c.args.lets.now)) rows ≡ Is (rows_from c.loop-expr.sources.items 0 rows)) same c.loop-expr.invariant.1
