use Rattle.std.proofs.Common.{◌≡◌, ◌-◌, ℕ, ℤ, List, length, map, ◌∙◌, sym, subst, rules, w64, to_z, of_z}
use Rattle.std.specs.List.{concat}
use Rattle.std.proofs.lemmas.Int.{to_z-of_z}
use Rattle.kq_plan_expressions.specs.Terms.{term_of}
use Rattle.kq_eval_columns.specs.kq_eval_row.Val.{surroundings}
use Rattle.kq_store_column_view.specs.declared.vector.Vector.{Vector}
use Rattle.kq_eval_pieces.specs.Pieces.{Hold, columns_copied, piece_of}
use Rattle.kq_eval_pieces.specs.Sources.{MakeRows}
use Rattle.kq_eval_pieces.proofs.map.sources_of.Goals as goal

pub sources_over-requires-clause-columns : goal.sources_over-requires-clause-columns
sources_over-requires-clause-columns g c =
    let rows = piece_of (g.R.Relation.rows c.args.relation.now) c.args.from c.args.to in
    let read = c.deref.ensures.value ∙ c.in_ok-copied.ensures in
    subst (λ (cs : List Vector). Hold cs rows (concat (map columns_copied c.args.exprs.now))) (sym c.deref-2.ensures.value) (subst (λ (js : List ℕ). Hold c.in_ok-columns.columns.items rows js) read c.in_ok-columns.ensures)

pub sources_over-requires-clause-places : goal.sources_over-requires-clause-places
sources_over-requires-clause-places g c = c.deref-3.ensures.value ∙ c.in_ok-places.ensures

pub returns-clause-rows : goal.returns-clause-rows
returns-clause-rows g c =
    let same : to_z w64 (of_z w64 c.args.now) ≡ c.args.now = search (rules, to_z-of_z) in
    let rows = piece_of (g.R.Relation.rows c.args.relation.now) c.args.from c.args.to in
    subst (λ (z : ℤ). MakeRows (map term_of c.args.exprs.now) (surroundings z c.args.lets.now) rows c.sources_over.result) same c.sources_over.ensures.rows
