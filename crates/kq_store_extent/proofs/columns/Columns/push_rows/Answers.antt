use Rattle.std.proofs.Common.{◌≡◌, ◌++◌, ◌∷◌, [], Some, take, length, map, slice_get, ap, refl, sym, ◌∙◌, arith, List}
use Rattle.std.specs.Option.{option_map}
use Rattle.std.proofs.lemmas.List.{length-map, take_at, take_all}
use Rattle.std.proofs.lemmas.Option.{slice_get-map}
use Rattle.kq_value.specs.declared.value.Value.{Value}
use Rattle.kq_store_rows.specs.Widened.{widened}
use Rattle.kq_store_extent.proofs.Across.{on_err, wide_next, take_next}
use Rattle.kq_store_extent.proofs.columns.Columns.push_rows.Goals as goal

pub push_from-requires : goal.push_from-requires
push_from-requires c =
    let f = widened c.args.fields.now in
    let row = c.widen.new.row.items in
    let got : slice_get (map f c.args.self.now) c.loop-index.index ≡ Some row = slice_get-map f c.args.self.now c.loop-index.index ∙ ap (option_map f) c.in_ok-fill.ensures ∙ ap Some (sym c.in_ok-widen.ensures) in
    rw c.loop-index.invariant.added (wide_next c.args.rows.now (map f c.args.self.now) c.loop-index.index row c.requires got)

pub loop-index-preserved : goal.loop-index-preserved
loop-index-preserved c =
    let f = widened c.args.fields.now in
    let row = c.widen.new.row.items in
    let got : slice_get (map f c.args.self.now) c.loop-index.index ≡ Some row = slice_get-map f c.args.self.now c.loop-index.index ∙ ap (option_map f) c.in_ok-fill.ensures ∙ ap Some (sym c.in_ok-widen.ensures) in
    record {
      added = c.in_ok-push_from.ensures.ok ∙ ap (λ (rs : List (List Value)). rs ++ row ∷ []) c.loop-index.invariant.added ∙ take_next c.args.rows.now (map f c.args.self.now) c.loop-index.index row got;
      emptied = c.in_ok-push_from.ensures.left;
    }

pub returns-in_err-fill-clause-kept : goal.returns-in_err-fill-clause-kept
returns-in_err-fill-clause-kept c =
    on_err c.from_residual.result _ (rw c.loop-index.invariant.added (take_at c.args.rows.now (take c.loop-index.index (map (widened c.args.fields.now) c.args.self.now)) (length c.args.rows.now) refl))

pub returns-in_err-widen-clause-kept : goal.returns-in_err-widen-clause-kept
returns-in_err-widen-clause-kept c =
    on_err c.from_residual-in_err-widen.result _ (rw c.loop-index.invariant.added (take_at c.args.rows.now (take c.loop-index.index (map (widened c.args.fields.now) c.args.self.now)) (length c.args.rows.now) refl))

pub returns-in_err-push_from-clause-kept : goal.returns-in_err-push_from-clause-kept
returns-in_err-push_from-clause-kept c =
    on_err c.from_residual-in_err-push_from.result _
    (rw (c.in_err-push_from.ensures.err, c.loop-index.invariant.added) (take_at c.args.rows.now (take c.loop-index.index (map (widened c.args.fields.now) c.args.self.now)) (length c.args.rows.now) refl))

pub returns-clause-ok : goal.returns-clause-ok
returns-clause-ok c =
    let wider = map (widened c.args.fields.now) c.args.self.now in
    let n = length-map c.args.self.now (widened c.args.fields.now) in
    c.loop-index.invariant.added ∙ ap (λ (rs : List (List Value)). c.args.rows.now ++ rs) (take_all c.loop-index.index wider (omega (arith, n)))
