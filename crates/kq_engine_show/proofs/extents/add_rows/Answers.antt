use Rattle.std.proofs.Common.{◌≡◌, ◌++◌, ◌∷◌, [], List, ap, sym, subst, ◌∙◌}
use Rattle.std.specs.Arc.{arc_value}
use Rattle.std.specs.List.{All}
use Rattle.std.proofs.lemmas.List.Elements.{All-push}
use Rattle.kq_value.specs.Typed.{HasTypes}
use Rattle.kq_value.specs.declared.value.Value.{Value}
use Rattle.kq_catalog.specs.Held.{extent_item}
use Rattle.kq_engine_show.specs.ExtentRows.{extent_columns, held_row}
use Rattle.kq_engine_show.proofs.ExtentLemmas.{extent_row-typed}
use Rattle.kq_engine_show.proofs.Walks.{rows-more}
use Rattle.kq_engine_show.proofs.extents.add_rows.Goals as goal

pub loop-extent-preserved : goal.loop-extent-preserved
loop-extent-preserved c =
    let rows = c.loop-extent.rows in
    let e = arc_value c.extent-item.result in
    let added : c.push_from.new.self ≡ rows ++ held_row e ∷ [] =
    c.in_ok-push_from.ensures.ok ∙ ap (λ (r : List Value). rows ++ r ∷ []) (c.in_ok-fill_row.ensures ∙ ap held_row c.deref.ensures) in
    record {
      empty = c.in_ok-push_from.ensures.left;
      typed = subst (λ (rs : List (List Value)). All (HasTypes extent_columns) rs) (sym added) (All-push (HasTypes extent_columns) rows (held_row e) c.loop-extent.invariant.typed (extent_row-typed (extent_item e)));
      rows = added ∙ ap (λ (rs : List (List Value)). rs ++ held_row e ∷ []) c.loop-extent.invariant.rows
          ∙ rows-more arc_value held_row c.args.rows.now c.args.extents.now c.loop-extent.extent-index c.extent-item.result c.loop-extent-test.true c.extent-item.is;
    }
