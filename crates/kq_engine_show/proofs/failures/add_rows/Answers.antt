use Rattle.std.proofs.Common.{◌≡◌, ◌++◌, ◌∷◌, [], List, ap, sym, subst, ◌∙◌}
use Rattle.std.specs.Arc.{arc_value}
use Rattle.std.specs.List.{All}
use Rattle.std.proofs.lemmas.List.Elements.{All-push}
use Rattle.kq_value.specs.Typed.{HasTypes}
use Rattle.kq_value.specs.declared.value.Value.{Value}
use Rattle.kq_catalog_journal.specs.History.{log}
use Rattle.kq_engine_show.specs.FailureRows.{failure_columns, failure_row}
use Rattle.kq_engine_show.proofs.FailureLemmas.{failure_row-typed}
use Rattle.kq_engine_show.proofs.Walks.{rows-more}
use Rattle.kq_engine_show.proofs.failures.add_rows.Goals as goal

pub loop-noted-preserved : goal.loop-noted-preserved
loop-noted-preserved c =
    let named = log c.args.snapshot.now.history in
    let rows = c.loop-noted.rows in
    let n = arc_value c.noted-item.result in
    let added : c.push_from.new.self ≡ rows ++ failure_row named n ∷ [] =
    c.in_ok-push_from.ensures.ok ∙ ap (λ (r : List Value). rows ++ r ∷ []) (c.in_ok-fill_row.ensures ∙ ap (failure_row named) c.deref.ensures) in
    record {
      empty = c.in_ok-push_from.ensures.left;
      typed = subst (λ (rs : List (List Value)). All (HasTypes failure_columns) rs) (sym added) (All-push (HasTypes failure_columns) rows (failure_row named n) c.loop-noted.invariant.typed (failure_row-typed named n));
      rows = added ∙ ap (λ (rs : List (List Value)). rs ++ failure_row named n ∷ []) c.loop-noted.invariant.rows
          ∙ rows-more arc_value (failure_row named) c.args.rows.now c.args.failures.now c.loop-noted.noted-index c.noted-item.result c.loop-noted-test.true c.noted-item.is;
    }
