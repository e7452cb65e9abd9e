use Rattle.std.proofs.Common.{◌≡◌, ◌+◌, ◌++◌, ◌∷◌, [], ℕ, List, drop, length, map, ap, sym, subst, ◌∙◌, arith}
use Rattle.std.specs.Arc.{arc_value}
use Rattle.std.specs.List.{All}
use Rattle.std.proofs.lemmas.List.Elements.{All-push}
use Rattle.kq_value.specs.Typed.{HasTypes}
use Rattle.kq_value.specs.declared.value.Value.{Value}
use Rattle.kq_catalog_journal.specs.declared.event.Event.{Event}
use Rattle.kq_catalog_journal.specs.History.{commits_of, log}
use Rattle.kq_engine_show.specs.JournalRows.{cursor_after, event_row, journal_columns}
use Rattle.kq_engine_show.proofs.JournalLemmas.{count-next, event_row-typed, next_event, rows-next}
use Rattle.kq_engine_show.proofs.journal.add_rows.Goals as goal

pub loop-i-preserved : goal.loop-i-preserved
loop-i-preserved c =
    let named = log c.args.snapshot.now.history in
    let es = map arc_value c.args.events.now in
    let i = c.loop-i.i in
    let cursor = c.loop-i.cursor in
    let place = c.args.place in
    let rows = c.loop-i.rows in
    let e = arc_value c.index-events-i.result in
    let next : drop i es ≡ e ∷ drop (i + 1) es = next_event arc_value c.args.events.now i c.index-events-i.result c.loop-i-test.true c.index-events-i.is in
    let after : cursor + c.commits_in-cursor.result ≡ cursor_after cursor e =
    ap (λ (n : ℕ). cursor + n) (c.commits_in-cursor.ensures.count ∙ ap (λ (x : Event). length (commits_of x.operation)) c.deref.ensures) in
    let row : c.fill_row.new.row.items ≡ event_row named (place + i + 1) (cursor + c.commits_in-cursor.result) e =
    c.in_ok-fill_row.ensures ∙ ap (event_row named (place + i + 1) (cursor + c.commits_in-cursor.result)) c.deref-in-loop-i.ensures in
    let added : c.push_from.new.self ≡ rows ++ c.fill_row.new.row.items ∷ [] = c.in_ok-push_from.ensures.ok in
    record {
      empty = c.in_ok-push_from.ensures.left;
      typed = subst (λ (rs : List (List Value)). All (HasTypes journal_columns) rs) (sym (added ∙ ap (λ (r : List Value). rows ++ r ∷ []) row))
          (All-push (HasTypes journal_columns) rows _ c.loop-i.invariant.typed (event_row-typed named (place + i + 1) (cursor + c.commits_in-cursor.result) e));
      below = omega (arith, c.loop-i.invariant.below, c.commits_in-cursor.ensures.few);
      count = count-next cursor _ _ e (drop i es) (drop (i + 1) es) next after c.loop-i.invariant.count;
      rows = rows-next named place cursor _ i rows _ _ _ e (drop i es) (drop (i + 1) es) next after row added c.loop-i.invariant.rows;
    }
