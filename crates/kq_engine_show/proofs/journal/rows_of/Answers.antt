use Rattle.std.proofs.Common.{◌≡◌, ◌+◌, ◌++◌, drop, length, map, sym, ap, ◌∙◌, arith}
use Rattle.std.specs.Arc.{arc_value}
use Rattle.std.proofs.lemmas.List.{length-map}
use Rattle.kq_catalog_journal.specs.History.{log}
use Rattle.kq_engine_show.proofs.JournalLemmas.{rows-part}
use Rattle.kq_engine_show.proofs.Walks.{StandsAt-within}
use Rattle.kq_engine_show.proofs.journal.rows_of.Goals as goal

pub loop-at-preserved : goal.loop-at-preserved
loop-at-preserved c =
    let h = c.args.snapshot.now.history in
    let at = c.loop-at.at in
    let events = c.events_from-events.result.now in
    let part = map arc_value events in
    let n = length-map events arc_value in
    let within = StandsAt-within h at part c.loop-at.invariant.within c.events_from-events.ensures.items in
    let front : drop at h ≡ part ++ drop (at + length events) h = c.events_from-events.ensures.items.is ∙ ap (λ k. part ++ drop (at + k) h) n in
    record {
      within = omega (arith, within, n);
      below = c.in_ok-cursor.ensures.below;
      typed = c.in_ok-cursor.ensures.typed;
      rows = rows-part (log h) at c.loop-at.cursor _ (length events) c.loop-at.rows _ _ (drop at h) part (drop (at + length events) h) front (sym n)
          c.in_ok-cursor.ensures.cursor c.in_ok-cursor.ensures.rows c.loop-at.invariant.rows;
    }
