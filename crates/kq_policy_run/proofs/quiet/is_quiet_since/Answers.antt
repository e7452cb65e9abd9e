use Rattle.std.proofs.Common.{◌≡◌, ◌+◌, ◌++◌, drop, length, map, ap, sym, ◌∙◌, arith, length-append, length-drop}
use Rattle.std.specs.Arc.{arc_value}
use Rattle.std.proofs.lemmas.List.{length-map}
use Rattle.kq_policy_run.proofs.Lasting.{quiet-part, quiet-parted}
use Rattle.kq_policy_run.proofs.quiet.is_quiet_since.Goals as goal

pub returns-then-not-are_quiet : goal.returns-then-not-are_quiet
returns-then-not-are_quiet c =
    let h = c.args.snapshot.now.history in
    let part = map arc_value c.events_from-events.result.now in
    let at = c.loop-at.at in
    quiet-parted c.args.looked.now (drop c.args.place h) (drop at h) part (drop (at + length part) h) c.events_from-events.ensures.items.is (sym c.are_quiet.ensures ∙ c.if-not-are_quiet.true) c.loop-at.invariant.rest

pub loop-at-preserved : goal.loop-at-preserved
loop-at-preserved c =
    let h = c.args.snapshot.now.history in
    let events = c.events_from-events.result.now in
    let part = map arc_value events in
    let at = c.loop-at.at in
    let n = length-map events arc_value in
    let front : drop at h ≡ part ++ drop (at + length events) h = c.events_from-events.ensures.items.is ∙ ap (λ k. part ++ drop (at + k) h) n in
    record {
      within = omega (arith, n, c.loop-at.invariant.within, ap length front, length-append part (drop (at + length events) h), length-drop at h, length-drop (at + length events) h);
      rest = quiet-part c.args.looked.now (drop c.args.place h) (drop at h) part (drop (at + length events) h) front (sym c.are_quiet.ensures ∙ c.if-not-are_quiet.false) c.loop-at.invariant.rest;
    }
