use Rattle.std.proofs.Common.{◌≡◌, ◌+◌, true, false, drop, map, ap, sym, ◌∙◌}
use Rattle.std.specs.Arc.{arc_value}
use Rattle.kq_catalog_journal.specs.declared.event.Event.{Event}
use Rattle.kq_policy_run.specs.Quiet.{disturbs}
use Rattle.kq_policy_run.proofs.Lasting.{next_event, quiet-ended, quiet-next}
use Rattle.kq_policy_run.proofs.quiet.are_quiet.Goals as goal

pub returns-then-disturbs : goal.returns-then-disturbs
returns-then-disturbs c =
    let ts = c.args.looked.now in
    let es = map arc_value c.args.events.now in
    let i = c.loop-event.event-index in
    let e = arc_value c.event-item.result in
    let one : disturbs ts e.operation ≡ true = ap (λ (x : Event). disturbs ts x.operation) (sym c.deref.ensures) ∙ sym c.disturbs.ensures ∙ c.if-disturbs.true in
    quiet-ended ts es (drop i es) (drop (i + 1) es) e (next_event arc_value c.args.events.now i c.event-item.result c.loop-event-test.true c.event-item.is) one c.loop-event.invariant

pub loop-event-preserved : goal.loop-event-preserved
loop-event-preserved c =
    let ts = c.args.looked.now in
    let es = map arc_value c.args.events.now in
    let i = c.loop-event.event-index in
    let e = arc_value c.event-item.result in
    let none : disturbs ts e.operation ≡ false = ap (λ (x : Event). disturbs ts x.operation) (sym c.deref.ensures) ∙ sym c.disturbs.ensures ∙ c.if-disturbs.false in
    quiet-next ts es (drop i es) (drop (i + 1) es) e (next_event arc_value c.args.events.now i c.event-item.result c.loop-event-test.true c.event-item.is) none c.loop-event.invariant
