use Rattle.std.proofs.Common.{◌≡◌, ◌∙◌, ap, sym, subst, Option, None, ℕ}
use mathlib.Core.List.{IsPrefix}
use Rattle.kq_export_ranges.specs.Exports.{export_numbered}
use Rattle.kq_export_run.specs.Held.{AreHeld, ExporterState, exports_in}
use Rattle.kq_export_run.proofs.Held.{held_later, held_more}
use Rattle.kq_export_run.proofs.exporter.ArtefactExporter.add.Goals as goal

pub invariant_of-self-2 : goal.invariant_of-self-2
invariant_of-self-2 g c =
    let s = c.self.inside in
    let is = sym c.self.view_is in
    let h = c.args.snapshot.now.history in
    let d = c.args.definition in
    let goes_on = subst (λ (t : ExporterState). IsPrefix t.seen h) is c.requires.goes_on in
    let new = subst (λ (t : ExporterState). export_numbered d.name (exports_in t).defined ≡ None) is c.requires.new in
    let held = held_later _ h s.defined.items s.ledger.ranges s.ledger.puts goes_on c.self.invariant in
    let more = held_more h s.defined.items s.ledger.ranges s.ledger.puts d held new c.requires.defined c.requires.start in
    rw (c.at.ensures, c.in_ok-push.ensures.items) more
