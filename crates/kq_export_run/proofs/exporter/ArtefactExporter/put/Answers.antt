use Rattle.std.proofs.Common.{◌≡◌, ◌<◌, ◌∙◌, ap, sym, subst, length, refl}
use mathlib.Core.List.{IsPrefix}
use Rattle.kq_export_ranges.specs.Exports.{end_of}
use Rattle.kq_catalog_journal.specs.History.{History}
use Rattle.kq_world.specs.Outside.{Put}
use Rattle.kq_export_run.specs.Held.{AreHeld, ExporterState, exports_in}
use Rattle.kq_export_run.specs.Runs.{WrittenView}
use Rattle.kq_export_run.specs.Serving.{IsWrittenFor}
use Rattle.kq_export_run.proofs.Held.{moved_in}
use Rattle.kq_export_run.proofs.Putting.{put_held, put_told}
use Rattle.kq_export_run.proofs.exporter.ArtefactExporter.put.Goals as goal

pub invariant_of-self : goal.invariant_of-self
invariant_of-self g c =
    let s = c.self.inside in
    let is = sym c.self.view_is in
    let h = c.args.snapshot.now.history in
    let n = c.args.number in
    let to = c.args.to in
    let w = c.args.written in
    let ds = s.defined.items in
    let first = c.index.result.now in
    let d = c.index_mut.result.now in
    let after = c.put.new.self.ranges in
    let kept = c.put.new.self.puts in
    let p : Put = record { name = c.as_str.result.now; bytes = c.as_slice.result.now } in
    let within : n < length ds = subst (λ (t : ExporterState). n < length t.defined) is c.requires.number in
    let goes_on = subst (λ (t : ExporterState). IsPrefix t.seen h) is c.requires.goes_on in
    let ahead = subst (λ (t : ExporterState). end_of n (exports_in t) < to) is c.requires.ahead in
    let for = subst (λ (t : ExporterState). IsWrittenFor h (exports_in t) n to w) is c.requires.written in
    let named : p.name ≡ w.name = c.as_str.ensures.value ∙ ap (λ (v : WrittenView). v.name) c.written.view_is in
    let bytes : p.bytes ≡ w.bytes = c.as_slice.ensures ∙ ap (λ (v : WrittenView). v.bytes) c.written.view_is in
    let commits = c.in-Ok.ensures.commits in
    subst (λ (t : History). AreHeld t (moved_in ds n to d) after kept) (sym c.at.ensures)
    (put_held h _ ds s.ledger.ranges after s.ledger.puts kept n to first d c.self.invariant within c.index.ensures c.index_mut.ensures.value commits.0 w p goes_on c.requires.to ahead for named bytes commits.1)

pub returns-in-Ok : goal.returns-in-Ok
returns-in-Ok g c =
    let s = c.self.inside in
    let h = c.args.snapshot.now.history in
    let n = c.args.number in
    let within : n < length s.defined.items = subst (λ (t : ExporterState). n < length t.defined) (sym c.self.view_is) c.requires.number in
    let commits = c.in-Ok.ensures.commits in
    put_told h _ s.defined.items s.ledger.ranges c.put.new.self.ranges s.ledger.puts c.put.new.self.puts n c.args.to c.index.result.now c.index_mut.result.now
    c.self.invariant within c.index.ensures c.index_mut.ensures.value commits.0
    c.args.self.now _ c.args.written.rows c.written.inside.rows (ap exports_in c.self.view_is) refl refl
    (c.in-Ok.ensures.cause ∙ ap (λ (t : ExporterState). t.faults) c.self.view_is) c.at.ensures (ap (λ (v : WrittenView). v.rows) c.written.view_is)
