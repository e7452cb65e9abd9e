use Rattle.std.proofs.Common.{◌≡◌, ◌∙◌, sym, subst, ℕ}
use Rattle.std.proofs.lemmas.Result.{err_from_is_err_and}
use Rattle.kq_export_interface.specs.Due.{reply_of}
use Rattle.kq_export_run.specs.Held.{export_of, exports_in, history_of}
use Rattle.kq_export_run.specs.Serving.{IsWrittenFor, PutsRange}
use Rattle.kq_export_run.proofs.Ready.{ready, ready_ahead, ready_differs, ready_range, ready_refused, ready_written}
use Rattle.kq_export_run.proofs.Running.{runs_put, runs_refused}
use Rattle.kq_export_run.proofs.exporter.ArtefactExporter.run.Goals as goal

pub write_range-requires-clause-defined : goal.write_range-requires-clause-defined
write_range-requires-clause-defined g c =
    let s = c.self.inside in
    let found = sym c.number_of.ensures ∙ c.in-Some.is in
    (ready c.args.snapshot.now.history (history_of s.seen) s.defined.items s.ledger.ranges s.ledger.puts s.ledger.faults c.args.self.now c.args.name.now.text c.in-Some.number c.index-definition.result.now
    c.self.view_is c.self.invariant c.requires found c.index-definition.ensures).defined

pub write_range-requires-clause-ahead : goal.write_range-requires-clause-ahead
write_range-requires-clause-ahead g c =
    let s = c.self.inside in
    let h = c.args.snapshot.now.history in
    let n = c.in-Some.number in
    let d = c.index-definition.result.now in
    let found = sym c.number_of.ensures ∙ c.in-Some.is in
    let is = ready h (history_of s.seen) s.defined.items s.ledger.ranges s.ledger.puts s.ledger.faults c.args.self.now c.args.name.now.text n d c.self.view_is c.self.invariant c.requires found c.index-definition.ensures in
    ready_ahead h c.args.self.now n c.cursor-to.result d is c.cursor-to.ensures.cursor c.if-definition-to.false

pub returns-in_err-written : goal.returns-in_err-written
returns-in_err-written g c =
    let s = c.self.inside in
    let h = c.args.snapshot.now.history in
    let n = c.in-Some.number in
    let to = c.cursor-to.result in
    let up = c.cursor-to.ensures.cursor in
    let d = c.index-definition.result.now in
    let name = c.args.name.now in
    let found = sym c.number_of.ensures ∙ c.in-Some.is in
    let is = ready h (history_of s.seen) s.defined.items s.ledger.ranges s.ledger.puts s.ledger.faults c.args.self.now name.text n d c.self.view_is c.self.invariant c.requires found c.index-definition.ensures in
    let differs = c.if-definition-to.false in
    let p = err_from_is_err_and c.from_residual.result c.from_residual.ensures.1 in
    let r = c.in_err-written.field-0.0 in
    let refused = ready_refused h c.args.self.now n to d is up differs r c.in_err-written.ensures.refused in
    rw (p.1, p.2) (runs_refused h c.args.self.now name n found (ready_differs h c.args.self.now n to d is up differs) (export_of d) is.at r refused)

pub put-requires-clause-ahead : goal.put-requires-clause-ahead
put-requires-clause-ahead g c =
    let s = c.self.inside in
    let h = c.args.snapshot.now.history in
    let n = c.in-Some.number in
    let d = c.index-definition.result.now in
    let found = sym c.number_of.ensures ∙ c.in-Some.is in
    let is = ready h (history_of s.seen) s.defined.items s.ledger.ranges s.ledger.puts s.ledger.faults c.args.self.now c.args.name.now.text n d c.self.view_is c.self.invariant c.requires found c.index-definition.ensures in
    ready_range h c.args.self.now n c.cursor-to.result d is c.cursor-to.ensures.cursor c.if-definition-to.false

pub put-requires-clause-written : goal.put-requires-clause-written
put-requires-clause-written g c =
    let s = c.self.inside in
    let h = c.args.snapshot.now.history in
    let n = c.in-Some.number in
    let d = c.index-definition.result.now in
    let found = sym c.number_of.ensures ∙ c.in-Some.is in
    let is = ready h (history_of s.seen) s.defined.items s.ledger.ranges s.ledger.puts s.ledger.faults c.args.self.now c.args.name.now.text n d c.self.view_is c.self.invariant c.requires found c.index-definition.ensures in
    ready_written h c.args.self.now n c.cursor-to.result d is c.cursor-to.ensures.cursor c.if-definition-to.false c.in_ok-written.written c.in_ok-written.ensures.written

pub returns : goal.returns
returns g c =
    let s = c.self.inside in
    let h = c.args.snapshot.now.history in
    let n = c.in-Some.number in
    let to = c.cursor-to.result in
    let up = c.cursor-to.ensures.cursor in
    let d = c.index-definition.result.now in
    let name = c.args.name.now in
    let w = c.in_ok-written.written in
    let reply = reply_of c.put.result in
    let found = sym c.number_of.ensures ∙ c.in-Some.is in
    let is = ready h (history_of s.seen) s.defined.items s.ledger.ranges s.ledger.puts s.ledger.faults c.args.self.now name.text n d c.self.view_is c.self.invariant c.requires found c.index-definition.ensures in
    let differs = c.if-definition-to.false in
    let for = ready_written h c.args.self.now n to d is up differs w c.in_ok-written.ensures.written in
    runs_put h c.args.self.now name n found (ready_differs h c.args.self.now n to d is up differs) c.put.new.self w reply
    (subst (λ (t : ℕ). IsWrittenFor h (exports_in c.args.self.now) n t w) up for) (subst (λ (t : ℕ). PutsRange h c.args.self.now c.put.new.self n t w.rows reply) up c.put.ensures)
