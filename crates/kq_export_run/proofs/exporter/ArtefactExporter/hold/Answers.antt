use Rattle.std.proofs.Common.{◌≡◌, ◌∙◌, sym, subst, Option, Some, None}
use Rattle.kq_export_ranges.specs.Exports.{ExportView, export_numbered, is_named}
use Rattle.kq_export_run.specs.Held.{ExporterState, export_of, exports_in}
use Rattle.kq_export_run.specs.Serving.{HoldsSo, there_of}
use Rattle.kq_export_run.proofs.Defining.{holds_other, holds_same}
use Rattle.kq_export_run.proofs.Named.{find_nowhere, found_there}
use Rattle.kq_export_run.proofs.exporter.ArtefactExporter.hold.Goals as goal
use Rattle.kq_reply.specs.declared.reply.Reply.TheVariants as replies
use Rattle.kq_export_interface.specs.Due.{reply_of}

pub returns-then-is_same : goal.returns-then-is_same
returns-then-is_same g c =
    let s = c.args.self.now in
    let name = c.args.definition.name in
    let old = c.index.result.now in
    let is = c.self.view_is in
    let at = subst (λ (t : ExporterState). export_numbered name (exports_in t).defined ≡ Some c.in-Some.number) (sym is) (sym c.number_of.ensures ∙ c.in-Some.is) in
    let there = subst (λ (t : ExporterState). there_of (exports_in t) name ≡ Some (export_of old)) is
    (found_there export_of c.self.inside.defined.items c.in-Some.number old (is_named name) at c.index.ensures) in
    holds_same c.args.snapshot.now.history s c.args.at (export_of c.args.definition) (export_of old) (there_of (exports_in s) name) there (sym c.is_same.ensures ∙ c.if-is_same.true)

pub returns-in-Some : goal.returns-in-Some
returns-in-Some g c =
    let s = c.args.self.now in
    let name = c.args.definition.name in
    let old = c.index.result.now in
    let is = c.self.view_is in
    let at = subst (λ (t : ExporterState). export_numbered name (exports_in t).defined ≡ Some c.in-Some.number) (sym is) (sym c.number_of.ensures ∙ c.in-Some.is) in
    let there = subst (λ (t : ExporterState). there_of (exports_in t) name ≡ Some (export_of old)) is
    (found_there export_of c.self.inside.defined.items c.in-Some.number old (is_named name) at c.index.ensures) in
    holds_other c.args.snapshot.now.history s c.args.at (export_of c.args.definition) (export_of old) (there_of (exports_in s) name) there (sym c.is_same.ensures ∙ c.if-is_same.false)

pub returns : goal.returns
returns g c =
    let s = c.args.self.now in
    let new = export_of c.args.definition in
    let none = find_nowhere (is_named new.name) (exports_in s).defined (sym c.number_of.ensures ∙ c.in-None.is) in
    subst (λ (o : Option ExportView). HoldsSo c.args.snapshot.now.history s c.add.new.self c.args.at new o (reply_of c.add.result)) (sym none) c.add.ensures
