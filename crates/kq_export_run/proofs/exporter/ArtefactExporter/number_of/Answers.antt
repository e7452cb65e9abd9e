use Rattle.std.proofs.Common.{◌∙◌, ap, sym, List, nat_eq, ℕ}
use Rattle.std.specs.Cmp.Lexicographic.{pointwise}
use Rattle.std.specs.List.{position}
use Rattle.kq_export_ranges.specs.Exports.{export_numbered, is_named}
use Rattle.kq_export_run.specs.declared.definition.Definition.{Definition}
use Rattle.kq_export_run.specs.Held.{ExporterState, export_of, exports_in}
use Rattle.kq_export_run.proofs.Named.{position-map}
use Rattle.kq_export_run.proofs.exporter.ArtefactExporter.number_of.Goals as goal

pub returns : goal.returns
returns g c =
    let name = c.args.name.now in
    c.number_in.ensures
    ∙ ap (λ (said : List ℕ). position (λ (d : Definition). pointwise nat_eq d.name said) c.as_slice.result.now) c.as_str.ensures
    ∙ ap (position (λ (d : Definition). pointwise nat_eq d.name name)) c.as_slice.ensures.value
    ∙ sym (position-map (is_named name) export_of c.self.inside.defined.items)
    ∙ ap (λ (s : ExporterState). export_numbered name (exports_in s).defined) c.self.view_is
