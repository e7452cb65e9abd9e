use Rattle.std.proofs.Common.{length, ap, ◌∙◌}
use Rattle.kq_store_extent.specs.Seen.{ExtentView}
use Rattle.kq_store_extent.proofs.Named.{length-named}
use Rattle.kq_store_extent.proofs.extent.Extent.len.Goals as goal

pub returns-clause-count : goal.returns-clause-count
returns-clause-count c =
    c.len.ensures.count ∙ length-named c.self.inside.runs c.self.inside.columns c.self.invariant ∙ ap (λ (e : ExtentView). length e.records) c.self.view_is
