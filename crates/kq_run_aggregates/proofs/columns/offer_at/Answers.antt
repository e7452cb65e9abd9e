use Rattle.std.proofs.Common.{rules, w64, FitsSigned}
use Rattle.std.proofs.lemmas.Int.{to_z-of_z}
use Rattle.kq_run_aggregates.specs.Alone.{alone, cell_as}
use Rattle.kq_run_aggregates.specs.Holds.{extreme}
use Rattle.kq_run_aggregates.specs.Steps.{Steps}
use Rattle.kq_run_aggregates.specs.Tables.{side_kind}
use Rattle.kq_run_aggregates.proofs.Changes.{ChangesAt-set}
use Rattle.kq_run_aggregates.proofs.StepLemmas.{Steps-offered}
use Rattle.kq_run_aggregates.proofs.columns.offer_at.Goals as goal

pub returns-clause-value : goal.returns-clause-value
returns-clause-value c =
    let v = cell_as c.args.reading c.args.number in
    let fz : FitsSigned w64 c.args.number = search rules in
    let step = simp to_z-of_z at c.offer_number.ensures in
    ChangesAt-set extreme (Steps (side_kind c.args.side) (alone v)) c.args.values.now.items c.args.group _ _ c.requires c.index_mut.ensures.value (rw step (Steps-offered c.args.side _ v))
