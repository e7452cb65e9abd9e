use Rattle.std.proofs.Common.{sym, subst}
use Rattle.kq_catalog_journal.specs.History.{log}
use Rattle.kq_plan.specs.declared.work.LeafKind.{LeafKind}
use Rattle.kq_plan.specs.Fits.{FitsLeaf}
use Rattle.kq_plan.specs.Plans.{planned_of}
use Rattle.kq_policy_run.specs.Reading.{IsFirstOf, known_as_read}
use Rattle.kq_policy_run.specs.World.{BesideView}
use Rattle.kq_policy_run.proofs.Reading.{first_read}
use Rattle.kq_policy_run.proofs.beside.BesideLeaves.rows.Goals as goal

pub table_beside-requires-clause-first : goal.table_beside-requires-clause-first
table_beside-requires-clause-first c =
    let b = c.args.self.now in
    let l = log b.history in
    let p = planned_of b.plan in
    let said = c.args.name.now in
    let fs = c.args.columns.now in
    subst (λ (v : BesideView). IsFirstOf (log v.history) said fs) (sym c.self.view_is)
    (first_read l p said fs (subst (λ (k : LeafKind). FitsLeaf k (known_as_read l p said) fs) c.in-Table.is c.requires))
