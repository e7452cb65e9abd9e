use Rattle.std.proofs.Common.{◌≡◌, Some, subst, sym}
use Rattle.kq_policy_entries.specs.declared.fault.EntriesFault.{EntriesFault}
use Rattle.kq_policy_entries.specs.Entries.{RefusesEntries}
use Rattle.kq_catalog_journal.specs.declared.limits.Limits.{Limits}
use Rattle.kq_catalog_journal.specs.History.{log}
use Rattle.kq_policy_entries.specs.PolicyTexts.{fault_of}
use Rattle.kq_policy_entries.proofs.Binding.{read_refused}
use Rattle.kq_policy_entries.proofs.read.read_entries.Goals as goal

pub returns-in-Err-clause-fault : goal.returns-in-Err-clause-fault
returns-in-Err-clause-fault g c =
    let known = g.N.Names.known c.args.names.now in
    let l = log c.args.snapshot.now.history in
    let limit = c.args.snapshot.now.limits.policies in
    subst (RefusesEntries known l c.args.target.now limit c.args.policy.now) (sym c.refused.ensures)
    (read_refused known l c.args.target.now limit c.args.policy.now c.in-Err.fault (λ other. subst (λ (v : Limits). fault_of v.policies c.args.policy.now ≡ Some c.in-Err.fault) c.limits.ensures (c.in-Err.ensures.fault other)))
