use Rattle.std.proofs.Common.{◌≤◌, [], List, length, ap, sym, arith}
use Rattle.std.specs.List.{slice_get}
use Rattle.std.proofs.lemmas.List.{get_or_past}
use Rattle.kq_catalog_journal.specs.declared.policy.Entry.{Entry}
use Rattle.kq_catalog_journal.specs.History.{log}
use Rattle.kq_catalog_journal.specs.Policies.{policies}
use Rattle.kq_catalog_journal.proofs.Policies.{length-policies}
use Rattle.kq_policy_run.proofs.lookups.entry_of.Goals as goal

pub returns-else-due-table_count : goal.returns-else-due-table_count
returns-else-due-table_count c =
    let l = log c.args.snapshot.now.history in
    let past : length (policies l) ≤ c.args.due.target = omega (arith, length-policies l) in
    sym (ap (λ (es : List Entry). slice_get es c.args.due.place) (get_or_past (policies l) c.args.due.target [] past))
