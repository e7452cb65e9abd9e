use Rattle.std.proofs.Common.{◌≤◌, ◌<◌, ◌∙◌, ap, arith, length, sym, ℕ}
use Rattle.kq_catalog_journal.specs.Force.{policy_at}
use Rattle.kq_catalog_journal.specs.History.{log, tables}
use Rattle.kq_catalog_journal.specs.Policies.{policies, with_policy}
use Rattle.kq_policy_entries.proofs.Setting.{set-here, set-other, set-past}
use Rattle.kq_policy_entries.proofs.cycle.policy_of.Goals as goal

pub returns-then-table-table_count : goal.returns-then-table-table_count
returns-then-table-table_count c =
    let l = log c.args.snapshot.now.history in
    let count = c.table_count.ensures in
    let over = c.if-table-table_count.true in
    let within : length (tables l) ≤ c.args.table = omega (arith, count, over) in
    sym (set-past l c.args.target c.args.entries.now c.args.table within)

pub returns-then-table-target : goal.returns-then-table-target
returns-then-table-target c =
    let l = log c.args.snapshot.now.history in
    let count = c.table_count.ensures in
    let under = c.if-table-table_count.false in
    let same = c.if-table-target.true in
    let within : c.args.target < length (tables l) = omega (arith, count, under, same) in
    sym (set-here l c.args.target c.args.entries.now within) ∙ ap (policy_at (with_policy c.args.target c.args.entries.now (policies l))) (sym same)

pub returns-else-table-target : goal.returns-else-table-target
returns-else-table-target c =
    let l = log c.args.snapshot.now.history in
    c.entries.ensures ∙ sym (set-other l c.args.target c.args.entries.now c.args.table c.if-table-target.false)
