use Rattle.std.proofs.Common.{◌∙◌, length, sym}
use Rattle.std.proofs.lemmas.List.{length-map}
use Rattle.kq_run_groups.specs.Arguments.{rows_given, rows_in}
use Rattle.kq_run_groups.specs.Groups.{rows_from}
use Rattle.kq_run_groups.proofs.Finishing.{EndsWide-added, Grouped-added, IsGrouped-from, fit-states, length-fit}
use Rattle.kq_run_groups.proofs.groups.group_rows.Goals as goal

pub add-requires-clause-each : goal.add-requires-clause-each
add-requires-clause-each c =
    let groups = c.in_ok-groups.groups in
    let n = length c.args.keys.now in
    let args = rows_given n c.args.args.now in
    sym (length-map c.args.args.now (rows_in n)) ∙ length-fit groups.states args (fit-states c.args.aggregates.now groups.states args c.in_ok-groups.ensures.shapes c.requires.fit)

pub rows-requires-clause-wide : goal.rows-requires-clause-wide
rows-requires-clause-wide c =
    EndsWide-added c.args.width c.args.aggregates.now c.args.keys.now (rows_given (length c.args.keys.now) c.args.args.now) c.in_ok-groups.groups c.add.new.self c.in_ok-groups.ensures c.in_ok-add.ensures c.requires.fit

pub returns : goal.returns
returns c =
    let args = rows_given (length c.args.keys.now) c.args.args.now in
    IsGrouped-from c.args.width c.args.aggregates.now c.args.keys.now args (rows_from c.add.new.self.states c.add.new.self.keys 0) c.rows.result
    (Grouped-added c.args.width c.args.aggregates.now c.args.keys.now args c.in_ok-groups.groups c.add.new.self c.in_ok-groups.ensures c.in_ok-add.ensures c.requires.fit) c.rows.ensures
