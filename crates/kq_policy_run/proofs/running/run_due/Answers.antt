use Rattle.std.proofs.Common.{All, subst, arith}
use Rattle.kq_catalog_journal.specs.History.{log}
use Rattle.kq_catalog_journal.specs.Records.{schema_of}
use Rattle.kq_value.specs.Typed.{HasTypes}
use Rattle.kq_policy_run.proofs.Entries.{due_answers, due_typed, place_within, source_of, stands_there, target_within}
use Rattle.kq_policy_run.proofs.running.run_due.Goals as goal

pub entries-requires : goal.entries-requires
entries-requires c = target_within (log c.args.snapshot.now.history) c.args.due c.requires.standing

pub bounds-entries-due : goal.bounds-entries-due
bounds-entries-due c = place_within (log c.args.snapshot.now.history) c.args.due c.requires.standing c.entries.result.now c.entries.ensures

pub offset_bounds-entries-due : goal.offset_bounds-entries-due
offset_bounds-entries-due c =
    let within = place_within (log c.args.snapshot.now.history) c.args.due c.requires.standing c.entries.result.now c.entries.ensures in
    omega (arith, within, c.entries.type_inv)

pub run_entry-requires-clause-stands : goal.run_entry-requires-clause-stands
run_entry-requires-clause-stands c =
    stands_there (log c.args.snapshot.now.history) c.args.due c.requires.standing c.entries.result.now c.index-entries-due.result c.entries.ensures c.index-entries-due.is

pub run_entry-requires-clause-typed : goal.run_entry-requires-clause-typed
run_entry-requires-clause-typed c =
    let l = log c.args.snapshot.now.history in
    let e = c.index-entries-due.result in
    let at = stands_there l c.args.due c.requires.standing c.entries.result.now e c.entries.ensures c.index-entries-due.is in
    subst (λ t. All (HasTypes (schema_of l t)) c.args.batch.now.rows) (source_of l c.args.due c.requires.standing e at) c.requires.typed

pub returns-clause-answer : goal.returns-clause-answer
returns-clause-answer c =
    let l = log c.args.snapshot.now.history in
    let e = c.index-entries-due.result in
    let at = stands_there l c.args.due c.requires.standing c.entries.result.now e c.entries.ensures c.index-entries-due.is in
    due_answers l c.args.due e c.args.batch.now.rows c.run_entry.result at c.run_entry.ensures

pub returns-clause-typed : goal.returns-clause-typed
returns-clause-typed c =
    let seen = c.args.snapshot.now in
    let l = log seen.history in
    let e = c.index-entries-due.result in
    let at = stands_there l c.args.due c.requires.standing c.entries.result.now e c.entries.ensures c.index-entries-due.is in
    due_typed seen.limits seen.history c.cursor-cursor.ensures.sound.lawful c.args.due c.args.batch.now.rows c.run_entry.result c.requires.standing c.requires.typed
    (due_answers l c.args.due e c.args.batch.now.rows c.run_entry.result at c.run_entry.ensures)
