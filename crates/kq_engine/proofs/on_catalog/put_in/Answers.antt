use Rattle.std.proofs.Common.{arith, ◌∙◌, ◌+◌, ℕ, ap, length}
use Rattle.kq_catalog_journal.specs.History.{log}
use Rattle.kq_catalog.specs.Intents.{commit_of, event_by}
use Rattle.kq_catalog.specs.Seen.{hist}
use Rattle.kq_engine_prepare.specs.Due.{reply_to}
use Rattle.kq_engine.proofs.Acting.{Acts-commit}
use Rattle.kq_engine_prepare.proofs.Dues.{Commit-lawful}
use Rattle.kq_engine.proofs.on_catalog.put_in.Goals as goal

pub overflow_add-cursor : goal.overflow_add-cursor
overflow_add-cursor c =
    let old = c.args.catalog.now in
    let fit = Commit-lawful old.limits (log (hist old)) c.args.work.now.command (commit_of c.args.intent) c.requires.due in
    omega (arith, fit.room, c.cursor.ensures.cursor, old.limits.few_commits)

pub stage-requires-clause-lawful : goal.stage-requires-clause-lawful
stage-requires-clause-lawful c =
    let old = c.args.catalog.now in
    (Commit-lawful old.limits (log (hist old)) c.args.work.now.command (commit_of c.args.intent) c.requires.due).lawful

pub commit_ready-requires : goal.commit_ready-requires
commit_ready-requires c = record { event = event_by c.args.work.now.by c.args.intent; staged = c.in_ok-staged.ensures.staged }

pub returns-clause-acts : goal.returns-clause-acts
returns-clause-acts c =
    let old = c.args.catalog.now in
    let new = c.commit_ready.new.self in
    Acts-commit old.limits (hist old) (hist new) c.args.work.now (length (hist old)) (commit_of c.args.intent) c.place-end.result c.reply_for-reply.result c.requires.due
    (c.commit_ready.ensures.history ∙ c.in_ok-staged.ensures.staged.history) c.place-end.ensures.place
    (c.reply_for-reply.ensures ∙ ap (λ (n : ℕ). reply_to (commit_of c.args.intent) (n + 1)) c.cursor.ensures.cursor)
