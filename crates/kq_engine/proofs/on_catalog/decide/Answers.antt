use Rattle.std.proofs.Common.{ℤ, ◌≡◌, arith, inr, length, subst, sym, take, rules, w64, to_z, of_z}
use Rattle.std.proofs.lemmas.Int.{to_z-of_z}
use Rattle.std.proofs.lemmas.List.{take_all}
use Rattle.kq_catalog_journal.specs.History.{History, cursor, log}
use Rattle.kq_catalog.specs.Intents.{commit_of}
use Rattle.kq_catalog.specs.Seen.{CatalogView, hist}
use Rattle.kq_engine_prepare.specs.Fits.{IsDue}
use Rattle.kq_engine_prepare.specs.Folds.{IsFoldingFor}
use Rattle.kq_engine_prepare.specs.Found.{IsCommitDue, IsFound}
use Rattle.kq_engine_prepare.specs.Merges.{IsSettled}
use Rattle.kq_engine.proofs.Acting.{Acts-answer}
use Rattle.kq_engine.proofs.Bringing.{Acts-fold, folding_made}
use Rattle.kq_engine_prepare.proofs.Wanting.{commit_finds, due_finds}
use Rattle.kq_engine.proofs.on_catalog.decide.Goals as goal

pub put_in-requires-clause-due : goal.put_in-requires-clause-due
put_in-requires-clause-due c =
    let command = c.args.work.now.command in
    let found = subst (IsFound c.present.result.now.limits c.present.result.now.history (to_z w64 (of_z w64 c.args.work.now.now)) command) c.in-Commits.is c.in_ok-reply.ensures.found in
    subst (λ (v : CatalogView). IsCommitDue v.limits (log v.history) command (commit_of c.in-Commits.offer.intent)) c.present.ensures found.due

pub put_in-requires-clause-begins : goal.put_in-requires-clause-begins
put_in-requires-clause-begins c =
    let command = c.args.work.now.command in
    let found = subst (IsFound c.present.result.now.limits c.present.result.now.history (to_z w64 (of_z w64 c.args.work.now.now)) command) c.in-Commits.is c.in_ok-reply.ensures.found in
    found.begins

pub returns-in-Says-clause-acts : goal.returns-in-Says-clause-acts
returns-in-Says-clause-acts c =
    let command = c.args.work.now.command in
    let now = c.args.catalog.now in
    let same : to_z w64 (of_z w64 c.args.work.now.now) ≡ c.args.work.now.now = search (rules, to_z-of_z) in
    let found = subst (IsFound c.present.result.now.limits c.present.result.now.history (to_z w64 (of_z w64 c.args.work.now.now)) command) c.in-Says.is c.in_ok-reply.ensures.found in
    let here = subst (λ (v : CatalogView). IsDue v.limits v.history (to_z w64 (of_z w64 c.args.work.now.now)) command c.in-Says.reply) c.present.ensures found.0 in
    Acts-answer now.limits (hist now) c.args.work.now (length (hist now)) c.place.result c.in-Says.reply c.place.ensures.place (inr (subst (λ (t : ℤ). IsDue now.limits (hist now) t command c.in-Says.reply) same here))
    (subst (λ (v : CatalogView). IsSettled (cursor v.history) c.in-Says.reply) c.present.ensures found.1)

pub returns-in-Says-clause-memory : goal.returns-in-Says-clause-memory
returns-in-Says-clause-memory c = λ wants.
    let command = c.args.work.now.command in
    let now = c.args.catalog.now in
    let moment = to_z w64 (of_z w64 c.args.work.now.now) in
    let found = subst (IsFound c.present.result.now.limits c.present.result.now.history moment command) c.in-Says.is c.in_ok-reply.ensures.found in
    let due = subst (λ (v : CatalogView). IsDue v.limits v.history moment command c.in-Says.reply) c.present.ensures found.0 in
    due_finds now.limits (hist now) moment command (subst (IsDue now.limits (hist now) moment command) wants due)

pub returns-in-Commits-clause-memory : goal.returns-in-Commits-clause-memory
returns-in-Commits-clause-memory c = λ wants.
    let command = c.args.work.now.command in
    let now = c.args.catalog.now in
    let found = subst (IsFound c.present.result.now.limits c.present.result.now.history (to_z w64 (of_z w64 c.args.work.now.now)) command) c.in-Commits.is c.in_ok-reply.ensures.found in
    commit_finds now.limits (hist now) command (commit_of c.in-Commits.offer.intent) (subst (λ (v : CatalogView). IsCommitDue v.limits (log v.history) command (commit_of c.in-Commits.offer.intent)) c.present.ensures found.due)

pub fold-requires : goal.fold-requires
fold-requires c =
    let command = c.args.work.now.command in
    let h = hist c.args.catalog.now in
    let f = c.in-Folds.folding in
    let found = subst (IsFound c.present.result.now.limits c.present.result.now.history (to_z w64 (of_z w64 c.args.work.now.now)) command) c.in-Folds.is c.in_ok-reply.ensures.found in
    let here = subst (λ (v : CatalogView). IsFoldingFor v.history command f) c.present.ensures found in
    let whole : take (length h) h ≡ h = take_all (length h) h (omega arith) in
    folding_made h (length h) command f (subst (λ (g : History). IsFoldingFor g command f) (sym whole) here)

pub returns-in_ok-fold-in-Folds-clause-acts : goal.returns-in_ok-fold-in-Folds-clause-acts
returns-in_ok-fold-in-Folds-clause-acts c =
    let now = c.args.catalog.now in
    let work = c.args.work.now in
    let h = hist now in
    let f = c.in-Folds.folding in
    let found = subst (IsFound c.present.result.now.limits c.present.result.now.history (to_z w64 (of_z w64 work.now)) work.command) c.in-Folds.is c.in_ok-reply.ensures.found in
    let here = subst (λ (v : CatalogView). IsFoldingFor v.history work.command f) c.present.ensures found in
    let whole : take (length h) h ≡ h = take_all (length h) h (omega arith) in
    Acts-fold now.limits h (hist c.fold.new.catalog) work (length h) f _ (omega arith) (subst (λ (g : History). IsFoldingFor g work.command f) (sym whole) here) c.in_ok-fold-in-Folds.ensures.puts

pub unreachable-requires : goal.unreachable-requires
unreachable-requires c =
    let command = c.args.work.now.command in
    subst (IsFound c.present.result.now.limits c.present.result.now.history (to_z w64 (of_z w64 c.args.work.now.now)) command) c.in-Pending.is c.in_ok-reply.ensures.found
