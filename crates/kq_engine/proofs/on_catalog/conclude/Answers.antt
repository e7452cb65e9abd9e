use Rattle.std.proofs.Common.{◌≡◌, ℕ, OnErr, true, drop, length, take, ap, subst, sym, ◌∙◌}
use Rattle.kq_catalog_journal.specs.declared.limits.Limits.{Limits}
use Rattle.kq_catalog_journal.specs.History.{log}
use Rattle.kq_catalog.specs.Seen.{CatalogView, hist}
use Rattle.kq_reply.specs.declared.refusal.Refusal.TheVariants as refusals
use Rattle.kq_reply.specs.declared.reply.Reply.TheVariants as replies
use Rattle.kq_engine.specs.declared.work.Outcome.{Outcome}
use Rattle.kq_engine.specs.Acts.{Acts, outcome_of}
use Rattle.kq_engine_prepare.specs.Found.{IsReady, is_as_read}
use Rattle.kq_engine_prepare.specs.Folds.{IsFoldingFor}
use Rattle.kq_engine_prepare.specs.Merges.{IsMergingFor}
use Rattle.kq_engine.proofs.Advancing.{Advances-acts, Advances-decided}
use Rattle.kq_engine.proofs.Bringing.{Acts-fold, folding_made}
use Rattle.kq_engine_prepare.proofs.Lasting.{Offered-still}
use Rattle.kq_engine.proofs.Uniting.{Acts-merge}
use Rattle.kq_engine.proofs.on_catalog.conclude.Goals as goal

pub commit-requires-clause-due : goal.commit-requires-clause-due
commit-requires-clause-due c =
    let now = c.args.catalog.now in
    let work = c.args.work.now in
    let ready = subst (IsReady now.limits (take c.args.place (hist now)) work.now work.command) c.in-Commits.is c.requires.ready in
    let still : is_as_read (drop c.args.place (hist now)) (log (hist now)) c.in-Commits.offer.unless ≡ true =
    ap (λ (v : CatalogView). is_as_read (drop c.args.place (hist v)) (log (hist v)) c.in-Commits.offer.unless) (sym c.present.ensures) ∙ sym c.is_as_read.ensures ∙ c.if-is_as_read.true in
    Offered-still now.limits (hist now) c.args.place work.command c.in-Commits.offer ready.0 ready.1 still

pub fold-requires : goal.fold-requires
fold-requires c =
    let now = c.args.catalog.now in
    let work = c.args.work.now in
    let ready : IsFoldingFor (take c.args.place (hist now)) work.command c.in-Folds.folding =
    subst (IsReady now.limits (take c.args.place (hist now)) work.now work.command) c.in-Folds.is c.requires.ready in
    folding_made (hist now) c.args.place work.command c.in-Folds.folding ready

pub returns-then-is_as_read-clause-step : goal.returns-then-is_as_read-clause-step
returns-then-is_as_read-clause-step c =
    let old = hist c.args.catalog.now in
    let within = c.requires.within in
    Advances-decided c.args.catalog.now.limits old (hist c.commit.new.catalog) c.args.work.now c.args.place (outcome_of (hist c.commit.new.catalog) c.commit.result) within c.commit.ensures.acts

pub returns-else-is_as_read-clause-step : goal.returns-else-is_as_read-clause-step
returns-else-is_as_read-clause-step c =
    let old = hist c.args.catalog.now in
    let within = c.requires.within in
    Advances-decided c.args.catalog.now.limits old (hist c.decide.new.catalog) c.args.work.now c.args.place (outcome_of (hist c.decide.new.catalog) c.decide.result) within c.decide.ensures.acts

pub returns-in-Ok-clause-step : goal.returns-in-Ok-clause-step
returns-in-Ok-clause-step c =
    let now = c.args.catalog.now in
    let old = hist now in
    let work = c.args.work.now in
    let within = c.requires.within in
    let ready : IsMergingFor (take c.args.place old) work.command c.in-Merges.merging = subst (IsReady now.limits (take c.args.place old) work.now work.command) c.in-Merges.is c.requires.ready in
    let new = hist c.merge.new.catalog in
    Advances-acts now.limits old new work c.args.place c.in-Ok.outcome within
    (Acts-merge now.limits old new work c.args.place c.in-Merges.merging c.in-Ok.outcome within ready c.in-Ok.ensures.puts)

pub returns-in-Err-Moved-clause-step : goal.returns-in-Err-Moved-clause-step
returns-in-Err-Moved-clause-step c =
    let now = c.args.catalog.now in
    let old = hist now in
    let work = c.args.work.now in
    let within = c.requires.within in
    let mid = c.merge.new.catalog in
    let new = hist c.decide-in-Err-Moved.new.catalog in
    let outcome = outcome_of new c.decide-in-Err-Moved.result in
    let acts = subst (λ (v : CatalogView). Acts mid.limits (hist v) new work (length (hist v)) outcome) c.in-Err-Moved.ensures.kept c.decide-in-Err-Moved.ensures.acts in
    Advances-decided now.limits old new work c.args.place outcome within (subst (λ (l : Limits). Acts l old new work (length old) outcome) c.in-Err-Moved.ensures.limits acts)

pub returns-in_ok-fold-in-Folds-clause-step : goal.returns-in_ok-fold-in-Folds-clause-step
returns-in_ok-fold-in-Folds-clause-step c =
    let now = c.args.catalog.now in
    let old = hist now in
    let work = c.args.work.now in
    let within = c.requires.within in
    let ready : IsFoldingFor (take c.args.place old) work.command c.in-Folds.folding = subst (IsReady now.limits (take c.args.place old) work.now work.command) c.in-Folds.is c.requires.ready in
    let new = hist c.fold.new.catalog in
    Advances-acts now.limits old new work c.args.place _ within
    (Acts-fold now.limits old new work c.args.place c.in-Folds.folding _ within ready c.in_ok-fold-in-Folds.ensures.puts)

pub returns-in-Pending-clause-step : goal.returns-in-Pending-clause-step
returns-in-Pending-clause-step c =
    let old = hist c.args.catalog.now in
    let within = c.requires.within in
    Advances-decided c.args.catalog.now.limits old (hist c.decide-in-Pending.new.catalog) c.args.work.now c.args.place (outcome_of (hist c.decide-in-Pending.new.catalog) c.decide-in-Pending.result) within c.decide-in-Pending.ensures.acts

pub returns-in-Err-Moved-clause-kept : goal.returns-in-Err-Moved-clause-kept
returns-in-Err-Moved-clause-kept c = subst (λ (v : CatalogView). OnErr c.decide-in-Err-Moved.result (c.decide-in-Err-Moved.new.catalog ≡ v)) c.in-Err-Moved.ensures.kept c.decide-in-Err-Moved.ensures.kept

merged_memory : (extents : ℕ) → replies.Merged extents ≡ replies.Refused refusals.Memory → ⊥
merged_memory extents e = cc

pub returns-in-Ok-clause-memory : goal.returns-in-Ok-clause-memory
returns-in-Ok-clause-memory c = λ wants. let is = ap (λ (o : Outcome). o.reply) c.in-Ok.ensures.puts.is in absurd (merged_memory _ (sym is ∙ wants))
