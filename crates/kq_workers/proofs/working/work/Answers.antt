use Rattle.std.proofs.Common.{◌∙◌, ap, subst, sym}
use Rattle.kq_engine.specs.declared.upkeep.Upkeep.TheVariants as upkeeps
use Rattle.kq_workers.specs.declared.worker.Worker.{Worker}
use Rattle.kq_workers.specs.Kept.{AreKept}
use Rattle.kq_workers.specs.Rounds.{HasRounds, Works}
use Rattle.kq_workers.proofs.Going.{Works-rounds}
use Rattle.kq_workers.proofs.working.work.Goals as goal

pub go_rounds-requires : goal.go_rounds-requires
go_rounds-requires g c = ap (λ (w : Worker). w.pass.of) c.begun-worker.ensures ∙ c.requires

pub returns-clause-pass : goal.returns-clause-pass
returns-clause-pass g c =
    let limits = c.args.shared.now.limits in
    let new = c.go_rounds.new.worker in
    let rounds = subst (λ (w : Worker). HasRounds limits c.args.actor w new) c.begun-worker.ensures c.go_rounds.ensures.rounds in
    subst (λ n. Works limits c.args.actor c.args.pass new.pass n new.short) (sym c.count-refused.ensures) (Works-rounds limits c.args.actor c.args.pass new rounds)

pub returns-clause-views : goal.returns-clause-views
returns-clause-views g c = λ none view there. subst (λ (w : Worker). AreKept w.pass.seen c.go_rounds.new.worker.pass.seen) c.begun-worker.ensures (c.go_rounds.ensures.kept none) (upkeeps.Fold view) there

pub returns-clause-tables : goal.returns-clause-tables
returns-clause-tables g c = λ none table there. subst (λ (w : Worker). AreKept w.pass.seen c.go_rounds.new.worker.pass.seen) c.begun-worker.ensures (c.go_rounds.ensures.kept none) (upkeeps.Merge table) there
