use Rattle.std.proofs.Common.{subst, sym}
use Rattle.kq_catalog_journal.specs.History.{History, log}
use Rattle.kq_engine.specs.Upkeeps.{IsThere, IsWanted}
use Rattle.kq_engine.proofs.Upholding.{there_later}
use Rattle.kq_engine.proofs.shared.Shared.prepare_upkeep.Goals as goal

pub find_upkeep-requires-clause-there : goal.find_upkeep-requires-clause-there
find_upkeep-requires-clause-there g c =
    let seen = c.look_for.new.pass.seen in
    let there = there_later c.args.pass.now.seen seen c.args.upkeep c.look_for.ensures.seen c.requires.there in
    subst (λ (h : History). IsThere (log h) c.args.upkeep) (sym c.in_ok-snapshot.ensures.history) there

pub find_upkeep-requires-clause-wanted : goal.find_upkeep-requires-clause-wanted
find_upkeep-requires-clause-wanted g c = subst (λ (h : History). IsWanted h c.args.upkeep) (sym c.in_ok-snapshot.ensures.history) c.in_ok-snapshot.ensures.wanted
