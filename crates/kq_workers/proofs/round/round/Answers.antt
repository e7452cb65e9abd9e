use Rattle.std.proofs.Common.{◌∙◌, true, refl, subst, sym}
use mathlib.Core.List.{IsPrefix}
use Rattle.kq_workers.specs.declared.worker.Worker.{Worker}
use Rattle.kq_catalog_journal.specs.History.{History}
use Rattle.kq_workers.specs.Rounds.{HasChores}
use Rattle.kq_workers.proofs.Going.{Carries-looks, HasRound-refused, HasRound-chores}
use Rattle.kq_workers.proofs.Keeping.{AreKept-earlier}
use Rattle.kq_workers.proofs.round.round.Goals as goal

pub keep_up-requires-clause-of : goal.keep_up-requires-clause-of
keep_up-requires-clause-of g c = (Carries-looks c.args.post.now.actor c.args.worker.now.pass c.look.new.pass c.look.ensures.looks).of ∙ c.requires

pub returns-in-Ok-clause-round : goal.returns-in-Ok-clause-round
returns-in-Ok-clause-round g c =
    let post = c.args.post.now in
    let old = c.args.worker.now in
    let new = c.keep_up.new.worker in
    let looked : Worker = record { pass = c.look.new.pass; refused = c.look.new.self; number = old.number; short = old.short } in
    HasRound-chores post.shared.now.limits post.actor old looked new c.look.ensures.looks c.in-Ok.ensures.granted refl refl
    (subst (λ (h : History). HasChores post.shared.now.limits post.actor h looked new) c.in-Ok.ensures.history c.keep_up.ensures.chores)

pub returns-in-Ok-clause-kept : goal.returns-in-Ok-clause-kept
returns-in-Ok-clause-kept g c = λ none.
    let old = c.args.worker.now in
    let first = c.in-Ok.snapshot.history in
    let begins : IsPrefix old.pass.seen first = subst (IsPrefix old.pass.seen) (sym c.in-Ok.ensures.history) c.look.ensures.looks.seen in
    AreKept-earlier old.pass.seen first c.keep_up.new.worker.pass.seen begins (c.keep_up.ensures.kept none)

pub returns-in-Err-clause-round : goal.returns-in-Err-clause-round
returns-in-Err-clause-round g c =
    let post = c.args.post.now in
    let old = c.args.worker.now in
    let new : Worker = record { pass = c.look.new.pass; refused = c.look.new.self; number = old.number; short = true } in
    HasRound-refused post.shared.now.limits post.actor old new c.look.ensures.looks c.in-Err.ensures.refused refl refl
