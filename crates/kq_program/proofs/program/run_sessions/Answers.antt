use Rattle.std.proofs.Common.{◌∙◌, arith, subst}
use Rattle.kq_world.specs.Outside.{Contents}
use Rattle.kq_program.specs.Headline.{RunsProgram}
use Rattle.kq_program.proofs.Opening.{OpensFeeds-all}
use Rattle.kq_program.proofs.Running.{AreOpened-length}
use Rattle.kq_program.proofs.program.run_sessions.Goals as goal

pub run_opened-requires-clause-few : goal.run_opened-requires-clause-few
run_opened-requires-clause-few g c κs within = let same = AreOpened-length _ _ _ c.in-Ok.ensures.opened in omega (arith, same, c.requires.few)

pub returns-in-Ok-clause-run : goal.returns-in-Ok-clause-run
returns-in-Ok-clause-run g c =
    let of_feed = g.W.World.feed_contents c.args.world.now in
    let options = c.args.options in
    subst (λ (first : Contents). RunsProgram options.workers options.generate options.feeds.items first of_feed c.run_opened.result) c.in-Ok.ensures.first (c.run_opened.ensures.run of_feed options.feeds.items c.in-Ok.ensures.opened)

pub returns-in-Ok-clause-opens : goal.returns-in-Ok-clause-opens
returns-in-Ok-clause-opens g c =
    let ran = c.run_opened.ensures in
    let feeds = c.in-Ok.ensures in
    OpensFeeds-all _ _ _ _ _ c.run_opened.result (ran.asked ∙ feeds.asked) (ran.faults ∙ feeds.cause) ran.opened
