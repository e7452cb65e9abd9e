use Rattle.std.proofs.Common.{◌≡◌, ◌⊎◌, refl, sym, subst}
use mathlib.Core.List.{IsPrefix}
use Rattle.kq_lock.proofs.Beginnings.{IsPrefix-trans}
use Rattle.kq_catalog_journal.specs.History.{History}
use Rattle.kq_reply.specs.declared.reply.Reply.{Reply}
use Rattle.kq_export_interface.specs.Due.{AnswersHolding, reply_of}
use Rattle.kq_session.proofs.Blocks.{GoesOn-asked}
use Rattle.kq_session.proofs.answer.export.Goals as goal

pub export-requires : goal.export-requires
export-requires g c =
    subst (IsPrefix (g.E.Exporter.told c.args.exporter.now).seen) (sym c.in-Ok.ensures.history)
    (IsPrefix-trans (g.E.Exporter.told c.args.exporter.now).seen c.args.pass.now.seen c.snapshot.new.pass.seen c.requires.behind c.snapshot.ensures.seen)

pub returns-in-Ok : goal.returns-in-Ok
returns-in-Ok g c =
    let e = g.E.Exporter.told c.args.exporter.now in
    let now = g.E.Exporter.told c.export.new.self in
    let seen = c.snapshot.new.pass.seen in
    let answers = c.export.ensures.answers in
    let over = subst (λ (h : History). AnswersHolding e.serves h e.holding now.holding c.args.asked.now (reply_of c.export.result)) c.in-Ok.ensures.history answers.answers in
    record {
      seen = c.snapshot.ensures.seen;
      pass = c.snapshot.ensures.pass;
      place = c.seen.ensures;
      own = refl;
      answers = subst (λ (r : Reply). AnswersHolding e.serves seen e.holding now.holding c.args.asked.now r) (sym c.answered.ensures) over;
      exporter = GoesOn-asked c.args.pass.now.seen seen e now answers.serves c.requires.behind c.snapshot.ensures.seen
          (subst (λ (h : History). (now.seen ≡ e.seen) ⊎ (now.seen ≡ h)) c.in-Ok.ensures.history c.export.ensures.seen);
    }
