use Rattle.std.proofs.Common.{◌∙◌, ap, refl, sym, subst}
use Rattle.kq_catalog_journal.specs.Limits.{AreFull}
use Rattle.kq_workers.specs.kq_engine.Shared.{PassView}
use Rattle.kq_program.specs.Headline.{first_status}
use Rattle.kq_program.proofs.Running.{RanSessions-all, first-of-sessions}
use Rattle.kq_program.proofs.program.run_opened.Goals as goal

pub returns-clause-run : goal.returns-clause-run
returns-clause-run g c = λ told names opened.
    let status = c.first_status.ensures ∙ ap first_status c.as_slice.ensures.value in
    let none = ap (λ (p : PassView). p.made) c.in-Ok.ensures.pass in
    let nothing = ap (λ (p : PassView). p.added) c.in-Ok.ensures.pass in
    let full = subst AreFull (sym c.in-Ok.ensures.limits) c.full.ensures in
    RanSessions-all c.args.workers _ _ c.in-Ok.shared.limits _ _ _ _ _ c.args.generate _ told names _ c.in-Ok-Ok.ensures' refl c.first.ensures.told c.first.ensures.source c.first.ensures.sink opened c.serve_beside_workers-pass.ensures.served none nothing c.place-place.ensures.sound c.export_count-count.ensures.exported full c.close-catalog.ensures.limits c.close-catalog.ensures.seen c.close-catalog.ensures.added c.close-catalog.ensures.made status

pub returns-clause-status : goal.returns-clause-status
returns-clause-status g c =
    let status = c.first_status.ensures ∙ ap first_status c.as_slice.ensures.value in
    (first-of-sessions _ _ _ _ _ _ _ _ c.serve_beside_workers-pass.ensures.served.all status).0

pub returns-clause-opened : goal.returns-clause-opened
returns-clause-opened g c =
    let status = c.first_status.ensures ∙ ap first_status c.as_slice.ensures.value in
    (first-of-sessions _ _ _ _ _ _ _ _ c.serve_beside_workers-pass.ensures.served.all status).1
