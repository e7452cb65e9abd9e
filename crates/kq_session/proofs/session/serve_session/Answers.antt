use Rattle.std.proofs.Common.{Some, ap, length, refl, sym, ◌∙◌}
use Rattle.kq_session.specs.declared.receipt.Receipt.{Receipt}
use Rattle.kq_session.proofs.Exchanging.{Rises-none}
use Rattle.kq_session.proofs.Serving.{SessionComesTo-none}
use Rattle.kq_session.proofs.session.serve_session.Goals as goal

pub serve_script-requires-clause-reading : goal.serve_script-requires-clause-reading
serve_script-requires-clause-reading g c κs within = c.in-Ok.ensures.reading (g.S.Source.told c.args.session.now.parts.source)

pub returns-in-Err : goal.returns-in-Err
returns-in-Err g c = record {
  comes = SessionComesTo-none c.args.service.now.shared.now.limits c.args.actor _ c.requires.fresh c.requires.holds c.requires.unasked;
  short = c.in-Err.ensures.refused ∙ ap (λ rs. Some (length rs)) (sym c.requires.fresh);
  source = Rises-none _ _ _ refl (λ e. cc);
  sink = Rises-none _ _ _ refl (λ e. cc);
}
