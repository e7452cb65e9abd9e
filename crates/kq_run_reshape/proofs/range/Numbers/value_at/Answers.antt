use Rattle.std.proofs.Common.{FitsSigned, rules, sym, subst, w64}
use Rattle.kq_run_reshape.proofs.Ranging.{number_is, number_back, number_as-moment, number_as-span, number_as-long}
use Rattle.kq_run_reshape.proofs.range.Numbers.value_at.Goals as goal

pub overflow_cast-number-2 : goal.overflow_cast-number-2
overflow_cast-number-2 c =
    let n = c.args.self.now in
    let from : FitsSigned w64 n.from = search rules in
    let step : FitsSigned w64 n.step = search rules in
    subst (FitsSigned w64) (sym (number_is c.from.result c.from-2.result n.from n.step c.args.i c.from.ensures c.from-2.ensures c.requires.few from step c.requires.fits)) c.requires.fits

pub returns-in-Moment : goal.returns-in-Moment
returns-in-Moment c =
    let n = c.args.self.now in
    let from : FitsSigned w64 n.from = search rules in
    let step : FitsSigned w64 n.step = search rules in
    number_as-moment c.args.ty _ _ c.in-Moment.is (number_back c.from.result c.from-2.result n.from n.step c.args.i c.from.ensures c.from-2.ensures c.requires.few from step c.requires.fits)

pub returns-in-Span : goal.returns-in-Span
returns-in-Span c =
    let n = c.args.self.now in
    let from : FitsSigned w64 n.from = search rules in
    let step : FitsSigned w64 n.step = search rules in
    number_as-span c.args.ty _ _ c.in-Span.is (number_back c.from.result c.from-2.result n.from n.step c.args.i c.from.ensures c.from-2.ensures c.requires.few from step c.requires.fits)

pub returns-in_default : goal.returns-in_default
returns-in_default c =
    let n = c.args.self.now in
    let from : FitsSigned w64 n.from = search rules in
    let step : FitsSigned w64 n.step = search rules in
    number_as-long c.args.ty _ _ c.in_default.not-Moment c.in_default.not-Span
    (number_back c.from.result c.from-2.result n.from n.step c.args.i c.from.ensures c.from-2.ensures c.requires.few from step c.requires.fits)
