use Rattle.std.proofs.Common.{◌≡◌, take, drop, refl, sym, ◌∙◌}
use Rattle.kq_value_formats.specs.Datetimes.{is_fraction, number_at}
use Rattle.kq_value_time.proofs.DatetimeLemmas.{clock_missing, drop_to, part_missing, parts_found, take_to, time_long}
use Rattle.kq_value_time.proofs.datetime.time_ticks.Goals as goal

pub returns-in_err-fraction-clause-value : goal.returns-in_err-fraction-clause-value
returns-in_err-fraction-clause-value c =
    let clock = c.split_at.result.0.now in
    let rest = c.split_at.result.1.now in
    let front : clock ≡ take 8 c.args.text.now = c.split_at.ensures.front ∙ take_to 8 c.min.result c.args.text.now c.min.ensures in
    let back : rest ≡ drop 8 c.args.text.now = c.split_at.ensures.back ∙ drop_to 8 c.min.result c.args.text.now c.min.ensures in
    let long = time_long c.args.text.now clock rest (number_at clock 0 2) (number_at clock 3 2) (number_at clock 6 2) (sym c.if-fits.ensures) front back (sym c.if-not-fits.ensures) refl refl refl in
    c.from_residual.ensures ∙ part_missing (is_fraction rest) _ _ _ c.in_err-fraction.ensures.value ∙ sym long

pub returns-in_err-clock_ticks-clause-value : goal.returns-in_err-clock_ticks-clause-value
returns-in_err-clock_ticks-clause-value c =
    let clock = c.split_at.result.0.now in
    let rest = c.split_at.result.1.now in
    let front : clock ≡ take 8 c.args.text.now = c.split_at.ensures.front ∙ take_to 8 c.min.result c.args.text.now c.min.ensures in
    let back : rest ≡ drop 8 c.args.text.now = c.split_at.ensures.back ∙ drop_to 8 c.min.result c.args.text.now c.min.ensures in
    let long = time_long c.args.text.now clock rest _ _ _ (sym c.if-fits.ensures) front back (sym c.if-not-fits.ensures) c.number_at-hours.ensures.value c.number_at-minutes.ensures.value c.number_at-seconds.ensures.value in
    c.from_residual-in_err-clock_ticks.ensures ∙ clock_missing (is_fraction rest) _ _ _ c.in_err-clock_ticks.ensures.value ∙ sym long

pub returns-clause-value : goal.returns-clause-value
returns-clause-value c =
    let clock = c.split_at.result.0.now in
    let rest = c.split_at.result.1.now in
    let front : clock ≡ take 8 c.args.text.now = c.split_at.ensures.front ∙ take_to 8 c.min.result c.args.text.now c.min.ensures in
    let back : rest ≡ drop 8 c.args.text.now = c.split_at.ensures.back ∙ drop_to 8 c.min.result c.args.text.now c.min.ensures in
    let long = time_long c.args.text.now clock rest _ _ _ (sym c.if-fits.ensures) front back (sym c.if-not-fits.ensures) c.number_at-hours.ensures.value c.number_at-minutes.ensures.value c.number_at-seconds.ensures.value in
    parts_found (is_fraction rest) _ _ _ _ _ c.in_ok-clock_ticks.ensures.value c.in_ok-fraction.ensures.value ∙ sym long
