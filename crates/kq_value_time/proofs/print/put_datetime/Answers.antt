use Rattle.std.proofs.Common.{◌≡◌, ◌≤◌, ◌∙◌, sym, subst, arith, length, take, unsigned_abs}
use Rattle.std.specs.Str.{IsUtf8}
use Rattle.std.proofs.lemmas.Int.{ints}
use Rattle.std.proofs.lemmas.List.{take_all}
use Rattle.kq_value_formats.specs.Ticks.{day_of}
use Rattle.kq_value_time.proofs.AsciiLemmas.{IsUtf8-datetime_text}
use Rattle.kq_value_time.proofs.PrintLemmas.{printed_datetime, six_pieces}
use Rattle.kq_value_time.proofs.print.put_datetime.Goals as goal

pub returns-clause-text : goal.returns-clause-text
returns-clause-text c =
    let ticks : c.unsigned_abs-ticks.result ≡ unsigned_abs c.args.ticks = omega (arith, ints, c.unsigned_abs-ticks.ensures) in
    let day : c.day_of.result ≡ day_of c.args.ticks = omega (arith, ints, c.day_of.ensures.value) in
    let full : length c.put_byte.new.out ≤ c.put_byte.result = omega arith in
    let whole : take c.put_byte.result c.put_byte.new.out ≡ c.put_byte.new.out = take_all c.put_byte.result c.put_byte.new.out full in
    printed_datetime c.args.ticks c.date_of-date.result c.day_of.result c.unsigned_abs-ticks.result c.put_byte.new.out day ticks c.date_of-date.ensures
    (six_pieces _ _ _ _ _ _ _ _ _ _ _ _ c.put_date-at.ensures.text c.put_byte-at.ensures.text c.put_clock-at.ensures.text c.put_byte-at-2.ensures.text c.put_padded-at.ensures.text (sym whole ∙ c.put_byte.ensures.text))

pub returns-clause-utf8 : goal.returns-clause-utf8
returns-clause-utf8 c = subst IsUtf8 (sym (returns-clause-text c)) (IsUtf8-datetime_text c.args.ticks)
