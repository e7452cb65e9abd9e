use Rattle.std.proofs.Common.{sym, ◌∙◌}
use Rattle.kq_value_formats.proofs.NumberLemmas.{long_of-parsed, long_of-plus, plus_first, plus_not_first}
use Rattle.kq_value_formats.proofs.numbers.read_long.Goals as goal

pub returns-then-starts_with : goal.returns-then-starts_with
returns-then-starts_with c = long_of-plus c.args.text.now (plus_first c.args.text.now (rw c.as_bytes.ensures.value at (sym c.starts_with.ensures.value ∙ c.if-starts_with.true)))

pub returns : goal.returns
returns c =
    let plain = plus_not_first c.args.text.now (rw c.as_bytes.ensures.value at (sym c.starts_with.ensures.value ∙ c.if-starts_with.false)) in
    c.ok.ensures.value ∙ long_of-parsed c.args.text.now c.parse.result c.parse.ensures.value.0 plain
