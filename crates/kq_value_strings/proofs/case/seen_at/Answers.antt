use Rattle.std.proofs.Common.{sym, ◌∙◌}
use Rattle.std.specs.Char.{to_ascii_lowercase}
use Rattle.std.proofs.Math.ListN.{get_or-map}
use Rattle.kq_value_strings.proofs.case.seen_at.Goals as goal

pub returns-in-Ignored : goal.returns-in-Ignored
returns-in-Ignored c = rw c.in-Ignored.is (c.to_ascii_lowercase.ensures.value ∙ sym (get_or-map to_ascii_lowercase c.args.text.now c.args.place 0))
