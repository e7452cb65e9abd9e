use Rattle.kq_value_strings.proofs.Cases.{first-either}
use Rattle.kq_value_strings.proofs.case.find_byte.Goals as goal

pub returns-in-Ignored : goal.returns-in-Ignored
returns-in-Ignored c =
    rw c.in-Ignored.is (first-either c.args.byte c.args.text.now c.memchr2.result (rw (c.to_ascii_lowercase.ensures.value, c.to_ascii_uppercase.ensures.value) at c.memchr2.ensures))
