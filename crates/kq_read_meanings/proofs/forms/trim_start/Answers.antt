use Rattle.kq_read_meanings.proofs.White.{boundary_behind_white}
use Rattle.kq_read_meanings.proofs.forms.trim_start.Goals as goal

pub range_from-requires : goal.range_from-requires
range_from-requires c = rw (c.leading_white.ensures, c.as_bytes.ensures.value) (λ some. boundary_behind_white c.args.text.now c.utf8.text)
