use Rattle.kq_read_literals.proofs.Utf8Lemmas.{quoted_found}
use Rattle.kq_read_literals.proofs.strings.quoted_text.Goals as goal

pub text_of-requires : goal.text_of-requires
text_of-requires c = quoted_found c.args.bytes.now c.in_ok-text-in-len1-up.text.items c.requires.form c.requires.utf8 c.in_ok-text-in-len1-up.ensures
