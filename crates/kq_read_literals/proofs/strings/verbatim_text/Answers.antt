use Rattle.kq_read_literals.proofs.Utf8Lemmas.{verbatim_found}
use Rattle.kq_read_literals.proofs.strings.verbatim_text.Goals as goal

pub text_of-requires : goal.text_of-requires
text_of-requires c = verbatim_found c.args.bytes.now c.in_ok-text-in-len2-up.text.items c.requires.form c.requires.utf8 c.in_ok-text-in-len2-up.ensures
