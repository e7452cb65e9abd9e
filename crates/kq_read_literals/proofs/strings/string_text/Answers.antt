use Rattle.kq_read_tokens.specs.declared.kind.TokenKind.TheVariants as kind
use Rattle.kq_read_literals.specs.Strings.{string_text_of}
use Rattle.kq_read_literals.proofs.StandsForLemmas.{stands_if_ok}
use Rattle.kq_read_literals.proofs.strings.string_text.Goals as goal

pub returns-in-String-clause-stands_for : goal.returns-in-String-clause-stands_for
unfolding string_text_of
returns-in-String-clause-stands_for c = rw c.in-String.is (stands_if_ok c.quoted_text.result kind.String c.args.bytes.now (rw c.in-String.is at c.requires.form) c.quoted_text.ensures)

pub returns-in-VerbatimString-clause-stands_for : goal.returns-in-VerbatimString-clause-stands_for
unfolding string_text_of
returns-in-VerbatimString-clause-stands_for c = rw c.in-VerbatimString.is (stands_if_ok c.verbatim_text.result kind.VerbatimString c.args.bytes.now (rw c.in-VerbatimString.is at c.requires.form) c.verbatim_text.ensures)

pub returns-in-LongString-clause-stands_for : goal.returns-in-LongString-clause-stands_for
unfolding string_text_of
returns-in-LongString-clause-stands_for c = rw c.in-LongString.is (stands_if_ok c.long_text.result kind.LongString c.args.bytes.now (rw c.in-LongString.is at c.requires.form) c.long_text.ensures)
