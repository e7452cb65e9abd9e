use Rattle.std.proofs.Common.{get_or, refl}
use Rattle.kq_read_control.proofs.SymbolLemmas.{symbol_is}
use Rattle.kq_read_literals.proofs.Cuts.{string_bytes_utf8}
use Rattle.kq_read_tokens.specs.declared.kind.TokenKind.TheVariants as kind
use Rattle.kq_read_literals.proofs.TokenForms.{bytes_have_form}
use Rattle.kq_read_control.proofs.symbols.symbol_at.Goals as goal

pub kind_of-requires-clause-form : goal.kind_of-requires-clause-form
kind_of-requires-clause-form c = bytes_have_form c.args.tokens.now.text c.args.tokens.now.tokens c.as_slice.result.now c.args.index _ c.bytes_of.result.now _ c.requires.read c.requires.within c.as_slice.ensures.tokens refl c.bytes_of.ensures

pub kind_of-requires-clause-utf8 : goal.kind_of-requires-clause-utf8
kind_of-requires-clause-utf8 c = λ string. string_bytes_utf8 c.args.tokens.now.text c.args.tokens.now.tokens c.args.index (get_or c.as_slice.result.now c.args.index (record { kind = kind.Word; from = 0; to = 0 })) c.bytes_of.result.now _ c.requires.utf8 c.requires.read c.requires.within c.bytes_of.ensures string

pub returns : goal.returns
returns c = symbol_is c.args.tokens.now.text c.args.tokens.now.tokens c.as_slice.result.now c.args.index _ c.bytes_of.result.now c.in_ok-kind.kind c.requires.within c.as_slice.ensures.tokens c.in_ok-kind.ensures c.bytes_of.ensures
