use Rattle.std.proofs.Common.{◌∙◌, arith}
use Rattle.kq_read_tokens.specs.declared.kind.TokenKind.TheVariants as kind
use Rattle.kq_read_control.proofs.SymbolLemmas.{one_more}
use Rattle.kq_read_control.proofs.symbols.read_symbols.Goals as goal

pub loop-index-preserved : goal.loop-index-preserved
loop-index-preserved c = c.in_ok-push.ensures.items ∙ one_more c.args.tokens.now.text c.args.tokens.now.tokens c.loop-index.index (record { kind = kind.Word; from = 0; to = 0 }) c.loop-index.list.items c.in_ok-symbol_at.field-0 (omega (arith, c.loop-index-test.true, c.len-index-end.ensures)) c.loop-index.invariant c.in_ok-symbol_at.ensures
