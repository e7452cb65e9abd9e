use Rattle.std.proofs.Common.{sym, subst}
use Rattle.kq_read_tokens.specs.Reading.{IsTokenOrNone}
use Rattle.kq_read_tokens.proofs.TokenLemmas.{token_right}
use Rattle.kq_read_tokens.proofs.read.token.Goals as goal

pub returns : goal.returns
returns c = subst (λ o. IsTokenOrNone o c.args.bytes.now) (sym c.scan.ensures) (token_right c.args.bytes.now)
