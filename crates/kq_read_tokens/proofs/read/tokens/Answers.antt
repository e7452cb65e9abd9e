use Rattle.std.proofs.Common.{All, sym, subst}
use Rattle.kq_read_tokens.specs.Lexed.{StandsIn}
use Rattle.kq_read_tokens.specs.Reading.{AreTokens}
use Rattle.kq_read_tokens.proofs.ReadingLemmas.{tokens_stand}
use Rattle.kq_read_tokens.proofs.read.tokens.Goals as goal

pub new-requires : goal.new-requires
new-requires c =
    let are = subst (λ text. AreTokens text c.in_ok-list.list.items) c.as_bytes.ensures.value c.in_ok-list.ensures in
    subst (λ text. All (StandsIn text) c.in_ok-list.list.items) (sym c.in_ok-text.ensures) (tokens_stand c.args.text.now c.in_ok-list.list.items are)
