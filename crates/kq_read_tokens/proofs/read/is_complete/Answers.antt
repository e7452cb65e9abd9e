use Rattle.std.proofs.Common.{sym, ◌∙◌}
use Rattle.kq_read_tokens.proofs.ReadingLemmas.{ends_last, complete_marked, complete_unmarked}
use Rattle.kq_read_tokens.proofs.read.is_complete.Goals as goal

pub returns-then-is_body_mark : goal.returns-then-is_body_mark
returns-then-is_body_mark c =
    complete_marked c.args.text.now c.args.list.now c.is_ingestion.result c.is_ingestion.ensures (ends_last c.args.list.now _ c.in-len1-up.len_at_least ∙ sym c.is_body_mark.ensures ∙ c.if-is_body_mark.true)

pub returns-else-is_body_mark : goal.returns-else-is_body_mark
returns-else-is_body_mark c =
    c.if-is_body_mark.false ∙ sym (complete_unmarked c.args.text.now c.args.list.now (ends_last c.args.list.now _ c.in-len1-up.len_at_least ∙ sym c.is_body_mark.ensures ∙ c.if-is_body_mark.false))
