-- Answers as they are printed.
use Rattle.std.specs.Prelude.{◌≡◌, ℕ, List}
use Rattle.kq_store_rows.specs.declared.answer.Answer.{Answer}
use Rattle.kq_reply.specs.declared.reply.Reply.{Reply}
use Rattle.kq_reply.specs.declared.reply.Reply.TheVariants as replies
use Rattle.kq_reply.specs.Answer.{Prints}

-- the reply prints an answer that is so
pub record PrintsAnswer (IsSo : Answer → Type 0) (reply : Reply) : Type 0 where
  pub answer : Answer
  pub given : IsSo answer
  pub text : List ℕ
  pub printed : Prints answer text
  pub is : reply ≡ replies.Rows text
