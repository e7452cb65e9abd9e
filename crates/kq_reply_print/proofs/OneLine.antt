-- A reply that is no answer has one line.
use Rattle.std.proofs.Common.{◌≡◌, List, ℕ, ◌++◌, codes, refl}
use Rattle.kq_reply.specs.declared.reply.Reply.{Reply}
use Rattle.kq_reply.specs.declared.reply.Reply.TheVariants.{Done, Kept, Ingested, Skipped, Folded, Merged, Nothing, Rows, Exporting, Exported, Refused}
use Rattle.kq_reply_print.specs.Text.{words_of, lines_of}

pub one-line : (reply : Reply) → ((text : List ℕ) → reply ≡ Rows text → ⊥) → words_of reply ++ codes "\n" ≡ lines_of reply
one-line (Done cursor) other = refl
one-line (Kept cursor) other = refl
one-line (Ingested cursor rows) other = refl
one-line (Skipped cursor) other = refl
one-line (Folded cursor) other = refl
one-line (Merged extents) other = refl
one-line Nothing other = refl
one-line (Rows text) other = absurd (other text refl)
one-line Exporting other = refl
one-line (Exported from to rows) other = refl
one-line (Refused refusal) other = refl
