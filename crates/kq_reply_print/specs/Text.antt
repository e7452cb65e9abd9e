-- The printed form of a reply.
use Rattle.std.specs.Prelude.{ℕ, List, [], ◌++◌, codes}
use Rattle.kq_value_formats.specs.Cells.{escaped}
use Rattle.kq_store_rows.specs.declared.cause.Why.{Why}
use Rattle.kq_store_rows.specs.declared.cause.Why.TheVariants.{Form, Source, Query, Body, Schema}
pub use Rattle.kq_store_rows.specs.Causes.{cause_text}
pub use Rattle.kq_reply.specs.Answer.{counted}
use Rattle.kq_reply.specs.declared.refusal.Refusal.{Refusal}
use Rattle.kq_reply.specs.declared.refusal.Refusal.TheVariants.{Memory, Syntax, Deep, TooLong, Overflow, Full, WideRow, BadTags, Unsupported, Unknown, Mistyped, Exists, Cycle, BadView, BadPolicy, PolicyFailed, NotText, NoExporter, ArtefactFault, BadExport}
use Rattle.kq_reply.specs.declared.reply.Reply.{Reply}
use Rattle.kq_reply.specs.declared.reply.Reply.TheVariants.{Done, Kept, Ingested, Skipped, Folded, Merged, Nothing, Rows, Exporting, Exported, Refused}

abbrev pub why_text : Why → List ℕ
why_text Form = codes "Form"
why_text Source = codes "Source"
why_text Query = codes "Query"
why_text Body = codes "Body"
why_text Schema = codes "Schema"

-- what stands after `refused`
abbrev pub refusal_text : Refusal → List ℕ
refusal_text Memory = codes "Memory"
refusal_text (Syntax at) = counted (codes "Syntax at ") at
refusal_text (Deep at) = counted (codes "Deep at ") at
refusal_text (TooLong bytes) = counted (codes "TooLong bytes ") bytes
refusal_text (Overflow stage) = counted (codes "Overflow stage ") stage
refusal_text (Full limit) = counted (codes "Full limit ") limit
refusal_text (WideRow row) = counted (codes "WideRow row ") row
refusal_text (BadTags at) = counted (codes "BadTags at ") at
refusal_text (Unsupported at) = counted (codes "Unsupported at ") at
refusal_text (Unknown at) = counted (codes "Unknown at ") at
refusal_text (Mistyped at) = counted (codes "Type at ") at
refusal_text (Exists at) = counted (codes "Exists at ") at
refusal_text (Cycle table) = codes "Cycle " ++ escaped table
refusal_text (BadView at) = counted (codes "BadView at ") at
refusal_text (BadPolicy entry why) = counted (codes "BadPolicy entry ") entry ++ codes " " ++ why_text why
refusal_text (PolicyFailed target cause) = codes "PolicyFailed target " ++ escaped target ++ codes " cause " ++ cause_text cause
refusal_text (NotText at) = counted (codes "NotText at ") at
refusal_text NoExporter = codes "NoExporter"
refusal_text ArtefactFault = codes "ArtefactFault"
refusal_text (BadExport at) = counted (codes "BadExport at ") at

-- the words of a reply's one line; an answer has lines of its own
abbrev pub words_of : Reply → List ℕ
words_of (Done cursor) = counted (codes "done ") cursor
words_of (Kept cursor) = counted (codes "kept ") cursor
words_of (Ingested cursor rows) = counted (codes "ingested ") cursor ++ counted (codes " rows ") rows
words_of (Skipped cursor) = counted (codes "skipped ") cursor
words_of (Folded cursor) = counted (codes "folded ") cursor
words_of (Merged extents) = counted (codes "merged ") extents
words_of Nothing = codes "nothing"
words_of (Rows text) = []
words_of Exporting = codes "exporting"
words_of (Exported from to rows) = counted (codes "exported ") from ++ counted (codes " ") to ++ counted (codes " rows ") rows
words_of (Refused refusal) = codes "refused " ++ refusal_text refusal

-- the lines, each with an LF at its end
abbrev pub lines_of : Reply → List ℕ
lines_of (Rows text) = text
lines_of reply = words_of reply ++ codes "\n"

-- the lines, and one LF more
abbrev pub text_of : Reply → List ℕ
text_of reply = lines_of reply ++ codes "\n"
