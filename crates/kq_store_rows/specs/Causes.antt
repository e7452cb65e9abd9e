-- Causes as they are told.
use Rattle.std.specs.Prelude.{ℕ, List, ◌++◌, codes, decimal}
use Rattle.kq_store_rows.specs.declared.cause.Cause.{Cause}
use Rattle.kq_store_rows.specs.declared.cause.Cause.TheVariants as cause

abbrev pub cause_text : Cause → List ℕ
cause_text (cause.Overflow stage) = codes "Overflow stage " ++ decimal stage
cause_text (cause.Full limit) = codes "Full limit " ++ decimal limit
