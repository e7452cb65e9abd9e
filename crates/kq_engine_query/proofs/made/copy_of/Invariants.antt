use Rattle.std.proofs.Common.{◌≡◌, take}
use Rattle.kq_engine_query.proofs.made.copy_of.Given as goal

abbrev pub invariant-loop-field : goal.invariant-loop-field
invariant-loop-field l = l.schema ≡ take l.field-index l.fields
