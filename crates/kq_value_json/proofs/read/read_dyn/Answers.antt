use Rattle.std.proofs.lemmas.Bool.{false≢true}
use Rattle.serde_json.proofs.Nesting.{depth-read}
use Rattle.kq_value_formats.specs.Json.{json_of}
use Rattle.kq_value_json.proofs.read.read_dyn.Goals as goal

pub dyn_from-requires : goal.dyn_from-requires
dyn_from-requires c = depth-read _ _ c.in-Ok.ensures.ok

pub returns-in-Ok : goal.returns-in-Ok
unfolding json_of
returns-in-Ok c = rw c.in-Ok.ensures.ok c.dyn_from.ensures

pub returns-else-is_memory : goal.returns-else-is_memory
unfolding json_of
returns-else-is_memory c = rw (c.in-Err.ensures.err (λ m. false≢true (c.if-is_memory.ensures.1 m)))
