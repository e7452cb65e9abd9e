use Rattle.std.proofs.Common.{append_assoc}
use Rattle.std.proofs.lemmas.Result.{on_ok_weaker}
use Rattle.kq_script_generated.proofs.script.put_ingestion.Goals as goal

pub returns : goal.returns
returns c = on_ok_weaker c.put_rows.result (λ put. rw put (rw c.in_ok-put_command.ensures (simp append_assoc))) c.put_rows.ensures
