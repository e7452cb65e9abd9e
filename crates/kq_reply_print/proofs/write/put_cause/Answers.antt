use Rattle.std.proofs.Common.{◌≡◌, ℕ, List, Result, subst, sym}
use Rattle.kq_world.specs.Outside.{PutsAll}
use Rattle.kq_store_rows.specs.declared.cause.Cause.{Cause}
use Rattle.kq_reply_print.specs.Text.{cause_text}
use Rattle.kq_reply_print.proofs.write.put_cause.Goals as goal

as_is : {T E : Type 0} (old new : List ℕ) (r : Result T E) (x y : Cause) → x ≡ y → PutsAll old new r (cause_text y) → PutsAll old new r (cause_text x)
as_is old new r x y e puts = subst (λ (z : Cause). PutsAll old new r (cause_text z)) (sym e) puts

pub returns-in-Overflow-clause-puts : goal.returns-in-Overflow-clause-puts
returns-in-Overflow-clause-puts g c = as_is (g.K.Sink.accepted c.args.sink.now) (g.K.Sink.accepted c.put_counted.new.sink) c.put_counted.result c.args.cause _ c.in-Overflow.is c.put_counted.ensures.puts

pub returns-in-Full-clause-puts : goal.returns-in-Full-clause-puts
returns-in-Full-clause-puts g c = as_is (g.K.Sink.accepted c.args.sink.now) (g.K.Sink.accepted c.put_counted-in-Full.new.sink) c.put_counted-in-Full.result c.args.cause _ c.in-Full.is c.put_counted-in-Full.ensures.puts
