use Rattle.std.proofs.Common.{◌≡◌, ℕ, List, Result, subst, sym}
use Rattle.kq_world.specs.Outside.{PutsAll}
use Rattle.kq_reply.specs.declared.refusal.Refusal.{Refusal}
use Rattle.kq_reply_print.specs.Text.{refusal_text}
use Rattle.kq_reply_print.proofs.write.put_refusal.Goals as goal

as_is : {T E : Type 0} (old new : List ℕ) (r : Result T E) (x y : Refusal) → x ≡ y → PutsAll old new r (refusal_text y) → PutsAll old new r (refusal_text x)
as_is old new r x y e puts = subst (λ (z : Refusal). PutsAll old new r (refusal_text z)) (sym e) puts

pub returns-in-TooLong-clause-puts : goal.returns-in-TooLong-clause-puts
returns-in-TooLong-clause-puts g c = as_is (g.K.Sink.accepted c.args.sink.now) (g.K.Sink.accepted c.put_counted-in-TooLong.new.sink) c.put_counted-in-TooLong.result c.args.refusal.now _ c.in-TooLong.is c.put_counted-in-TooLong.ensures.puts

pub returns-in-Overflow-clause-puts : goal.returns-in-Overflow-clause-puts
returns-in-Overflow-clause-puts g c = as_is (g.K.Sink.accepted c.args.sink.now) (g.K.Sink.accepted c.put_counted-in-Overflow.new.sink) c.put_counted-in-Overflow.result c.args.refusal.now _ c.in-Overflow.is c.put_counted-in-Overflow.ensures.puts

pub returns-in-Full-clause-puts : goal.returns-in-Full-clause-puts
returns-in-Full-clause-puts g c = as_is (g.K.Sink.accepted c.args.sink.now) (g.K.Sink.accepted c.put_counted-in-Full.new.sink) c.put_counted-in-Full.result c.args.refusal.now _ c.in-Full.is c.put_counted-in-Full.ensures.puts

pub returns-in-WideRow-clause-puts : goal.returns-in-WideRow-clause-puts
returns-in-WideRow-clause-puts g c = as_is (g.K.Sink.accepted c.args.sink.now) (g.K.Sink.accepted c.put_counted-in-WideRow.new.sink) c.put_counted-in-WideRow.result c.args.refusal.now _ c.in-WideRow.is c.put_counted-in-WideRow.ensures.puts

pub returns-in-BadTags-clause-puts : goal.returns-in-BadTags-clause-puts
returns-in-BadTags-clause-puts g c = as_is (g.K.Sink.accepted c.args.sink.now) (g.K.Sink.accepted c.put_counted-in-BadTags.new.sink) c.put_counted-in-BadTags.result c.args.refusal.now _ c.in-BadTags.is c.put_counted-in-BadTags.ensures.puts

pub returns-in-Unsupported-clause-puts : goal.returns-in-Unsupported-clause-puts
returns-in-Unsupported-clause-puts g c = as_is (g.K.Sink.accepted c.args.sink.now) (g.K.Sink.accepted c.put_counted-in-Unsupported.new.sink) c.put_counted-in-Unsupported.result c.args.refusal.now _ c.in-Unsupported.is c.put_counted-in-Unsupported.ensures.puts

pub returns-in-Unknown-clause-puts : goal.returns-in-Unknown-clause-puts
returns-in-Unknown-clause-puts g c = as_is (g.K.Sink.accepted c.args.sink.now) (g.K.Sink.accepted c.put_counted-in-Unknown.new.sink) c.put_counted-in-Unknown.result c.args.refusal.now _ c.in-Unknown.is c.put_counted-in-Unknown.ensures.puts

pub returns-in-Cycle-clause-puts : goal.returns-in-Cycle-clause-puts
returns-in-Cycle-clause-puts g c = as_is (g.K.Sink.accepted c.args.sink.now) (g.K.Sink.accepted c.put_named.new.sink) c.put_named.result c.args.refusal.now _ c.in-Cycle.is c.put_named.ensures.puts

pub returns-in-BadView-clause-puts : goal.returns-in-BadView-clause-puts
returns-in-BadView-clause-puts g c = as_is (g.K.Sink.accepted c.args.sink.now) (g.K.Sink.accepted c.put_counted-in-BadView.new.sink) c.put_counted-in-BadView.result c.args.refusal.now _ c.in-BadView.is c.put_counted-in-BadView.ensures.puts

pub returns-in-BadPolicy-clause-puts : goal.returns-in-BadPolicy-clause-puts
returns-in-BadPolicy-clause-puts g c = as_is (g.K.Sink.accepted c.args.sink.now) (g.K.Sink.accepted c.put_policy.new.sink) c.put_policy.result c.args.refusal.now _ c.in-BadPolicy.is c.put_policy.ensures.puts

pub returns-in-PolicyFailed-clause-puts : goal.returns-in-PolicyFailed-clause-puts
returns-in-PolicyFailed-clause-puts g c = as_is (g.K.Sink.accepted c.args.sink.now) (g.K.Sink.accepted c.put_failed.new.sink) c.put_failed.result c.args.refusal.now _ c.in-PolicyFailed.is c.put_failed.ensures.puts

pub returns-in-NotText-clause-puts : goal.returns-in-NotText-clause-puts
returns-in-NotText-clause-puts g c = as_is (g.K.Sink.accepted c.args.sink.now) (g.K.Sink.accepted c.put_counted-in-NotText.new.sink) c.put_counted-in-NotText.result c.args.refusal.now _ c.in-NotText.is c.put_counted-in-NotText.ensures.puts

pub returns-in-ArtefactFault-clause-puts : goal.returns-in-ArtefactFault-clause-puts
returns-in-ArtefactFault-clause-puts g c = as_is (g.K.Sink.accepted c.args.sink.now) (g.K.Sink.accepted c.put_all-in-ArtefactFault.new.sink) c.put_all-in-ArtefactFault.result c.args.refusal.now _ c.in-ArtefactFault.is c.put_all-in-ArtefactFault.ensures.puts

pub returns-in-BadExport-clause-puts : goal.returns-in-BadExport-clause-puts
returns-in-BadExport-clause-puts g c = as_is (g.K.Sink.accepted c.args.sink.now) (g.K.Sink.accepted c.put_counted-in-BadExport.new.sink) c.put_counted-in-BadExport.result c.args.refusal.now _ c.in-BadExport.is c.put_counted-in-BadExport.ensures.puts
