-- A session that nothing troubled is complete.
use Rattle.std.proofs.Common.{◌≡◌, ◌⊎◌, ◌<◌, ◌+◌, ◌-◌, ℕ, ℤ, Bool, true, false, cond, List, [], ◌∷◌, length, take, All, Result, Ok, Err, refl, ap, sym, ◌∙◌, subst, inl, inr, arith, length-append}
use Rattle.std.proofs.Math.Nat.{sub-zero}
use Rattle.std.proofs.lemmas.List.Elements.{All-cons, All-nil}
use Rattle.kq_world.specs.Told.{Adds}
use Rattle.kq_world.specs.Outside.{Contents}
use Rattle.kq_catalog_journal.specs.declared.event.By.{By}
use Rattle.kq_catalog_journal.specs.declared.limits.Limits.{Limits}
use Rattle.kq_catalog_journal.specs.History.{History, log}
use Rattle.kq_read_commands.specs.declared.command.Asked.{Asked}
use Rattle.kq_read_commands.specs.declared.command.Asked.TheVariants.{Engine, Exporter}
use Rattle.kq_read_commands.specs.declared.command.Command.{Command}
use Rattle.kq_read_commands.specs.declared.command.Export.{Export}
use Rattle.kq_read_commands.specs.declared.command.CommandFault.{CommandFault}
use Rattle.kq_read_commands.specs.Reads.{ReadsAs}
use Rattle.kq_reply.specs.Number.{number_of, kind_of}
use Rattle.kq_reply.specs.declared.refusal.Refusal.{Refusal}
use Rattle.kq_reply.specs.declared.refusal.Refusal.TheVariants as refusals
use Rattle.kq_reply.specs.declared.reply.Reply.{Reply}
use Rattle.kq_reply.specs.declared.reply.Reply.TheVariants as replies
use Rattle.kq_script_blocks.specs.Script.{Block, command, too_long}
use Rattle.kq_engine.specs.kq_engine_prepare.Fits.{FitsNow, IsDue}
use Rattle.kq_engine.specs.Shared.{commit_count}
use Rattle.kq_engine.proofs.kq_engine_prepare.Accepting.{Accept-commit}
use Rattle.kq_session.specs.declared.end.End.{End}
use Rattle.kq_session.specs.declared.end.End.TheVariants.{Finished, Short, SourceFault, SinkFault, InputLimit}
use Rattle.kq_session.specs.declared.receipt.Receipt.{Receipt}
use Rattle.kq_world.specs.Outside.{Rose}
use Rattle.kq_export_interface.specs.Due.{Holding, IsExportDue, Refuses, tells_fault}
use Rattle.kq_session.specs.Blocks.{FitsExport, FitsRead, FitsBlock, RefusesAlone, refusal_of, serves_to}
use Rattle.kq_session.specs.Complete.{AreAllBlocks, CompletesSession, IsComplete, IsRefusedBlock, IsServed, IsValid}
use Rattle.kq_session.specs.Ends.{status_of, wants_memory}
use Rattle.kq_session.specs.Objects.{Objects, SessionView}
use Rattle.kq_session.specs.Session.{Exchange, AreExchanges, SessionEnds, Explained, blocks_of, texts_of, input_bytes}
use Rattle.kq_session.specs.Exchanges.{Rises}

-- ---- one exchange

-- no refusal, or one for want of memory
abbrev IsGranted : Reply → Type 0
IsGranted reply = (kind_of reply ≡ 0) ⊎ (kind_of reply ≡ 1)

granted : (reply : Reply) → ((r : Refusal) → reply ≡ replies.Refused r → r ≡ refusals.Memory) → IsGranted reply
granted (replies.Refused r) memory = inr (ap number_of (memory r refl))
granted (replies.Done cursor) memory = inl refl
granted (replies.Kept cursor) memory = inl refl
granted (replies.Ingested cursor rows) memory = inl refl
granted (replies.Skipped cursor) memory = inl refl
granted (replies.Folded cursor) memory = inl refl
granted (replies.Merged extents) memory = inl refl
granted replies.Nothing memory = inl refl
granted (replies.Rows text) memory = inl refl
granted replies.Exporting memory = inl refl
granted (replies.Exported from to rows) memory = inl refl

same_refusal : (r q : Refusal) → replies.Refused r ≡ replies.Refused q → r ≡ q
same_refusal r q e = cc

-- a refusal of a text alone
refused_alone : (limits : Limits) (answers h : History) (now : ℤ) (actor : ℕ) (held : Holding) (block : Block) (place : ℕ) (own : Bool) (reply : Reply) (r : Refusal) → IsValid limits answers now actor held block → ((q : Refusal) → q ≡ r → IsRefusedBlock limits answers now actor held block q) → RefusesAlone h place own reply r → IsGranted reply
refused_alone limits answers h now actor held block place own reply r valid due refuses = granted reply (λ q is. by_reason q is refuses.reason)
  where
    by_reason : (q : Refusal) → reply ≡ replies.Refused q → (reply ≡ replies.Refused r) ⊎ (reply ≡ replies.Refused refusals.Memory) → q ≡ refusals.Memory
    by_reason q is (inl e) = valid q (due q (same_refusal q r (sym is ∙ e)))
    by_reason q is (inr e) = same_refusal q refusals.Memory (sym is ∙ e)

-- what the engine answered
granted_now : (limits : Limits) (h : History) (request : By) (held : Holding) (text : List ℕ) (asked : Command) (now : ℤ) (place : ℕ) (own : Bool) (reply : Reply) → ReadsAs text (Ok (Engine asked)) → FitsNow limits (take place h) request asked now own reply → IsValid limits (take (place - commit_count own) h) now request.actor held (command text) → IsGranted reply
granted_now limits h request held text asked now place true reply reads fits valid = inl (Accept-commit limits (log fits.0) asked reply fits.1 fits.3)
granted_now limits h request held text asked now place false reply reads fits valid = granted reply (λ r is. by_answer r is fits)
  where
    here : IsValid limits (take place h) now request.actor held (command text)
    here = subst (λ (n : ℕ). IsValid limits (take n h) now request.actor held (command text)) (sub-zero place) valid

    by_answer : (r : Refusal) → reply ≡ replies.Refused r → (reply ≡ replies.Refused refusals.Memory) ⊎ IsDue limits (take place h) now asked reply → r ≡ refusals.Memory
    by_answer r is (inl e) = same_refusal r refusals.Memory (sym is ∙ e)
    by_answer r is (inr due) = here r (Ok (Engine asked), reads, subst (λ (a : Reply). IsDue limits (take place h) now asked a) is due)

-- what the exporter answered, whose artefacts didn't fail
granted_export : (limits : Limits) (h : History) (request : By) (held holds : Holding) (text : List ℕ) (asked : Export) (now : ℤ) (place : ℕ) (own : Bool) (reply : Reply) → ReadsAs text (Ok (Exporter asked)) → FitsExport h request.actor held holds asked place own reply → ¬ Rose held.faults holds.faults
    → IsValid limits (take (place - commit_count own) h) now request.actor held (command text) → IsGranted reply
granted_export limits h request held holds text asked now place own reply reads fits sound valid = granted reply (λ r is. by_test r is (tells_fault reply) refl)
  where
    here : IsValid limits (take place h) now request.actor held (command text)
    here = subst (λ (n : ℕ). IsValid limits (take n h) now request.actor held (command text)) (ap (λ (b : Bool). place - commit_count b) fits.not_own ∙ sub-zero place) valid

    fault_told : true ≡ false → ⊥
    fault_told e = cc

    by_answer : (r : Refusal) → reply ≡ replies.Refused r → tells_fault reply ≡ false → Refuses held.exports holds.exports reply refusals.Memory ⊎ IsExportDue (serves_to request.actor) (take place h) held.exports holds.exports asked reply → r ≡ refusals.Memory
    by_answer r is test (inl refuses) = same_refusal r refusals.Memory (sym is ∙ refuses.0)
    by_answer r is test (inr due) =
        here r (
          Ok (Exporter asked),
          reads,
          record {
            holds = holds.exports;
            due = subst (λ (a : Reply). IsExportDue (serves_to request.actor) (take place h) held.exports holds.exports asked a) is due;
            no_fault = λ e. fault_told (sym (ap tells_fault (is ∙ ap replies.Refused e)) ∙ test);
          },
        )

    by_test : (r : Refusal) → reply ≡ replies.Refused r → (b : Bool) → tells_fault reply ≡ b → r ≡ refusals.Memory
    by_test r is true test = absurd (sound (rw test at fits.answers.caused))
    by_test r is false test = by_answer r is test fits.answers.due

granted_read : (limits : Limits) (h : History) (request : By) (held holds : Holding) (text : List ℕ) (read : Result Asked CommandFault) (now : ℤ) (place : ℕ) (own : Bool) (reply : Reply) → ReadsAs text read → FitsRead limits h request held holds read now place own reply → ¬ Rose held.faults holds.faults → IsValid limits (take (place - commit_count own) h) now request.actor held (command text) → IsGranted reply
granted_read limits h request held holds text (Ok (Engine asked)) now place own reply reads fits sound valid = granted_now limits h request held text asked now place own reply reads fits.0.at valid
granted_read limits h request held holds text (Ok (Exporter asked)) now place own reply reads fits sound valid = granted_export limits h request held holds text asked now place own reply reads fits sound valid
granted_read limits h request held holds text (Err fault) now place own reply reads fits sound valid =
    refused_alone limits (take (place - commit_count own) h) h now request.actor held (command text) place own reply (refusal_of fault) valid (λ q is. (Err fault, reads, is)) fits.0

granted_block : (limits : Limits) (h : History) (request : By) (held holds : Holding) (block : Block) (now : ℤ) (place : ℕ) (own : Bool) (reply : Reply) → FitsBlock limits h request held holds block now place own reply → ¬ Rose held.faults holds.faults → IsValid limits (take (place - commit_count own) h) now request.actor held block → IsGranted reply
granted_block limits h request held holds (command text) now place own reply fits sound valid = granted_read limits h request held holds text fits.read now place own reply fits.reads fits.fits sound valid
granted_block limits h request held holds (too_long bytes) now place own reply fits sound valid =
    refused_alone limits (take (place - commit_count own) h) h now request.actor held (too_long bytes) place own reply (refusals.TooLong bytes) valid (λ q is. is) (record { within = fits.0.within; not_own = fits.0.not_own; reason = inl fits.0.refused })

AreExchanges-served : (limits : Limits) (h : History) (actor n q : ℕ) (ts : List Exchange) → AreExchanges limits h actor n q ts → All (IsServed limits h actor) ts
AreExchanges-served limits h actor n q [] all = All-nil (IsServed limits h actor)
AreExchanges-served limits h actor n q (t ∷ ts) all =
    let r = t.receipt in
    let exchange = all.2 in
    All-cons (IsServed limits h actor) t ts
    (record { granted = λ sound valid. subst (λ (k : ℕ). (k ≡ 0) ⊎ (k ≡ 1)) (sym exchange.kind) (granted_block limits h _ t.held t.holds t.block r.moment r.place r.own t.reply exchange.fits sound valid) })
    (AreExchanges-served limits h actor (n + 1) r.place ts all.3)

-- ---- a session

complete_with : (limits : Limits) (h : History) (actor : ℕ) (x : Holding) (before : Contents) (s : SessionView) (end : End) → s.end ≡ end → (ends : SessionEnds limits h actor before s.objects.contents s.receipts x end)
    → (s.status ≡ 0) ⊎ (s.status ≡ 1) → s.status ≡ status_of end s.receipts → AreAllBlocks end ends.bytes s.objects.contents.source.ended (blocks_of ends.exchanges) → Adds before.accepted s.objects.contents.accepted (texts_of ends.exchanges) → IsComplete limits h actor x before s
complete_with limits h actor x before s end same ends status by_end blocks written = record {
  status = status;
  exchanges = ends.exchanges;
  bytes = ends.bytes;
  of_exchanges = ends.of_exchanges;
  each = ends.each;
  linked = ends.linked;
  gave = ends.gave;
  by_end = subst (λ (e : End). s.status ≡ status_of e s.receipts) (sym same) by_end;
  blocks = subst (λ (e : End). AreAllBlocks e ends.bytes s.objects.contents.source.ended (blocks_of ends.exchanges)) (sym same) blocks;
  all_at_end = ends.all_at_end;
  served = AreExchanges-served limits h actor 0 0 ends.exchanges ends.each;
  written = written;
}

abbrev IsGood : ℕ → Type 0
IsGood status = (status ≡ 0) ⊎ (status ≡ 1)

zero_or_one : (b : Bool) → IsGood (cond b 1 0)
zero_or_one true = inr refl
zero_or_one false = inl refl

pub complete_by : (limits : Limits) (h : History) (actor : ℕ) (x : Holding) (before : Objects) (s : SessionView) (end : End) → s.end ≡ end → SessionEnds limits h actor before.contents s.objects.contents s.receipts x end → s.status ≡ status_of end s.receipts → ¬ (s.status ≡ 3) → ¬ (s.status ≡ 4) → length s.objects.contents.source.taken < length before.contents.source.taken + input_bytes → IsComplete limits h actor x before.contents s
complete_by limits h actor x before s Finished same ends is source sink few =
    complete_with limits h actor x before.contents s Finished same ends (subst IsGood (sym is) (zero_or_one (wants_memory s.receipts))) is (ends.at_end.ended, ends.blocks.0) ends.written
complete_by limits h actor x before s Short same ends is source sink few = complete_with limits h actor x before.contents s Short same ends (inr is) is ends.blocks ends.written
complete_by limits h actor x before s SourceFault same ends is source sink few = absurd (source is)
complete_by limits h actor x before s SinkFault same ends is source sink few = absurd (sink is)
complete_by limits h actor x before s InputLimit same ends is source sink few =
    let all = ap length ends.gave.taken in
    absurd (omega (arith, all, length-append before.contents.source.taken ends.bytes, ends.blocks.1, few))

pub CompletesSession-explained : (limits : Limits) (h : History) (actor : ℕ) (x : Holding) (before : Objects) (s : SessionView) → Explained limits h actor x before.contents s → Rises before.source_faults s.objects.source_faults (s.status ≡ 3) → Rises before.sink_faults s.objects.sink_faults (s.status ≡ 4) → CompletesSession limits h actor x before s
CompletesSession-explained limits h actor x before s explained source sink untroubled =
    complete_by limits h actor x before s s.end refl explained.ends explained.by_end (λ e. untroubled.source (source.rose e)) (λ e. untroubled.sink (sink.rose e)) untroubled.few

-- ---- faults and statuses

abbrev Is : ℕ → ℕ → Type 0
Is code status = status ≡ code

not_finished : (b : Bool) (code : ℕ) → 1 < code → Is code (cond b 1 0) → ⊥
not_finished true code above e = omega (arith, above, e)
not_finished false code above e = omega (arith, above, e)

source_fault : (end : End) (receipts : List Receipt) → Is 3 (status_of end receipts) → end ≡ SourceFault
source_fault Finished receipts e = absurd (not_finished (wants_memory receipts) 3 (omega arith) e)
source_fault Short receipts e = absurd (omega (arith, e))
source_fault SourceFault receipts e = refl
source_fault SinkFault receipts e = absurd (omega (arith, e))
source_fault InputLimit receipts e = absurd (omega (arith, e))

sink_fault : (end : End) (receipts : List Receipt) → Is 4 (status_of end receipts) → end ≡ SinkFault
sink_fault Finished receipts e = absurd (not_finished (wants_memory receipts) 4 (omega arith) e)
sink_fault Short receipts e = absurd (omega (arith, e))
sink_fault SourceFault receipts e = absurd (omega (arith, e))
sink_fault SinkFault receipts e = refl
sink_fault InputLimit receipts e = absurd (omega (arith, e))

pub Rises-source : (before now : ℕ) (end : End) (receipts : List Receipt) (status : ℕ) → status ≡ status_of end receipts → Rises before now (end ≡ SourceFault) → Rises before now (status ≡ 3)
Rises-source before now end receipts status is rises = record {
  never_falls = rises.never_falls;
  rose = λ e. rises.rose (source_fault end receipts (sym is ∙ e));
  stays = λ other. rises.stays (λ e. other (is ∙ ap (λ (x : End). status_of x receipts) e));
}

pub Rises-sink : (before now : ℕ) (end : End) (receipts : List Receipt) (status : ℕ) → status ≡ status_of end receipts → Rises before now (end ≡ SinkFault) → Rises before now (status ≡ 4)
Rises-sink before now end receipts status is rises = record {
  never_falls = rises.never_falls;
  rose = λ e. rises.rose (sink_fault end receipts (sym is ∙ e));
  stays = λ other. rises.stays (λ e. other (is ∙ ap (λ (x : End). status_of x receipts) e));
}
