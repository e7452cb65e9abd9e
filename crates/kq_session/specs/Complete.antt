-- What a session comes to that nothing troubled: each command of its script has its reply.
use Rattle.std.specs.Prelude.{◌≡◌, ◌⊎◌, ◌<◌, ◌+◌, ◌-◌, ℕ, ℤ, Bool, true, List, length, take, map, All, Result, Ok, Err}
use Rattle.kq_world.specs.Told.{Adds}
use Rattle.kq_world.specs.Outside.{Contents, Delivers, Rose}
use Rattle.kq_catalog_journal.specs.declared.limits.Limits.{Limits}
use Rattle.kq_catalog_journal.specs.History.{History}
use Rattle.kq_read_commands.specs.declared.command.Asked.{Asked}
use Rattle.kq_read_commands.specs.declared.command.Asked.TheVariants.{Engine, Exporter}
use Rattle.kq_read_commands.specs.declared.command.CommandFault.{CommandFault}
use Rattle.kq_read_commands.specs.Reads.{ReadsAs}
use Rattle.kq_export_interface.specs.Due.{Holding, IsRefusalDue, nothing_held}
use Rattle.kq_reply.specs.declared.refusal.Refusal.{Refusal}
use Rattle.kq_reply.specs.declared.refusal.Refusal.TheVariants as refusals
use Rattle.kq_reply.specs.declared.reply.Reply.TheVariants as replies
use Rattle.kq_script_blocks.specs.Script.{Block, command, too_long, script_blocks}
use Rattle.kq_script_blocks.specs.Reading.{IsPrefix as Begins}
use Rattle.kq_engine.specs.kq_engine_prepare.Fits.{IsDue}
use Rattle.kq_engine.specs.Shared.{commit_count}
use Rattle.kq_session.specs.declared.end.End.{End}
use Rattle.kq_session.specs.declared.end.End.TheVariants.{Finished, Short, SourceFault, SinkFault, InputLimit}
use Rattle.kq_session.specs.declared.receipt.Receipt.{Receipt}
use Rattle.kq_session.specs.Blocks.{refusal_of, serves_to}
use Rattle.kq_session.specs.Ends.{status_of}
use Rattle.kq_session.specs.Objects.{Objects, SessionView}
use Rattle.kq_session.specs.Session.{Exchange, AreExchanges, AreLinked, AreAllAtEnd, blocks_of, texts_of, command_bytes, input_bytes}

-- ---- valid commands

-- the refusal is due over this history at a moment to the command, other than that artefacts failed, or is that of the text
abbrev pub RefusesRead : Limits → History → ℤ → ℕ → Holding → Result Asked CommandFault → Refusal → Type 0
RefusesRead limits h now actor held (Ok (Engine asked)) r = IsDue limits h now asked (replies.Refused r)
RefusesRead limits h now actor held (Ok (Exporter asked)) r = IsRefusalDue (serves_to actor) h held asked r
RefusesRead limits h now actor held (Err fault) r = r ≡ refusal_of fault

-- the refusal is due over this history at a moment to the block of an actor, whose exporter holds this
abbrev pub IsRefusedBlock : Limits → History → ℤ → ℕ → Holding → Block → Refusal → Type 0
IsRefusedBlock limits h now actor held (command text) r = (read : Result Asked CommandFault) × ReadsAs text read × RefusesRead limits h now actor held read r
IsRefusedBlock limits h now actor held (too_long bytes) r = r ≡ refusals.TooLong bytes

-- no refusal is due to the block but want of memory
abbrev pub IsValid : Limits → History → ℤ → ℕ → Holding → Block → Type 0
IsValid limits h now actor held block = (r : Refusal) → IsRefusedBlock limits h now actor held block r → r ≡ refusals.Memory

-- the history that answers a command: the one up to its place, without its own commit
abbrev pub answering : History → Receipt → History
answering h r = take (r.place - commit_count r.own) h

-- a valid command, at which the artefacts don't fail, has a reply that is no refusal, or one for want of memory
pub record IsServed (limits : Limits) (h : History) (actor : ℕ) (t : Exchange) : Type 0 where
  pub granted : ¬ Rose t.held.faults t.holds.faults → IsValid limits (answering h t.receipt) t.receipt.moment actor t.held t.block → (t.receipt.kind ≡ 0) ⊎ (t.receipt.kind ≡ 1)

-- ---- sessions

-- neither the source nor the sink failed, and the source gave fewer bytes than a session takes
pub record IsUntroubled (before now : Objects) : Type 0 where
  pub source : ¬ Rose before.source_faults now.source_faults
  pub sink : ¬ Rose before.sink_faults now.sink_faults
  pub few : length now.contents.source.taken < length before.contents.source.taken + input_bytes

-- the end was read and all blocks have their exchanges, or memory was refused between two replies
abbrev pub AreAllBlocks : End → List ℕ → Bool → List Block → Type 0
AreAllBlocks Finished bytes ended blocks = (ended ≡ true) × (blocks ≡ script_blocks command_bytes bytes true)
AreAllBlocks Short bytes ended blocks = Begins blocks (script_blocks command_bytes bytes ended)
AreAllBlocks SourceFault bytes ended blocks = ⊥
AreAllBlocks SinkFault bytes ended blocks = ⊥
AreAllBlocks InputLimit bytes ended blocks = ⊥

-- a session is complete: its status is 0 or 1, the blocks of the bytes that its source gave have one reply each, in order,
-- which fits, and is no refusal where the command is valid, but for want of memory; and all replies were written
pub record IsComplete (limits : Limits) (h : History) (actor : ℕ) (holding : Holding) (before : Contents) (s : SessionView) : Type 0 where
  pub status : (s.status ≡ 0) ⊎ (s.status ≡ 1)
  pub exchanges : List Exchange
  pub bytes : List ℕ
  pub of_exchanges : s.receipts ≡ map (λ (t : Exchange). t.receipt) exchanges
  pub each : AreExchanges limits h actor 0 0 exchanges
  pub linked : AreLinked nothing_held exchanges holding
  pub gave : Delivers before.source s.objects.contents.source bytes
  pub by_end : s.status ≡ status_of s.end s.receipts
  pub blocks : AreAllBlocks s.end bytes s.objects.contents.source.ended (blocks_of exchanges)
  pub all_at_end : AreAllAtEnd before.source.ended s.objects.contents.source.ended bytes (blocks_of exchanges)
  pub served : All (IsServed limits h actor) exchanges
  pub written : Adds before.accepted s.objects.contents.accepted (texts_of exchanges)

-- a session that nothing troubled is complete
abbrev pub CompletesSession : Limits → History → ℕ → Holding → Objects → SessionView → Type 0
CompletesSession limits h actor holding before s = IsUntroubled before s.objects → IsComplete limits h actor holding before.contents s
