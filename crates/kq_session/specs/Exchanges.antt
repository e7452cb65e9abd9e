-- What one exchange of a session does.
use Rattle.std.specs.Prelude.{◌≡◌, ◌≤◌, ℕ, ℤ, List, [], ◌∷◌, ◌++◌, Option, Some, None, Result, Ok, Err}
use Rattle.kq_world.specs.Told.{Adds}
use Rattle.kq_world.specs.Outside.{SourceView, Contents, Delivers, PutsAll, Rose, contents}
use Rattle.kq_world.specs.declared.outside.Failed.{Failed}
use Rattle.kq_catalog_journal.specs.declared.event.By.{By}
use Rattle.kq_catalog_journal.specs.declared.limits.Limits.{Limits}
use Rattle.kq_reply.specs.Number.{kind_of}
use Rattle.kq_reply_print.specs.Text.{text_of}
use Rattle.kq_script_blocks.specs.Item.{IsItemOf}
use Rattle.kq_script_blocks.specs.Script.{Block}
use Rattle.kq_script_blocks.specs.declared.item.Item.{Item}
use Rattle.kq_script_blocks.specs.Reading.{IsReading}
use Rattle.kq_script_blocks.specs.declared.reader.ScriptReader.{ScriptReader}
use Rattle.kq_engine.specs.Shared.{PassView}
use Rattle.kq_export_interface.specs.Due.{ExporterView}
use Rattle.kq_session.specs.declared.end.End.{End}
use Rattle.kq_session.specs.declared.end.End.TheVariants.{Finished, Short, SourceFault, SinkFault, InputLimit}
use Rattle.kq_session.specs.declared.receipt.Receipt.{Receipt}
use Rattle.kq_session.specs.declared.session.Session.{Session}
use Rattle.kq_session.specs.Blocks.{AnswersBlock, GoesOn}
use Rattle.kq_session.specs.Session.{Exchange, SessionEnds, PassGoesOn, AreBlocks, AreAllAtEnd, IsLeft, command_bytes, input_bytes}

-- a session at one moment: its pass, what its exporter and its objects tell, and its receipts
pub record State : Type 0 where
  pub pass : PassView
  pub exporter : ExporterView
  pub contents : Contents
  pub receipts : List Receipt

-- that of a session under way, each object by its own meaning
abbrev pub state_of : {S K C E : Type 0} → (S → SourceView) → (K → List ℕ) → (C → List ℤ) → (E → ExporterView) → Session S K C E → State
state_of told accepted readings exporter s = record { pass = s.pass; exporter = exporter s.exporter; contents = contents told accepted readings s.parts; receipts = s.receipts.items }

-- what was read so far: what the source told at first, the bytes that it gave since, and the blocks given of them
pub record Progress : Type 0 where
  pub first : SourceView
  pub taken : List ℕ
  pub given : List Block

abbrev pub IsAfter : ScriptReader → SourceView → Progress → Type 0
IsAfter reader now p = IsReading command_bytes input_bytes reader p.first now p.taken p.given

-- a block was answered, and its receipt kept
pub record Answered (limits : Limits) (by : By) (old new : State) (t : Exchange) : Type 0 where
  pub step : AnswersBlock limits old.pass new.pass old.exporter new.exporter by t.block t.receipt.moment (record { place = t.receipt.place; own = t.receipt.own; reply = t.reply })
  pub held : t.held ≡ old.exporter.holding
  pub holds : t.holds ≡ new.exporter.holding
  pub number : t.receipt.number ≡ by.number
  pub kind : t.receipt.kind ≡ kind_of t.reply
  pub receipt : new.receipts ≡ old.receipts ++ t.receipt ∷ []
  pub moment : Adds old.contents.readings new.contents.readings (t.receipt.moment ∷ [])

-- this block was answered, and its reply written as far as the sink took it
pub record Replied {E : Type 0} (limits : Limits) (by : By) (old new : State) (block : Block) (result : Result (Unit {0}) E) : Type 0 where
  pub exchange : Exchange
  pub same_block : exchange.block ≡ block
  pub answered : Answered limits by old new exchange
  pub written : PutsAll old.contents.accepted new.contents.accepted result (text_of exchange.reply)

-- so was the block of an item
abbrev pub Replies : {E : Type 0} → Limits → By → Item → State → State → Result (Unit {0}) E → Type 0
Replies limits by item old new result = (limit : ℕ) (block : Block) → IsItemOf limit item block → Replied limits by old new block result

-- a block was read from the source
pub record ReadsBlock (p : Progress) (old new : SourceView) (reader : ScriptReader) (block : Block) : Type 0 where
  pub bytes : List ℕ
  pub gave : Delivers old new bytes
  pub reading : IsReading command_bytes input_bytes reader p.first new (p.taken ++ bytes) (p.given ++ block ∷ [])

-- no block was answered
pub record Idle (p : Progress) (old new : State) (end : End) : Type 0 where
  pub same_pass : new.pass ≡ old.pass
  pub same_exporter : new.exporter ≡ old.exporter
  pub same_receipts : new.receipts ≡ old.receipts
  pub bytes : List ℕ
  pub gave : Delivers old.contents.source new.contents.source bytes
  pub blocks : AreBlocks end (p.taken ++ bytes) new.contents.source.ended p.given
  pub at_end : IsLeft end p.first new.contents.source
  pub all_at_end : AreAllAtEnd p.first.ended new.contents.source.ended (p.taken ++ bytes) p.given
  pub readings : new.contents.readings ≡ old.contents.readings
  pub accepted : new.contents.accepted ≡ old.contents.accepted

-- a block was read and answered
pub record Went {E : Type 0} (limits : Limits) (by : By) (p : Progress) (old new : State) (reader : ScriptReader) (result : Result (Unit {0}) E) : Type 0 where
  pub block : Block
  pub reads : ReadsBlock p old.contents.source new.contents.source reader block
  pub replied : Replied limits by old new block result

-- by its end, where it has one
abbrev pub ExchangeBy : Limits → By → Progress → State → State → ScriptReader → Option End → Type 0
ExchangeBy limits by p old new reader None = Went {E = Failed} limits by p old new reader (Ok tt)
ExchangeBy limits by p old new reader (Some SinkFault) = (e : Failed) × Went limits by p old new reader (Err e)
ExchangeBy limits by p old new reader (Some Finished) = Idle p old new Finished
ExchangeBy limits by p old new reader (Some Short) = Idle p old new Short
ExchangeBy limits by p old new reader (Some SourceFault) = Idle p old new SourceFault
ExchangeBy limits by p old new reader (Some InputLimit) = Idle p old new InputLimit

-- one exchange of a session under way, whatever was read before it
abbrev pub TakesExchange : {S K C E : Type 0} → (S → SourceView) → (K → List ℕ) → (C → List ℤ) → (E → ExporterView) → Limits → By → ScriptReader → ScriptReader → Session S K C E → Session S K C E → Option End → Type 0
TakesExchange told accepted readings exporter limits by was reader old new end =
    let at = state_of told accepted readings exporter in
    (p : Progress) → IsAfter was (at old).contents.source p → ExchangeBy limits by p (at old) (at new) reader end

-- what a session comes to from its start
pub record SessionComesTo (limits : Limits) (actor : ℕ) (old new : State) (end : End) : Type 0 where
  pub goes_on : PassGoesOn actor old.pass new.pass new.receipts
  pub ends : SessionEnds limits new.pass.seen actor old.contents new.contents new.receipts new.exporter.holding end
  pub exporter : GoesOn new.pass.seen old.exporter new.exporter

-- the count of faults never falls, rose where this holds, and stays where it doesn't
pub record Rises (before now : ℕ) (fault : Type 0) : Type 0 where
  pub never_falls : before ≤ now
  pub rose : fault → Rose before now
  pub stays : (fault → ⊥) → now ≡ before
