-- When a session is explained by a history.
use Rattle.std.specs.Prelude.{◌≡◌, ◌<◌, ◌≤◌, ◌+◌, ◌&&◌, ℕ, ℤ, Bool, true, false, List, [], ◌∷◌, ◌++◌, length, take, map, Option, Some, count_by, All, nat_eq}
use Rattle.std.specs.List.{flat_map, list_any}
use mathlib.Core.List.{IsPrefix}
use Rattle.kq_world.specs.Told.{Adds}
use Rattle.kq_world.specs.Outside.{SourceView, Contents, Delivers}
use Rattle.kq_catalog_journal.specs.declared.event.Event.{Event}
use Rattle.kq_catalog_journal.specs.declared.limits.Limits.{Limits}
use Rattle.kq_catalog_journal.specs.History.{History, CommitAt}
use Rattle.kq_reply.specs.declared.reply.Reply.{Reply}
use Rattle.kq_reply.specs.Number.{kind_of, number_of}
use Rattle.kq_reply.specs.declared.refusal.Refusal.TheVariants.{ArtefactFault}
use Rattle.kq_reply_print.specs.Text.{text_of}
use Rattle.kq_script_blocks.specs.Script.{Block, script_blocks}
use Rattle.kq_script_blocks.specs.Reading.{IsPrefix as Begins}
use Rattle.kq_script_blocks.specs.State.{IsAtEnd}
use Rattle.kq_engine.specs.kq_engine_prepare.Fits.{own_commit}
use Rattle.kq_engine.specs.kq_engine_prepare.Merges.{NamesAll}
use Rattle.kq_engine.specs.Shared.{PassView}
use Rattle.kq_export_interface.specs.Due.{Holding, nothing_held}
use Rattle.kq_session.specs.declared.end.End.{End}
use Rattle.kq_session.specs.declared.end.End.TheVariants.{Finished, Short, SourceFault, SinkFault, InputLimit}
use Rattle.kq_session.specs.declared.receipt.Receipt.{Receipt}
use Rattle.kq_session.specs.Blocks.{FitsBlock, AreTakes}
use Rattle.kq_session.specs.Ends.{status_of}
use Rattle.kq_session.specs.Objects.{SessionView}

abbrev pub command_bytes : ℕ
command_bytes = 16777216

abbrev pub input_bytes : ℕ
input_bytes = 4294967296

-- a block with its reply and its receipt, and what the exporter holds before and after it
pub record Exchange : Type 0 where
  pub block : Block
  pub reply : Reply
  pub receipt : Receipt
  pub held : Holding
  pub holds : Holding

-- the reply fits the history at the receipt's place
pub record IsExchange (limits : Limits) (h : History) (actor : ℕ) (t : Exchange) : Type 0 where
  pub fits : FitsBlock limits h (record { actor = actor; number = t.receipt.number }) t.held t.holds t.block t.receipt.moment t.receipt.place t.receipt.own t.reply
  pub within : t.receipt.place ≤ length h
  pub kind : t.receipt.kind ≡ kind_of t.reply

-- the exchange isn't before the place q, and a merge that it tells is of all that were picked at a place from q on, and a fold up to the cursor there
-- or a later one
pub record ComesAfter (h : History) (q : ℕ) (t : Exchange) : Type 0 where
  pub since : q ≤ t.receipt.place
  pub names_all : NamesAll (take t.receipt.place h) q t.reply

-- exchanges after n others, the last of which stood at the place q: they are numbered on, the places never fall, and no merge
-- or fold leaves out what stood at the place before
abbrev pub AreExchanges : Limits → History → ℕ → ℕ → ℕ → List Exchange → Type 0
AreExchanges limits h actor n q [] = Unit {0}
AreExchanges limits h actor n q (t ∷ ts) = (t.receipt.number ≡ n + 1) × ComesAfter h q t × IsExchange limits h actor t × AreExchanges limits h actor (n + 1) t.receipt.place ts

-- each exchange finds what the one before it left the exporter with, from what it held first to what it holds last
abbrev pub AreLinked : Holding → List Exchange → Holding → Type 0
AreLinked first [] last = last ≡ first
AreLinked first (t ∷ ts) last = (t.held ≡ first) × AreLinked t.holds ts last

abbrev pub blocks_of : List Exchange → List Block
blocks_of = map (λ (t : Exchange). t.block)

abbrev pub moments_of : List Exchange → List ℤ
moments_of = map (λ (t : Exchange). t.receipt.moment)

abbrev pub texts_of : List Exchange → List ℕ
texts_of = flat_map (λ (t : Exchange). text_of t.reply)

-- the blocks that were answered are those of the bytes that were read, by how the session ended. One that stands open
-- counts only where the end was read
abbrev pub AreBlocks : End → List ℕ → Bool → List Block → Type 0
AreBlocks Finished bytes ended blocks = (blocks ≡ script_blocks command_bytes bytes true) × (length bytes < input_bytes)
AreBlocks Short bytes ended blocks = Begins blocks (script_blocks command_bytes bytes ended)
AreBlocks SourceFault bytes ended blocks = (blocks ≡ script_blocks command_bytes bytes false) × (length bytes < input_bytes)
AreBlocks SinkFault bytes ended blocks = Begins blocks (script_blocks command_bytes bytes ended)
AreBlocks InputLimit bytes ended blocks = (blocks ≡ script_blocks command_bytes bytes false) × (length bytes ≡ input_bytes)

-- a script that was finished was read to the source's end, and a fault or the limit came before the end
abbrev pub IsLeft : End → SourceView → SourceView → Type 0
IsLeft Finished first now = IsAtEnd first now
IsLeft Short first now = Unit {0}
IsLeft SourceFault first now = now.ended ≡ first.ended
IsLeft SinkFault first now = Unit {0}
IsLeft InputLimit first now = now.ended ≡ first.ended

-- where the source's end was read, all blocks were answered, even if the session ended otherwise
abbrev pub AreAllAtEnd : Bool → Bool → List ℕ → List Block → Type 0
AreAllAtEnd ended_before ended_now bytes blocks = ended_before ≡ false → ended_now ≡ true → blocks ≡ script_blocks command_bytes bytes true

-- all replies were written, or all but the last and a beginning of it that isn't the whole
abbrev pub AreWritten : End → List ℕ → List ℕ → List Exchange → Type 0
AreWritten Finished before now exchanges = Adds before now (texts_of exchanges)
AreWritten Short before now exchanges = Adds before now (texts_of exchanges)
AreWritten SourceFault before now exchanges = Adds before now (texts_of exchanges)
AreWritten SinkFault before now exchanges =
    (front : List Exchange) × (last : Exchange) × (n : ℕ) × (exchanges ≡ front ++ last ∷ [])
    × (n < length (text_of last.reply))
    × Adds before now (texts_of front ++ take n (text_of last.reply))
AreWritten InputLimit before now exchanges = Adds before now (texts_of exchanges)

-- the kind of a reply that tells that the artefacts failed
abbrev pub is_fault : ℕ → Bool
is_fault kind = nat_eq kind (number_of ArtefactFault)

-- how many of the replies tell that the artefacts failed
abbrev pub artefact_faults : List Receipt → ℕ
artefact_faults = count_by (λ (r : Receipt). is_fault r.kind)

-- a session's exchanges explain what its source gave, what its sink took, what its clock read, its receipts and how it ended
pub record SessionEnds (limits : Limits) (h : History) (actor : ℕ) (before now : Contents) (receipts : List Receipt) (holding : Holding) (end : End) : Type 0 where
  pub exchanges : List Exchange
  pub bytes : List ℕ
  pub of_exchanges : receipts ≡ map (λ (t : Exchange). t.receipt) exchanges
  pub each : AreExchanges limits h actor 0 0 exchanges
  pub linked : AreLinked nothing_held exchanges holding
  pub faults : artefact_faults receipts ≤ holding.faults
  pub gave : Delivers before.source now.source bytes
  pub blocks : AreBlocks end bytes now.source.ended (blocks_of exchanges)
  pub at_end : IsLeft end before.source now.source
  pub all_at_end : AreAllAtEnd before.source.ended now.source.ended bytes (blocks_of exchanges)
  pub moments : Adds before.readings now.readings (moments_of exchanges)
  pub written : AreWritten end before.accepted now.accepted exchanges

-- a session ends short only where memory was refused after its last reply
abbrev pub IsShortFor : End → Option ℕ → List Receipt → Type 0
IsShortFor Short refused receipts = refused ≡ Some (length receipts)
IsShortFor end refused receipts = Unit {0}

-- the session of an actor, whose objects told this at first and whose exporter holds this in the end, is explained by a history
pub record Explained (limits : Limits) (h : History) (actor : ℕ) (holding : Holding) (before : Contents) (s : SessionView) : Type 0 where
  pub ends : SessionEnds limits h actor before s.objects.contents s.receipts holding s.end
  pub by_end : s.status ≡ status_of s.end s.receipts
  pub short : IsShortFor s.end s.refused s.receipts

-- the commits of an actor's receipts with `own`
abbrev pub own_commits : ℕ → List Receipt → List CommitAt
own_commits actor = flat_map (λ (r : Receipt). own_commit r.own r.place (record { actor = actor; number = r.number }))

-- how many of the receipts made a commit
abbrev pub owns : List Receipt → ℕ
owns = count_by (λ (r : Receipt). r.own)

-- the takes for these receipts, in order
abbrev pub AreTaken : List Receipt → List ℕ → Type 0
AreTaken [] taken = taken ≡ []
AreTaken (r ∷ receipts) taken = (takes : List ℕ) × (more : List ℕ) × (taken ≡ takes ++ more) × AreTakes r.kind r.place takes × AreTaken receipts more

-- the event was made for one of an actor's receipts, whose reply is no refusal
abbrev pub is_receipted : ℕ → List Receipt → Event → Bool
is_receipted actor receipts e = nat_eq e.by.actor actor && list_any (λ (r : Receipt). nat_eq r.number e.by.number && nat_eq r.kind 0) receipts

-- an actor's pass after these receipts: it has seen at least as much, the events made through it since were made for them, and
-- the commits among these are those of the receipts with `own`; it took the catalogue for each of them, twice at most
pub record PassGoesOn (actor : ℕ) (old new : PassView) (receipts : List Receipt) : Type 0 where
  pub of : new.of ≡ old.of
  pub worth : new.worth ≡ old.worth
  pub seen : IsPrefix old.seen new.seen
  pub events : History
  pub added : new.added ≡ old.added ++ events
  pub receipted : All (λ (e : Event). is_receipted actor receipts e ≡ true) events
  pub made : new.made ≡ old.made + owns receipts
  pub more : List ℕ
  pub taken : new.taken ≡ old.taken ++ more
  pub each_taken : AreTaken receipts more
