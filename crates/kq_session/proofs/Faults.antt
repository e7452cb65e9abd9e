-- The replies that tell of failing artefacts are no more than the artefacts' faults.
use Rattle.std.proofs.Common.{◌≡◌, ◌≢◌, ◌⊎◌, ◌^◌, MatchBool, ◌≤◌, ◌<◌, ◌+◌, ℕ, ℤ, Bool, true, false, cond, List, [], ◌∷◌, ◌++◌, length, ap, sym, ◌∙◌, subst, refl, inl, inr, arith, zero-add, Result, Ok, Err}
use Rattle.std.proofs.lemmas.List.Sums.{count_by-le-length, sum_by-append}
use Rattle.kq_world.specs.Outside.{Rose}
use Rattle.kq_catalog_journal.specs.declared.event.By.{By}
use Rattle.kq_catalog_journal.specs.declared.limits.Limits.{Limits}
use Rattle.kq_catalog_journal.specs.History.{History}
use Rattle.kq_read_commands.specs.declared.command.Asked.{Asked}
use Rattle.kq_read_commands.specs.declared.command.Asked.TheVariants.{Engine, Exporter}
use Rattle.kq_read_commands.specs.declared.command.CommandFault.{CommandFault}
use Rattle.kq_read_commands.specs.declared.command.CommandFault.TheVariants.{NotText, Syntax, Deep, Unsupported, Memory}
use Rattle.kq_reply.specs.Number.{kind_of, number_of}
use Rattle.kq_reply.specs.declared.refusal.Refusal.{Refusal}
use Rattle.kq_reply.specs.declared.refusal.Refusal.TheVariants as refusals
use Rattle.kq_reply.specs.declared.reply.Reply.{Reply}
use Rattle.kq_reply.specs.declared.reply.Reply.TheVariants as replies
use Rattle.kq_script_blocks.specs.Script.{Block, command, too_long}
use Rattle.kq_engine.proofs.kq_engine_prepare.Failing.{Fits-tells_none}
use Rattle.kq_export_interface.specs.Due.{Holding, tells_fault}
use Rattle.kq_session.specs.declared.receipt.Receipt.{Receipt}
use Rattle.kq_session.specs.Blocks.{FitsRead, FitsBlock, refusal_of}
use Rattle.kq_session.specs.Session.{artefact_faults, is_fault}

-- ---- what a reply tells

numbered : (r : Refusal) → is_fault (number_of r) ≡ true → r ≡ refusals.ArtefactFault
numbered refusals.Memory e = absurd cc
numbered (refusals.Syntax at) e = absurd cc
numbered (refusals.Deep at) e = absurd cc
numbered (refusals.TooLong bytes) e = absurd cc
numbered (refusals.Overflow stage) e = absurd cc
numbered (refusals.Full limit) e = absurd cc
numbered (refusals.WideRow row) e = absurd cc
numbered (refusals.BadTags at) e = absurd cc
numbered (refusals.Unsupported at) e = absurd cc
numbered (refusals.Unknown at) e = absurd cc
numbered (refusals.Mistyped at) e = absurd cc
numbered (refusals.Exists at) e = absurd cc
numbered (refusals.Cycle table) e = absurd cc
numbered (refusals.BadView at) e = absurd cc
numbered (refusals.BadPolicy entry why) e = absurd cc
numbered (refusals.PolicyFailed target cause) e = absurd cc
numbered (refusals.NotText at) e = absurd cc
numbered refusals.NoExporter e = absurd cc
numbered refusals.ArtefactFault e = refl
numbered (refusals.BadExport at) e = absurd cc

told : (reply : Reply) → tells_fault reply ≡ true → reply ≡ replies.Refused refusals.ArtefactFault
told (replies.Done cursor) e = absurd cc
told (replies.Kept cursor) e = absurd cc
told (replies.Ingested cursor rows) e = absurd cc
told (replies.Skipped cursor) e = absurd cc
told (replies.Folded cursor) e = absurd cc
told (replies.Merged extents) e = absurd cc
told replies.Nothing e = absurd cc
told (replies.Rows text) e = absurd cc
told replies.Exporting e = absurd cc
told (replies.Exported from to rows) e = absurd cc
told (replies.Refused r) e = ap replies.Refused (numbered r e)

tells_by : (reply : Reply) (b : Bool) → tells_fault reply ≡ b → reply ≢ replies.Refused refusals.ArtefactFault → b ≡ false
tells_by reply true is none = absurd (none (told reply is))
tells_by reply false is none = refl

tells_none : (reply : Reply) → reply ≢ replies.Refused refusals.ArtefactFault → tells_fault reply ≡ false
tells_none reply none = tells_by reply (tells_fault reply) refl none

early : (fault : CommandFault) → tells_fault (replies.Refused (refusal_of fault)) ≡ false
early (NotText at) = refl
early (Syntax at) = refl
early (Deep at) = refl
early (Unsupported at) = refl
early Memory = refl

alone : (fault : CommandFault) (reply : Reply) → (reply ≡ replies.Refused (refusal_of fault)) ⊎ (reply ≡ replies.Refused refusals.Memory) → tells_fault reply ≡ false
alone fault reply (inl e) = ap tells_fault e ∙ early fault
alone fault reply (inr e) = ap tells_fault e

-- ---- one block

-- the count of faults rises exactly where the reply says so
abbrev IsCausedBy : Reply → Holding → Holding → Type 0
IsCausedBy reply held holds = MatchBool (tells_fault reply) (Rose held.faults holds.faults) (holds.faults ≡ held.faults)

caused_still : (b : Bool) (held holds : Holding) → b ≡ false → holds ≡ held → MatchBool b (Rose held.faults holds.faults) (holds.faults ≡ held.faults)
caused_still true held holds is same = absurd cc
caused_still false held holds is same = ap (λ (x : Holding). x.faults) same

FitsRead-caused : (limits : Limits) (h : History) (request : By) (held holds : Holding) (read : Result Asked CommandFault) (now : ℤ) (place : ℕ) (own : Bool) (reply : Reply) → FitsRead limits h request held holds read now place own reply → IsCausedBy reply held holds
FitsRead-caused limits h request held holds (Ok (Engine asked)) now place own reply fits = caused_still (tells_fault reply) held holds (tells_none reply (Fits-tells_none limits h request asked now place own reply fits.0)) fits.1
FitsRead-caused limits h request held holds (Ok (Exporter asked)) now place own reply fits = fits.answers.caused
FitsRead-caused limits h request held holds (Err fault) now place own reply fits = caused_still (tells_fault reply) held holds (alone fault reply fits.0.reason) fits.1

FitsBlock-caused : (limits : Limits) (h : History) (request : By) (held holds : Holding) (block : Block) (now : ℤ) (place : ℕ) (own : Bool) (reply : Reply) → FitsBlock limits h request held holds block now place own reply → IsCausedBy reply held holds
FitsBlock-caused limits h request held holds (command text) now place own reply fits = FitsRead-caused limits h request held holds fits.read now place own reply fits.fits
FitsBlock-caused limits h request held holds (too_long bytes) now place own reply fits = caused_still (tells_fault reply) held holds (ap tells_fault fits.0.refused) fits.1

-- ---- a session

artefact_faults-push : (receipts : List Receipt) (r : Receipt) → artefact_faults (receipts ++ r ∷ []) ≡ artefact_faults receipts + cond (is_fault r.kind) 1 0
artefact_faults-push receipts r = sum_by-append (λ (x : Receipt). cond (is_fault x.kind) 1 0) receipts (r ∷ []) ∙ ap (λ (k : ℕ). artefact_faults receipts + k) (zero-add (cond (is_fault r.kind) 1 0))

-- a count that stands at its end is above the numbers of all receipts
one_more : (count before now n : ℕ) (told : Bool) → count ≤ before → count < n → n < 2 ^ 64 → MatchBool told (Rose before now) (now ≡ before) → count + cond told 1 0 ≤ now
one_more count before now n false below few small same = omega (arith, below, same)
one_more count before now n true below few small (inl less) = omega (arith, below, less)
one_more count before now n true below few small (inr end) = (let most = end.0 in let same = end.1 in omega (arith, few, small, most, same))

-- one receipt more, whose number is n
pub faults-push : (limits : Limits) (h : History) (request : By) (held holds : Holding) (block : Block) (receipts : List Receipt) (r : Receipt) (reply : Reply) (n : ℕ) → FitsBlock limits h request held holds block r.moment r.place r.own reply → r.kind ≡ kind_of reply → length receipts < n → n < 2 ^ 64
    → artefact_faults receipts ≤ held.faults → artefact_faults (receipts ++ r ∷ []) ≤ holds.faults
faults-push limits h request held holds block receipts r reply n fits kind few small below =
    let fewer = count_by-le-length (λ (x : Receipt). is_fault x.kind) receipts in
    let more = one_more (artefact_faults receipts) held.faults holds.faults n (tells_fault reply) below (omega (arith, fewer, few)) small (FitsBlock-caused limits h request held holds block r.moment r.place r.own reply fits) in
    subst (λ (k : ℕ). k ≤ holds.faults) (sym (artefact_faults-push receipts r ∙ ap (λ (k : ℕ). artefact_faults receipts + cond (is_fault k) 1 0) kind)) more
