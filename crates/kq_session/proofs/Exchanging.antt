-- What the reader gives makes a exchange.
use Rattle.std.proofs.Common.{◌≡◌, ◌≢◌, ℕ, Bool, true, false, List, [], ◌∷◌, ◌++◌, Option, None, Some, Result, Ok, Err, OnErr, refl, ap, sym, ◌∙◌, subst, arith, append-nil}
use Rattle.std.specs.Result.{is_err}
use Rattle.kq_world.specs.Outside.{SourceView, Delivers, Rose}
use Rattle.kq_world.proofs.Faults.{Rose-later, same-later}
use Rattle.kq_world.proofs.Told.{Delivers-none}
use Rattle.kq_catalog_journal.specs.declared.event.By.{By}
use Rattle.kq_catalog_journal.specs.declared.limits.Limits.{Limits}
use Rattle.kq_script_blocks.specs.Script.{Block, script_blocks}
use Rattle.kq_script_blocks.specs.Reading.{IsUnclosed as MayGoOn, IsPrefix, IsReading, ReadsItem as ReadsOn}
use Rattle.kq_script_blocks.specs.State.{IsAt}
use Rattle.kq_script_blocks.specs.declared.reader.Phase.{Phase}
use Rattle.kq_script_blocks.specs.declared.reader.Phase.TheVariants as phases
use Rattle.kq_script_blocks.specs.Item.{IsItemOf}
use Rattle.kq_script_blocks.specs.declared.reader.ScriptReader.{ScriptReader}
use Rattle.kq_script_blocks.specs.declared.item.Item.{Item}
use Rattle.kq_script_blocks.specs.declared.item.Item.TheVariants.{Command, TooLong, Lost, Finished}
use Rattle.kq_session.specs.declared.end.End.{End}
use Rattle.kq_session.specs.declared.end.End.TheVariants as ends
use Rattle.kq_session.specs.declared.receipt.Receipt.{Receipt}
use Rattle.kq_session.specs.Session.{IsShortFor, AreAllAtEnd, AreBlocks, IsLeft, command_bytes, input_bytes}
use Rattle.kq_session.specs.Exchanges.{State, Progress, IsAfter, Idle, ReadsBlock, Replies, Rises, Went}

-- the session, whose source tells this now, and which keeps these receipts
abbrev pub read_on : State → SourceView → List Receipt → State
read_on s source receipts = record s { contents = record s.contents { source = source }; receipts = receipts }

false_true : {b c : Bool} → b ≡ false → c ≡ b → c ≡ true → ⊥
false_true is_false same is_true = cc

-- a reader whose source has ended has given all blocks
all_given : (phase : Phase) (reader : ScriptReader) (first now : SourceView) (bytes : List ℕ) (blocks : List Block) → IsAt phase command_bytes input_bytes reader first now bytes blocks → AreAllAtEnd first.ended now.ended bytes blocks
all_given phases.Reading reader first now bytes blocks at before after = absurd (false_true before at.1 after)
all_given phases.Ended reader first now bytes blocks at before after = at.given_all
all_given phases.Closed reader first now bytes blocks at before after = absurd at

pub given_at_end : (reader : ScriptReader) (first now : SourceView) (bytes : List ℕ) (blocks : List Block) → IsReading command_bytes input_bytes reader first now bytes blocks → AreAllAtEnd first.ended now.ended bytes blocks
given_at_end reader first now bytes blocks reading = all_given reader.phase reader first now bytes blocks reading.state

-- a source that hasn't ended since says nothing of all blocks
pub open_still : (ended_before ended_now : Bool) (bytes : List ℕ) (blocks : List Block) → ended_now ≡ ended_before → AreAllAtEnd ended_before ended_now bytes blocks
open_still ended_before ended_now bytes blocks same before after = absurd (false_true before same after)

-- nothing was read, for want of room
pub Idle-short : (p : Progress) (s : State) (receipts : List Receipt) (reader : ScriptReader) → IsAfter reader s.contents.source p → receipts ≡ s.receipts → Idle p s (record s { receipts = receipts }) ends.Short
Idle-short p s receipts reader reading same = record {
  same_pass = refl;
  same_exporter = refl;
  same_receipts = same;
  bytes = [];
  gave = Delivers-none s.contents.source;
  blocks = subst (λ (l : List ℕ). IsPrefix p.given (script_blocks command_bytes l s.contents.source.ended)) (sym (append-nil p.taken)) reading.prefix;
  at_end = tt;
  all_at_end = subst (λ (l : List ℕ). AreAllAtEnd p.first.ended s.contents.source.ended l p.given) (sym (append-nil p.taken)) (given_at_end reader p.first s.contents.source p.taken p.given reading);
  readings = refl;
  accepted = refl;
}

-- what was read was no block, and nothing was answered
pub Idle-read : (p : Progress) (s : State) (now : SourceView) (receipts : List Receipt) (bytes : List ℕ) (end : End) → Delivers s.contents.source now bytes → AreBlocks end (p.taken ++ bytes) now.ended p.given → IsLeft end p.first now → AreAllAtEnd p.first.ended now.ended (p.taken ++ bytes) p.given → receipts ≡ s.receipts → Idle p s (read_on s now receipts) end
Idle-read p s now receipts bytes end gave blocks at_end all same = record {
  same_pass = refl;
  same_exporter = refl;
  same_receipts = same;
  bytes = bytes;
  gave = gave;
  blocks = blocks;
  at_end = at_end;
  all_at_end = all;
  readings = refl;
  accepted = refl;
}

-- an item that isn't the end is a block
pub ReadsBlock-item : (p : Progress) (old now : SourceView) (reader : ScriptReader) (item : Item) → item ≢ Finished → ReadsOn command_bytes input_bytes (Ok item) reader p.first old now p.taken p.given → (block : Block) × IsItemOf command_bytes item block × ReadsBlock p old now reader block
ReadsBlock-item p old now reader (Command bytes) not reads = (reads.outcome.0, reads.outcome.1, record { bytes = reads.before ++ reads.last; gave = reads.gives; reading = reads.outcome.2 })
ReadsBlock-item p old now reader (TooLong bytes) not reads = (reads.outcome.0, reads.outcome.1, record { bytes = reads.before ++ reads.last; gave = reads.gives; reading = reads.outcome.2 })
ReadsBlock-item p old now reader Lost not reads = (reads.outcome.0, reads.outcome.1, record { bytes = reads.before ++ reads.last; gave = reads.gives; reading = reads.outcome.2 })
ReadsBlock-item p old now reader Finished not reads = absurd (not refl)

-- a block that was read and answered
pub Went-reply : {E : Type 0} (limits : Limits) (by : By) (p : Progress) (s new : State) (reader : ScriptReader) (now : SourceView) (receipts : List Receipt) (item : Item) (result : Result (Unit {0}) E)
    → item ≢ Finished → ReadsOn command_bytes input_bytes (Ok item) reader p.first s.contents.source now p.taken p.given → receipts ≡ s.receipts → new.contents.source ≡ now
    → Replies limits by item (read_on s now receipts) new result → Went limits by p s new reader result
Went-reply limits by p s new reader now receipts item result not reads same is_now replies =
    let read = ReadsBlock-item p s.contents.source now reader item not reads in
    let done = replies command_bytes read.0 read.1 in
    record {
      block = read.0;
      reads = subst (λ (v : SourceView). ReadsBlock p s.contents.source v reader read.0) (sym is_now) read.2;
      replied = record {
        exchange = done.exchange;
        same_block = done.same_block;
        answered = record {
          step = done.answered.step;
          held = done.answered.held;
          holds = done.answered.holds;
          number = done.answered.number;
          kind = done.answered.kind;
          receipt = subst (λ (l : List Receipt). new.receipts ≡ l ++ done.exchange.receipt ∷ []) same done.answered.receipt;
          moment = done.answered.moment;
        };
        written = done.written;
      };
    }

-- a call that didn't fail, or that isn't the one that fails so
pub Rises-none : (before now : ℕ) (fault : Type 0) → now ≡ before → (fault → ⊥) → Rises before now fault
Rises-none before now fault same never = record { never_falls = same-later before now same; rose = λ f. absurd (never f); stays = λ other. same }

pub Rises-fault : (before now : ℕ) (fault : Type 0) → Rose before now → fault → Rises before now fault
Rises-fault before now fault rose is = record { never_falls = Rose-later before now rose; rose = λ f. rose; stays = λ other. absurd (other is) }

-- an exchange without an end has none
pub not_ended : (end : End) → None ≡ Some end → ⊥
not_ended end e = cc

-- the only end that says more of memory is one for want of it
pub IsShortFor-same : (end other : End) (refused : Option ℕ) (receipts : List Receipt) → IsShortFor end refused receipts → Some end ≡ Some other → IsShortFor other refused receipts
IsShortFor-same end other refused receipts short e = let same : end ≡ other = cc in subst (λ (x : End). IsShortFor x refused receipts) same short

pub err_told : {A E P : Type 0} (r : Result A E) → is_err r ≡ true → OnErr r P → P
err_told (Ok x) told h = absurd (cc)
err_told (Err e) told h = h

-- the exchange of the end, after others that didn't fail
pub Rises-end : (before between now : ℕ) (end fault : End) → between ≡ before → Rises between now (Some end ≡ Some fault) → Rises before now (end ≡ fault)
Rises-end before between now end fault same rises = record {
  never_falls = omega (arith, same, rises.never_falls);
  rose = λ e. subst (λ (n : ℕ). Rose n now) same (rises.rose (ap Some e));
  stays = λ other. rises.stays (λ e. other (same_end e)) ∙ same;
}
  where
    same_end : Some end ≡ Some fault → end ≡ fault
    same_end e = cc

-- a reader that is reading may be asked
pub MayGoOn-reading : (reader : ScriptReader) (now : SourceView) (p : Progress) → IsAfter reader now p → MayGoOn reader
MayGoOn-reading reader now p reading = λ e. subst (λ (phase : Phase). IsAt phase command_bytes input_bytes reader p.first now p.taken p.given) e reading.state
