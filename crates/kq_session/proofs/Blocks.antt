-- What fits a block goes on to fit.
use Rattle.std.proofs.Common.{◌≡◌, ◌⊎◌, ◌+◌, ◌∷◌, Option, Some, None, ap, ◌∙◌, take_all, ℕ, ℤ, Bool, ◌++◌, List, length, take, [], true, false, refl, inl, inr, subst, sym, arith, length-append, append-nil, add-zero, Result, Ok, Err}
use mathlib.Core.List.{IsPrefix}
use Rattle.kq_lock.proofs.Beginnings.{IsPrefix-refl, IsPrefix-trans}
use Rattle.std.proofs.lemmas.List.{take-append-le}
use Rattle.kq_catalog_journal.specs.declared.event.By.{By}
use Rattle.kq_catalog_journal.specs.declared.limits.Limits.{Limits}
use Rattle.kq_catalog_journal.specs.History.{History}
use Rattle.kq_read_commands.specs.declared.command.Asked.{Asked}
use Rattle.kq_read_commands.specs.declared.command.Asked.TheVariants.{Engine, Exporter}
use Rattle.kq_read_commands.specs.declared.command.Export.{Export}
use Rattle.kq_read_commands.specs.declared.command.CommandFault.{CommandFault}
use Rattle.kq_read_commands.specs.declared.command.CommandFault.TheVariants.{NotText, Syntax, Deep, Unsupported, Memory}
use Rattle.kq_read_commands.specs.Reads.{ReadsAs}
use Rattle.kq_reply.specs.Number.{kind_of, number_of}
use Rattle.kq_reply.specs.declared.refusal.Refusal.{Refusal}
use Rattle.kq_reply.specs.declared.refusal.Refusal.TheVariants as refusals
use Rattle.kq_reply.specs.declared.reply.Reply.{Reply}
use Rattle.kq_reply.specs.declared.reply.Reply.TheVariants as replies
use Rattle.kq_engine.specs.declared.work.Outcome.{Outcome}
use Rattle.kq_engine.specs.kq_engine_prepare.Merges.{IsStill}
use Rattle.kq_engine.specs.kq_engine_prepare.Fits.{MayMake, event_by}
use Rattle.kq_engine.specs.Shared.{Applies, PassView, commit_count}
use Rattle.kq_engine.specs.declared.work.Work.{Work}
use Rattle.kq_engine.proofs.kq_engine_prepare.Accepting.{granted_kind}
use Rattle.kq_catalog_journal.specs.declared.event.Operation.{Operation}
use Rattle.kq_read_commands.specs.declared.command.Command.{Command}
use Rattle.kq_script_blocks.specs.Script.{Block, command, too_long}
use Rattle.kq_engine.proofs.Advancing.{Fits-append}
use Rattle.kq_engine.proofs.kq_engine_prepare.Telling.{refused_still, still_names}
use Rattle.kq_export_interface.specs.Due.{AnswersHolding, ExporterView, Holding}
use Rattle.kq_export_interface.proofs.Replies.{IsOfExports, of_exports}
use Rattle.kq_session.specs.Blocks.{RefusesAlone, FitsExport, FitsRead, FitsBlock, AnswersBlock, AnswersExport, GoesOn, MakesFor, MayMakeFor, is_early, refusal_of, serves_to}

RefusesAlone-append : (h more : History) (place : ℕ) (own : Bool) (reply : Reply) (r : Refusal) → RefusesAlone h place own reply r → RefusesAlone (h ++ more) place own reply r
RefusesAlone-append h more place own reply r refuses = record {
  within = omega (arith, refuses.within, length-append h more);
  not_own = refuses.not_own;
  reason = refuses.reason;
}

FitsExport-append : (h more : History) (actor : ℕ) (held holds : Holding) (asked : Export) (place : ℕ) (own : Bool) (reply : Reply) → FitsExport h actor held holds asked place own reply → FitsExport (h ++ more) actor held holds asked place own reply
FitsExport-append h more actor held holds asked place own reply fits = record {
  within = omega (arith, fits.within, length-append h more);
  not_own = fits.not_own;
  answers = subst (λ (g : History). AnswersHolding (serves_to actor) g held holds asked reply) (sym (take-append-le place h more fits.within)) fits.answers;
}

FitsRead-append : (limits : Limits) (h more : History) (request : By) (held holds : Holding) (read : Result Asked CommandFault) (now : ℤ) (place : ℕ) (own : Bool) (reply : Reply) → FitsRead limits h request held holds read now place own reply → FitsRead limits (h ++ more) request held holds read now place own reply
FitsRead-append limits h more request held holds (Ok (Engine asked)) now place own reply fits = (Fits-append limits h more request asked now place own reply fits.0, fits.1)
FitsRead-append limits h more request held holds (Ok (Exporter asked)) now place own reply fits = FitsExport-append h more request.actor held holds asked place own reply fits
FitsRead-append limits h more request held holds (Err fault) now place own reply fits = (RefusesAlone-append h more place own reply (refusal_of fault) fits.0, fits.1)

-- what fits a history fits each that begins with it
pub FitsBlock-append : (limits : Limits) (h more : History) (request : By) (held holds : Holding) (block : Block) (now : ℤ) (place : ℕ) (own : Bool) (reply : Reply) → FitsBlock limits h request held holds block now place own reply → FitsBlock limits (h ++ more) request held holds block now place own reply
FitsBlock-append limits h more request held holds (command text) now place own reply fits = record {
  read = fits.read;
  reads = fits.reads;
  fits = FitsRead-append limits h more request held holds fits.read now place own reply fits.fits;
}
FitsBlock-append limits h more request held holds (too_long bytes) now place own reply fits = (
  record {
    within = (let within = fits.0.within in omega (arith, within, length-append h more));
    not_own = fits.0.not_own;
    refused = fits.0.refused;
  },
  fits.1,
)

-- an exporter that wasn't asked goes on
pub GoesOn-still : (seen more : History) (e : ExporterView) → IsPrefix e.seen seen → IsPrefix seen more → GoesOn more e e
GoesOn-still seen more e behind later = record { serves = refl; behind = IsPrefix-trans e.seen seen more behind later }

-- one that was asked over what has then been seen, or wasn't
pub GoesOn-asked : (old new : History) (e now : ExporterView) → now.serves ≡ e.serves → IsPrefix e.seen old → IsPrefix old new → (now.seen ≡ e.seen) ⊎ (now.seen ≡ new) → GoesOn new e now
GoesOn-asked old new e now serves behind later (inl same) = record { serves = serves; behind = subst (λ (s : History). IsPrefix s new) (sym same) (IsPrefix-trans e.seen old new behind later) }
GoesOn-asked old new e now serves behind later (inr all) = record { serves = serves; behind = subst (λ (s : History). IsPrefix s new) (sym all) (IsPrefix-refl new) }

-- nothing was asked of the engine
pub AnswersBlock-refused : (limits : Limits) (p : PassView) (e : ExporterView) (by : By) (block : Block) (now : ℤ) (r : Refusal) (outcome : Outcome) → IsPrefix e.seen p.seen → outcome ≡ record { place = length p.seen; own = false; reply = replies.Refused r } → is_early (number_of r) ≡ true → FitsBlock limits p.seen by e.holding e.holding block now (length p.seen) false (replies.Refused r) → AnswersBlock limits p p e e by block now outcome
AnswersBlock-refused limits p e by block now r outcome behind is early fits = subst (λ (o : Outcome). AnswersBlock limits p p e e by block now o) (sym is) (record {
  of = refl;
  worth = refl;
  seen = IsPrefix-refl p.seen;
  operation = None;
  added = sym (append-nil p.added);
  may_make = tt;
  made = sym (add-zero p.made);
  takes = [];
  taken = sym (append-nil p.taken);
  enough = early;
  fits = fits;
  exporter = record { serves = refl; behind = behind };
  since = omega arith;
  names_all = still_names (take (length p.seen) p.seen) (length p.seen) (replies.Refused r) (refused_still r);
  within = omega arith;
})

early : (f : CommandFault) → is_early (number_of (refusal_of f)) ≡ true
early (NotText at) = refl
early (Syntax at) = refl
early (Deep at) = refl
early (Unsupported at) = refl
early Memory = refl

-- a text that was refused
pub AnswersBlock-text : (limits : Limits) (p : PassView) (e : ExporterView) (by : By) (text : List ℕ) (now : ℤ) (f : CommandFault) (outcome : Outcome) → IsPrefix e.seen p.seen → outcome ≡ record { place = length p.seen; own = false; reply = replies.Refused (refusal_of f) } → ReadsAs text (Err f) → AnswersBlock limits p p e e by (command text) now outcome
AnswersBlock-text limits p e by text now f outcome behind is reads = AnswersBlock-refused limits p e by (command text) now (refusal_of f) outcome behind is (early f) (record {
  read = Err f;
  reads = reads;
  fits = (record { within = omega arith; not_own = refl; reason = inl refl }, refl);
})

-- a block that was too long
pub AnswersBlock-long : (limits : Limits) (p : PassView) (e : ExporterView) (by : By) (bytes : ℕ) (now : ℤ) (outcome : Outcome) → IsPrefix e.seen p.seen → outcome ≡ record { place = length p.seen; own = false; reply = replies.Refused (refusals.TooLong bytes) } → AnswersBlock limits p p e e by (too_long bytes) now outcome
AnswersBlock-long limits p e by bytes now outcome behind is = AnswersBlock-refused limits p e by (too_long bytes) now (refusals.TooLong bytes) outcome behind is refl (record { within = omega arith; not_own = refl; refused = refl }, refl)

-- want of memory fits every text
pub AnswersBlock-memory : (limits : Limits) (p : PassView) (e : ExporterView) (by : By) (text : List ℕ) (now : ℤ) (outcome : Outcome) → IsPrefix e.seen p.seen → outcome ≡ record { place = length p.seen; own = false; reply = replies.Refused refusals.Memory } → AnswersBlock limits p p e e by (command text) now outcome
AnswersBlock-memory limits p e by text now outcome behind is = AnswersBlock-refused limits p e by (command text) now refusals.Memory outcome behind is refl (record {
  read = Err Memory;
  reads = tt;
  fits = (record { within = omega arith; not_own = refl; reason = inr refl }, refl);
})

-- what an exporter answers tells of no merge and of no fold
still_of_exports : (reply : Reply) → IsOfExports reply → IsStill reply
still_of_exports (replies.Done cursor) of = absurd of
still_of_exports (replies.Kept cursor) of = absurd of
still_of_exports (replies.Ingested cursor rows) of = absurd of
still_of_exports (replies.Skipped cursor) of = absurd of
still_of_exports (replies.Folded cursor) of = absurd of
still_of_exports (replies.Merged extents) of = absurd of
still_of_exports replies.Nothing of = record { no_merge = λ n e. cc; no_fold = λ n e. cc }
still_of_exports (replies.Rows text) of = absurd of
still_of_exports replies.Exporting of = record { no_merge = λ n e. cc; no_fold = λ n e. cc }
still_of_exports (replies.Exported from to rows) of = record { no_merge = λ n e. cc; no_fold = λ n e. cc }
still_of_exports (replies.Refused r) of = refused_still r

-- the exporter was asked
pub AnswersBlock-export : (limits : Limits) (old new : PassView) (held holds : ExporterView) (by : By) (text : List ℕ) (asked : Export) (now : ℤ) (outcome : Outcome) → held.serves ≡ serves_to by.actor → ReadsAs text (Ok (Exporter asked)) → AnswersExport old new held holds asked outcome → AnswersBlock limits old new held holds by (command text) now outcome
AnswersBlock-export limits old new held holds by text asked now outcome serves reads answers =
    let all : take outcome.place new.seen ≡ new.seen = ap (λ (n : ℕ). take n new.seen) answers.place ∙ take_all (length new.seen) new.seen (omega arith) in
    record {
      of = ap (λ (p : PassView). p.of) answers.pass;
      worth = ap (λ (p : PassView). p.worth) answers.pass;
      seen = answers.seen;
      operation = None;
      added = ap (λ (p : PassView). p.added) answers.pass ∙ sym (append-nil old.added);
      may_make = tt;
      made = ap (λ (p : PassView). p.made) answers.pass ∙ sym (add-zero old.made) ∙ ap (λ (own : Bool). old.made + commit_count own) (sym answers.own);
      takes = length new.seen ∷ [];
      taken = ap (λ (p : PassView). p.taken) answers.pass;
      enough = (let place = answers.place in omega (arith, place), omega arith);
      fits = record {
        read = Ok (Exporter asked);
        reads = reads;
        fits = record {
          within = (let place = answers.place in omega (arith, place));
          not_own = answers.own;
          answers = subst (λ (g : History). AnswersHolding (serves_to by.actor) g held.holding holds.holding asked outcome.reply) (sym all) (subst (λ (b : Bool). AnswersHolding b new.seen held.holding holds.holding asked outcome.reply) serves answers.answers);
        };
      };
      exporter = answers.exporter;
      since = (let place = answers.place in let grown = ap length answers.seen.1 in let long = length-append old.seen answers.seen.0 in omega (arith, place, grown, long));
      names_all = still_names (take outcome.place new.seen) (length old.seen) outcome.reply (still_of_exports outcome.reply (of_exports held.serves new.seen held.holding.exports holds.holding.exports asked outcome.reply answers.answers.due));
      within = (let place = answers.place in omega (arith, place));
    }

may_make_for : (limits : Limits) (seen found : History) (by : By) (text : List ℕ) (asked : Command) (reply : Reply) (made : Option Operation) → ReadsAs text (Ok (Engine asked)) → seen ≡ found ++ event_by by made → MayMake limits found asked reply made → MayMakeFor limits seen by (command text) reply made
may_make_for limits seen found by text asked reply None reads last may = tt
may_make_for limits seen found by text asked reply (Some made) reads last may = (asked, reads, found, last, may)

-- such a reply is no refusal
pub makes_granted : (limits : Limits) (seen : History) (by : By) (block : Block) (reply : Reply) (made : Operation) → MakesFor limits seen by block reply made → kind_of reply ≡ 0
makes_granted limits seen by (command text) reply made (asked, reads, found, last, may) = granted_kind reply may.0
makes_granted limits seen by (too_long bytes) reply made never = absurd never

-- a command that the engine answered
pub AnswersBlock-applied : (limits : Limits) (old new : PassView) (e : ExporterView) (work : Work) (text : List ℕ) (outcome : Outcome) → IsPrefix e.seen old.seen → ReadsAs text (Ok (Engine work.command)) → Applies limits old new work outcome → AnswersBlock limits old new e e work.by (command text) work.now outcome
AnswersBlock-applied limits old new e work text outcome behind reads applies = record {
  of = applies.of;
  worth = applies.worth;
  seen = applies.seen;
  operation = applies.last.appends.made;
  added = applies.last.added;
  may_make = may_make_for limits new.seen applies.last.found work.by text work.command outcome.reply applies.last.appends.made reads applies.last.appends.appended applies.last.appends.may_make;
  made = applies.made;
  takes = applies.takes.first ∷ applies.takes.more;
  taken = applies.takes.gains;
  enough = (applies.takes.since, applies.takes.few);
  fits = record { read = Ok (Engine work.command); reads = reads; fits = (applies.fits, refl) };
  exporter = GoesOn-still old.seen new.seen e behind applies.seen;
  since = applies.since;
  names_all = applies.names_all;
  within = applies.fits.within;
}
