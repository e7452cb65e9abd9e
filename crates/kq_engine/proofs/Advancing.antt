-- One call advances a history; what fitted goes on to fit.
use Rattle.std.proofs.Common.{◌≡◌, ◌≤◌, ◌+◌, ℕ, ℤ, Bool, true, false, List, [], Some, None, ◌⊎◌, inl, inr, ◌++◌, length, map, refl, take, ap, sym, ◌∙◌, subst, arith, append-nil, length-append}
use Rattle.std.proofs.lemmas.List.{take_all, take-append-le, length_push}
use Rattle.kq_catalog_journal.specs.declared.event.By.{By}
use Rattle.kq_catalog_journal.specs.declared.event.Commit.{Commit}
use Rattle.kq_catalog_journal.specs.declared.event.Event.{Event}
use Rattle.kq_catalog_journal.specs.declared.event.Operation.{Operation}
use Rattle.kq_catalog_journal.specs.declared.event.Operation.TheVariants as operation
use Rattle.kq_catalog_journal.specs.declared.limits.Limits.{Limits}
use Rattle.kq_catalog_journal.specs.History.{History, CommitAt, commit_at, commits_at, commits_of, cursor, log}
use Rattle.kq_catalog_journal.proofs.Histories.{commits_at-push}
use Rattle.kq_read_commands.specs.declared.command.Command.{Command}
use Rattle.kq_engine.specs.declared.work.Outcome.{Outcome}
use Rattle.kq_reply.specs.declared.reply.Reply.{Reply}
use Rattle.kq_engine.specs.declared.work.Work.{Work}
use Rattle.kq_engine_prepare.specs.Fits.{AnswersCommand, FitsNow, Fits, Performs, Tends, own_commit}
use Rattle.kq_engine.specs.Acts.{Tended, Acts, Appends, Advances}
use Rattle.kq_engine_prepare.specs.Merges.{IsMergedBy, IsSettled, NamesAll}
use Rattle.kq_engine_prepare.proofs.Accepting.{Makes-granted}
use Rattle.kq_engine.proofs.Acting.{Acts-since}
use Rattle.kq_engine_prepare.proofs.Telling.{Makes-still, settled_requested, settled_names, still_requested, still_names}

-- what fits a history fits each that begins with it
pub Fits-append : (limits : Limits) (h more : History) (request : By) (command : Command) (now : ℤ) (place : ℕ) (own : Bool) (reply : Reply) → Fits limits h request command now place own reply → Fits limits (h ++ more) request command now place own reply
Fits-append limits h more request command now place own reply fits = record {
  within = omega (arith, fits.within, length-append h more);
  at = subst (λ (t : History). FitsNow limits t request command now own reply) (sym (take-append-le place h more fits.within)) fits.at;
  requested = subst (λ (t : History). IsMergedBy t request reply) (sym (take-append-le place h more fits.within)) fits.requested;
}

-- at the end of the history
pub Fits-end : (limits : Limits) (h : History) (request : By) (command : Command) (now : ℤ) (place : ℕ) (own : Bool) (reply : Reply) → place ≡ length h → FitsNow limits h request command now own reply → IsMergedBy h request reply → Fits limits h request command now place own reply
Fits-end limits h request command now place own reply at_end fits requested = record {
  within = omega arith;
  at = subst (λ (t : History). FitsNow limits t request command now own reply) (sym (take_all place h (omega arith))) fits;
  requested = subst (λ (t : History). IsMergedBy t request reply) (sym (take_all place h (omega arith))) requested;
}

-- nothing is appended
pub Appends-none : (limits : Limits) (h : History) (request : By) (command : Command) (place : ℕ) (reply : Reply) → Appends limits h h request command (record { place = place; own = false; reply = reply })
Appends-none limits h request command place reply = record {
  made = None;
  may_make = tt;
  appended = sym (append-nil h);
  commits = sym (append-nil (commits_at h));
}

-- what a command makes beside its reply is no commit
-- what is made beside a reply is the command's
tends_performs : (limits : Limits) (old : History) (command : Command) (reply : Reply) (made : Operation) → Tends limits old command reply made → Performs limits old command reply made
tends_performs limits old command reply (operation.Commit c) tends = absurd tends
tends_performs limits old command reply (operation.Fold view to) tends = tends
tends_performs limits old command reply (operation.Merge table ids new) tends = tends

tends_no_commit : (limits : Limits) (old : History) (command : Command) (reply : Reply) (made : Operation) → Tends limits old command reply made → commits_of made ≡ []
tends_no_commit limits old command reply (operation.Commit c) tends = absurd tends
tends_no_commit limits old command reply (operation.Fold view to) tends = refl
tends_no_commit limits old command reply (operation.Merge table ids new) tends = refl

tended_appends : (limits : Limits) (old new : History) (work : Work) (began place : ℕ) (reply : Reply) → Tended limits old new work began reply → Appends limits old new work.by work.command (record { place = place; own = false; reply = reply })
tended_appends limits old new work began place reply tended =
    let event : Event = record { by = work.by; operation = tended.made } in
    let none : commit_at event (length old + 1) ≡ [] = ap (map (λ (c : Commit). let m : CommitAt = record { place = length old + 1; by = work.by } in m)) (tends_no_commit limits old work.command reply tended.made tended.tends) in
    record {
      made = Some tended.made;
      may_make = (tended.granted, tends_performs limits old work.command reply tended.made tended.tends);
      appended = tended.appended;
      commits = ap commits_at tended.appended ∙ commits_at-push old event ∙ ap (λ (more : List CommitAt). commits_at old ++ more) none;
    }

same_cursor : (old new : History) (began place : ℕ) → new ≡ old → length new ≤ place → cursor (take began (take place new)) ≤ cursor (take began old)
same_cursor old new began place stays whole = let same = ap (λ (h : History). cursor (take began h)) (take_all place new whole ∙ stays) in omega (arith, same)

acts_at : (limits : Limits) (old new : History) (work : Work) (began : ℕ) (place : ℕ) (own : Bool) (reply : Reply) → began ≤ length old → Acts limits old new work began (record { place = place; own = own; reply = reply }) → Advances limits old new work began (record { place = place; own = own; reply = reply })
acts_at limits old new work began place true reply since acts =
    let c = acts.1.0 in
    let is = acts.1.1 in
    let longer : length new ≡ length old + 1 = ap length is ∙ length_push old _ in
    let still = Makes-still limits (log old) work.command reply c acts.1.2 in
    record {
      appends = record {
        made = Some (operation.Commit c);
        may_make = (Makes-granted limits (log old) work.command reply c acts.1.2, acts.1.2);
        appended = is;
        commits = ap commits_at is ∙ commits_at-push old _ ∙ ap (λ (n : ℕ). commits_at old ++ own_commit true n work.by) (sym longer ∙ sym acts.0);
      };
      fits = Fits-end limits new work.by work.command work.now place true reply acts.0 (old, c, is, acts.1.2) (still_requested new work.by reply still);
      since = omega arith;
      names_all = still_names (take place new) began reply still;
    }
acts_at limits old new work began place false reply since acts = by_case acts.1
  where
    by_case : ((new ≡ old) × AnswersCommand limits old work.now work.command reply × IsSettled (cursor (take began old)) reply) ⊎ Tended limits old new work began reply → Advances limits old new work began (record { place = place; own = false; reply = reply })
    by_case (inl stays) = record {
      appends = subst (λ (h : History). Appends limits old h work.by work.command (record { place = place; own = false; reply = reply })) (sym stays.0) (Appends-none limits old work.by work.command place reply);
      fits = Fits-end limits new work.by work.command work.now place false reply acts.0 (subst (λ (h : History). AnswersCommand limits h work.now work.command reply) (sym stays.0) stays.1) (settled_requested (cursor (take began old)) new work.by reply stays.2);
      since = omega (arith, ap length stays.0);
      names_all = settled_names (cursor (take began old)) (take place new) began reply (same_cursor old new began place stays.0 (omega (arith, acts.0))) stays.2;
    }
    by_case (inr tended) = let longer : length new ≡ length old + 1 = ap length tended.appended ∙ length_push old _ in record {
      appends = tended_appends limits old new work began place reply tended;
      fits = Fits-end limits new work.by work.command work.now place false reply acts.0 tended.answers (λ extents e. record { before = old; made = tended.made; last = tended.appended });
      since = omega (arith, longer, acts.0);
      names_all = subst (λ (h : History). NamesAll h began reply) (sym (take_all place new (omega (arith, acts.0)))) tended.names_all;
    }

pub Advances-acts : (limits : Limits) (old new : History) (work : Work) (began : ℕ) (outcome : Outcome) → began ≤ length old → Acts limits old new work began outcome → Advances limits old new work began outcome
Advances-acts limits old new work began outcome since acts = acts_at limits old new work began outcome.place outcome.own outcome.reply since acts

-- what was decided at the end of the history
pub Advances-decided : (limits : Limits) (old new : History) (work : Work) (began : ℕ) (outcome : Outcome) → began ≤ length old → Acts limits old new work (length old) outcome → Advances limits old new work began outcome
Advances-decided limits old new work began outcome since acts = Advances-acts limits old new work began outcome since (Acts-since limits old new work began (length old) outcome since acts)
