-- What one take of the catalogue does to a pass.
use Rattle.std.proofs.Common.{◌≡◌, ◌≤◌, ◌+◌, ℕ, false, List, [], ◌∷◌, ◌++◌, length, take, refl, ap, sym, ◌∙◌, subst, append-nil, append_assoc, length-append, arith, inl, inr, None, add-zero}
use Rattle.std.proofs.lemmas.List.{take_all}
use mathlib.Core.List.{IsPrefix}
use Rattle.kq_lock.specs.Histories.{gained}
use Rattle.kq_lock.specs.Passes.{TurnId}
use Rattle.kq_lock.proofs.Beginnings.{IsPrefix-refl, IsPrefix-trans, gained-append, take-IsPrefix}
use Rattle.kq_catalog_journal.specs.declared.limits.Limits.{Limits}
use Rattle.kq_catalog_journal.specs.History.{History, commits_at, cursor}
use Rattle.kq_engine.specs.declared.work.Outcome.{Outcome}
use Rattle.kq_engine.specs.declared.work.Work.{Work}
use Rattle.kq_reply.specs.declared.refusal.Refusal.{Refusal}
use Rattle.kq_reply.specs.declared.refusal.Refusal.TheVariants as refusals
use Rattle.kq_reply.specs.declared.reply.Reply.TheVariants as replies
use Rattle.kq_engine.specs.Acts.{Advances}
use Rattle.kq_engine_prepare.specs.Fits.{AnswersCommand, IsDue, event_by}
use Rattle.kq_engine_prepare.specs.Found.{IsReady, MayWantMemory, TakesMemory}
use Rattle.kq_engine_prepare.proofs.Wanting.{due_wants}
use Rattle.kq_reply.specs.declared.reply.Reply.{Reply}
use Rattle.kq_engine_prepare.specs.declared.found.Found.TheVariants as founds
use Rattle.kq_engine.specs.Shared.{PassView, Applies, Finishes, IsJustTaken, Concludes, commit_count}
use Rattle.kq_engine.proofs.Advancing.{Fits-end}
use Rattle.kq_engine.proofs.Counting.{cursor-append, cursor-gained}
use Rattle.kq_engine_prepare.specs.Merges.{NamesAll}
use Rattle.kq_engine_prepare.proofs.Telling.{NamesAll-since, cursor_take, refused_still, settled_requested, settled_names, still_names, still_requested}

-- what a history gained is what was appended
pub gained_of : (old new more : History) → new ≡ old ++ more → gained old new ≡ more
gained_of old new more is = ap (gained old) is ∙ gained-append old more

-- a step that began on what was seen
pub Finishes-step : (limits : Limits) (of : TurnId) (seen old new added : History) (worth : ℕ) (taken : List ℕ) (work : Work) (began : ℕ) (outcome : Outcome) → began ≡ length seen → IsPrefix seen old → Advances limits old new work began outcome → (outcome.reply ≡ replies.Refused refusals.Memory → MayWantMemory seen (take outcome.place new) work.command)
    → Finishes limits (record { of = of; seen = seen; worth = worth; added = added; made = cursor added; taken = taken })
    (record { of = of; seen = new; worth = worth; added = added ++ gained old new; made = cursor (added ++ gained old new); taken = taken ++ length old ∷ [] }) work outcome
Finishes-step limits of seen old new added worth taken work began outcome here begins step takes =
    let goes_on : IsPrefix old new = (event_by work.by step.appends.made, sym step.appends.appended) in
    record {
      of = refl;
      worth = refl;
      seen = IsPrefix-trans seen old new begins goes_on;
      found = old;
      begins = begins;
      taken = refl;
      appends = step.appends;
      added = ap (λ (more : History). added ++ more) (gained_of old new (event_by work.by step.appends.made) step.appends.appended);
      made = cursor-append added (gained old new) ∙ ap (λ (k : ℕ). cursor added + k) (cursor-gained old new outcome.own outcome.place work.by goes_on step.appends.commits);
      fits = step.fits;
      since = omega (arith, here, step.since);
      names_all = subst (λ (n : ℕ). NamesAll (take outcome.place new) n outcome.reply) here step.names_all;
      memory = takes;
    }

-- what was answered on a snapshot of what was seen concludes with no take
pub Concludes-answered : (limits : Limits) (pass : PassView) (work : Work) (reply : Reply) → IsJustTaken pass → IsReady limits pass.seen work.now work.command (founds.Says reply)
    → Concludes limits pass pass work (record { place = length pass.seen; own = false; reply = reply })
Concludes-answered limits pass work reply fresh due = record {
  of = refl;
  worth = refl;
  seen = ([], append-nil pass.seen);
  more = [];
  few = omega arith;
  taken = sym (append-nil pass.taken);
  last = record { found = pass.seen; begins = IsPrefix-refl pass.seen; before = fresh.before; last = fresh.last; appends = record { made = None; may_make = tt; appended = sym (append-nil pass.seen); commits = sym (append-nil (commits_at pass.seen)) }; added = sym (append-nil pass.added) };
  made = omega arith;
  fits = Fits-end limits pass.seen work.by work.command work.now (length pass.seen) false reply refl (inr due.0) (settled_requested (cursor pass.seen) pass.seen work.by reply due.1);
  since = omega arith;
  names_all = settled_names (cursor pass.seen) (take (length pass.seen) pass.seen) (length pass.seen) reply (below (take_all (length pass.seen) pass.seen (omega arith))) due.1;
  memory = λ wants.
      subst (λ (h : History). MayWantMemory pass.seen h work.command) (sym (take_all (length pass.seen) pass.seen (omega arith)))
      (due_wants limits pass.seen work.now work.command (subst (IsDue limits pass.seen work.now work.command) wants due.0));
}
  where
    below : take (length pass.seen) pass.seen ≡ pass.seen → cursor (take (length pass.seen) (take (length pass.seen) pass.seen)) ≤ cursor pass.seen
    below whole = let fewer = cursor_take (length pass.seen) (take (length pass.seen) pass.seen) in let same = ap cursor whole in omega (arith, fewer, same)

pub longer : (old new : History) → IsPrefix old new → length old ≤ length new
longer old new begins = let whole = ap length begins.1 in omega (arith, whole, length-append old begins.0)

same_refusal : (r s : Refusal) → replies.Refused r ≡ replies.Refused s → r ≡ s
same_refusal r s e = cc

-- refused on what one take found
pub Applies-refused : (limits : Limits) (old new : PassView) (work : Work) (r : Refusal) → IsPrefix old.seen new.seen → new ≡ record old { seen = new.seen; taken = old.taken ++ length new.seen ∷ [] }
    → AnswersCommand limits new.seen work.now work.command (replies.Refused r) → (r ≡ refusals.Memory → TakesMemory new.seen work.command) → Applies limits old new work (record { place = length new.seen; own = false; reply = replies.Refused r })
Applies-refused limits old new work r begins took answers takes =
    let whole : take (length new.seen) new.seen ≡ new.seen = take_all (length new.seen) new.seen (omega arith) in
    let low = longer old.seen new.seen begins in
    record {
      of = ap (λ (p : PassView). p.of) took;
      worth = ap (λ (p : PassView). p.worth) took;
      seen = begins;
      takes = record { first = length new.seen; more = []; gains = ap (λ (p : PassView). p.taken) took; few = omega arith; since = omega arith };
      last = record {
        found = new.seen;
        begins = begins;
        before = old.taken;
        last = ap (λ (p : PassView). p.taken) took;
        appends = record { made = None; may_make = tt; appended = sym (append-nil new.seen); commits = sym (append-nil (commits_at new.seen)) };
        added = ap (λ (p : PassView). p.added) took ∙ sym (append-nil old.added);
      };
      made = ap (λ (p : PassView). p.made) took ∙ sym (add-zero old.made);
      fits = Fits-end limits new.seen work.by work.command work.now (length new.seen) false (replies.Refused r) refl answers (still_requested new.seen work.by (replies.Refused r) (refused_still r));
      since = omega (arith, low);
      names_all = still_names (take (length new.seen) new.seen) (length old.seen) (replies.Refused r) (refused_still r);
      memory = λ wants. inl (subst (λ (h : History). TakesMemory h work.command) (sym whole) (takes (same_refusal r refusals.Memory wants)));
    }

-- prepared on what one take found, and concluded
pub Applies-concluded : (limits : Limits) (old mid new : PassView) (work : Work) (outcome : Outcome) → IsPrefix old.seen mid.seen → mid ≡ record old { seen = mid.seen; taken = old.taken ++ length mid.seen ∷ [] } → Concludes limits mid new work outcome → Applies limits old new work outcome
Applies-concluded limits old mid new work outcome begins took concludes =
    let low = longer old.seen mid.seen begins in
    record {
      of = concludes.of ∙ ap (λ (p : PassView). p.of) took;
      worth = concludes.worth ∙ ap (λ (p : PassView). p.worth) took;
      seen = IsPrefix-trans old.seen mid.seen new.seen begins concludes.seen;
      takes = record {
        first = length mid.seen;
        more = concludes.more;
        gains = concludes.taken ∙ ap (λ (p : PassView). p.taken ++ concludes.more) took ∙ append_assoc old.taken (length mid.seen ∷ []) concludes.more;
        few = concludes.few;
        since = concludes.since;
      };
      last = record {
        found = concludes.last.found;
        begins = IsPrefix-trans old.seen mid.seen concludes.last.found begins concludes.last.begins;
        before = concludes.last.before;
        last = concludes.last.last;
        appends = concludes.last.appends;
        added = concludes.last.added ∙ ap (λ (p : PassView). p.added ++ event_by work.by concludes.last.appends.made) took;
      };
      made = concludes.made ∙ ap (λ (p : PassView). p.made + commit_count outcome.own) took;
      fits = concludes.fits;
      since = omega (arith, low, concludes.since);
      names_all = NamesAll-since (take outcome.place new.seen) (length old.seen) (length mid.seen) outcome.reply low concludes.names_all;
      memory = λ wants. subst (λ (h : History). MayWantMemory h (take outcome.place new.seen) work.command) (sym (take-IsPrefix mid.seen new.seen concludes.seen)) (concludes.memory wants);
    }
