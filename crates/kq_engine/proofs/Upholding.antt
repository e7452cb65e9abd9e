-- What is put in for a fold or a merge by number is its own, and a pass goes on by it.
use Rattle.std.proofs.Common.{◌≡◌, ◌≤◌, ◌<◌, ◌+◌, ◌⊎◌, inl, inr, ℕ, ℤ, Bool, false, cond, List, [], ◌∷◌, ◌++◌, length, take, nat_eq, Option, Some, None, refl, ap, sym, ◌∙◌, subst, arith, append-nil, append_assoc}
use Rattle.std.proofs.lemmas.Bool.{eq-eqb}
use Rattle.std.proofs.lemmas.List.{take_all, take-append-le}
use mathlib.Core.List.{IsPrefix}
use Rattle.kq_lock.specs.Histories.{gained}
use Rattle.kq_lock.specs.Passes.{TurnId}
use Rattle.kq_lock.proofs.Beginnings.{IsPrefix-take, IsPrefix-trans, gained-append, length-IsPrefix, take-IsPrefix}
use Rattle.kq_catalog.specs.declared.merging.Merging.{Merging}
use Rattle.kq_catalog.specs.Merges.{IsUnion}
use Rattle.kq_catalog.specs.Views.{fold_event}
use Rattle.kq_read_commands.specs.declared.command.Command.{Command}
use Rattle.kq_read_commands.specs.declared.command.Command.TheVariants as commands
use Rattle.kq_catalog_journal.specs.declared.event.By.{By}
use Rattle.kq_catalog_journal.specs.declared.event.Event.{Event}
use Rattle.kq_catalog_journal.specs.declared.event.Operation.{Operation}
use Rattle.kq_catalog_journal.specs.declared.event.Operation.TheVariants as operation
use Rattle.kq_catalog_journal.specs.declared.limits.Limits.{Limits}
use Rattle.kq_catalog_journal.specs.History.{History, Log, NumberedTable, cursor, log, view_cursor, tables, view_count}
use Rattle.kq_catalog_journal.specs.Lawful.{AreLawful}
use Rattle.kq_catalog_journal.specs.Records.{item_ids, extents_made, picked}
use Rattle.kq_catalog_journal.proofs.Growing.{tables-stay}
use Rattle.kq_catalog_journal.proofs.Histories.{log-append}
use Rattle.kq_catalog_journal.proofs.Views.{view_cursor-push, no_fewer_views}
use Rattle.kq_reply.specs.declared.refusal.Refusal.TheVariants as refusals
use Rattle.kq_reply.specs.declared.reply.Reply.{Reply}
use Rattle.kq_reply.specs.declared.reply.Reply.TheVariants as replies
use Rattle.kq_engine_prepare.specs.declared.found.Found.{Found}
use Rattle.kq_engine_prepare.specs.declared.found.Found.TheVariants as founds
use Rattle.kq_engine.specs.declared.upkeep.Upkeep.{Upkeep}
use Rattle.kq_engine.specs.declared.upkeep.Upkeep.TheVariants as upkeeps
use Rattle.kq_engine_prepare.specs.declared.found.Folding.{Folding}
use Rattle.kq_engine.specs.declared.work.Outcome.{Outcome}
use Rattle.kq_engine_prepare.specs.Fits.{Fits, IsDue, event_by}
use Rattle.kq_engine.specs.Puts.{BringsForward, PutsFold}
use Rattle.kq_engine_prepare.specs.Folds.{FoldsNamed, IsFoldingIn}
use Rattle.kq_engine_prepare.specs.Merges.{IsMergedBy, IsMergingIn, IsSettled, MergesNamed, MergesTable}
use Rattle.kq_engine.specs.Puts.{PutsMerge}
use Rattle.kq_engine.specs.Shared.{PassView}
use Rattle.kq_engine.specs.Upkeeps.{AnswersUpkeep, AsksFor, FinishesUpkeep, FitsEach, IsChore, IsThere, IsToldAt, IsWanted, KeepsUp, MakesOwn, PutsChore, TellsUpkeep, Upholds, WasChore, WasFound}
use Rattle.kq_engine.proofs.Advancing.{Fits-end}
use Rattle.kq_engine.proofs.Counting.{cursor-append}
use Rattle.kq_engine.proofs.Sharing.{gained_of}
use Rattle.kq_engine_prepare.proofs.Folded.{folded_at}
use Rattle.kq_engine_prepare.proofs.Telling.{NamesAll-since, cursor_take, settled_names}

-- ---- what stands goes on to stand

pub there_later : (old new : History) (upkeep : Upkeep) → IsPrefix old new → IsThere (log old) upkeep → IsThere (log new) upkeep
there_later old new (upkeeps.Fold view) begins there =
    let more = no_fewer_views (log old) (log begins.0) in
    let whole = ap (λ (l : Log). view_count l) (sym (log-append old begins.0) ∙ ap log begins.1) in
    omega (arith, there, more, whole)
there_later old new (upkeeps.Merge table) begins there =
    let more = tables-stay old begins.0 in
    let whole = ap (λ (h : History). length (tables (log h))) begins.1 in
    omega (arith, there, more, whole)

-- ---- what was found

pub chore_found : (h : History) (upkeep : Upkeep) (place : ℕ) (chore : Found) → WasChore h upkeep place chore → WasFound h chore
chore_found h (upkeeps.Fold view) place (founds.Folds f) was = folded_at h place view f was.is
chore_found h (upkeeps.Merge table) place (founds.Merges m) was =
    let merging = was.is in
    let there : table < length (tables (log h)) = there_later (take place h) h (upkeeps.Merge table) (IsPrefix-take place h) was.there in (
      record { place = place; union = subst (λ (t : ℕ). IsUnion (take place h) t m.old m.extent) (sym merging.table) merging.union },
      subst (λ (t : ℕ). t < length (tables (log h))) (sym merging.table) there,
    )
chore_found h (upkeeps.Fold view) place (founds.Merges m) was = absurd was.is
chore_found h (upkeeps.Merge table) place (founds.Folds f) was = absurd was.is
chore_found h (upkeeps.Fold view) place (founds.Says reply) was = absurd was.is
chore_found h (upkeeps.Merge table) place (founds.Says reply) was = absurd was.is
chore_found h (upkeeps.Fold view) place (founds.Commits offer) was = absurd was.is
chore_found h (upkeeps.Merge table) place (founds.Commits offer) was = absurd was.is
chore_found h (upkeeps.Fold view) place founds.Pending was = absurd was.is
chore_found h (upkeeps.Merge table) place founds.Pending was = absurd was.is

-- ---- what is told

folded_merged : (at extents : ℕ) → replies.Folded at ≡ replies.Merged extents → ⊥
folded_merged at extents e = cc

merged_folded : (extents at : ℕ) → replies.Merged extents ≡ replies.Folded at → ⊥
merged_folded extents at e = cc

folded_same : (a b : ℕ) → replies.Folded a ≡ replies.Folded b → a ≡ b
folded_same a b e = cc

settled_merged : (least extents : ℕ) (reply : Reply) → IsSettled least reply → reply ≡ replies.Merged extents → ⊥
settled_merged least extents reply (inl still) e = still.no_merge extents e
settled_merged least extents reply (inr told) e = folded_merged told.0 extents (sym told.1 ∙ e)

-- nothing was appended
pub Upholds-told : (h : History) (by : By) (upkeep : Upkeep) (began : ℕ) (reply : Reply) → AnswersUpkeep h upkeep reply → IsSettled (cursor h) reply → Upholds h h by upkeep began (record { place = length h; own = false; reply = reply })
Upholds-told h by upkeep began reply answers settled = record {
  made = None;
  own_event = λ extents e. settled_merged (cursor h) extents reply settled e;
  appended = sym (append-nil h);
  place = refl;
  no_commit = refl;
  answers = answers;
  names_all = settled_names (cursor h) h began reply (cursor_take began h) settled;
}

-- what a pass has seen was found in what it then takes
pub seen_chore : (seen old : History) (upkeep : Upkeep) (chore : Found) → IsPrefix seen old → IsThere (log seen) upkeep → IsChore seen upkeep chore → WasChore old upkeep (length seen) chore
seen_chore seen old upkeep chore begins there is = record {
  within = length-IsPrefix seen old begins;
  there = subst (λ (h : History). IsThere (log h) upkeep) (sym (take-IsPrefix seen old begins)) there;
  is = subst (λ (h : History). IsChore h upkeep chore) (sym (take-IsPrefix seen old begins)) is;
}

-- what was picked later was picked since the work began
pub Upholds-since : (old new : History) (by : By) (upkeep : Upkeep) (began later : ℕ) (outcome : Outcome) → began ≤ later → Upholds old new by upkeep later outcome → Upholds old new by upkeep began outcome
Upholds-since old new by upkeep began later outcome before up = record {
  made = up.made;
  own_event = up.own_event;
  appended = up.appended;
  place = up.place;
  no_commit = up.no_commit;
  answers = up.answers;
  names_all = NamesAll-since new began later outcome.reply before up.names_all;
}

-- ---- a fold

module _ (old new : History) (by : By) (view place : ℕ) (f : Folding) (was : WasChore old (upkeeps.Fold view) place (founds.Folds f)) where
  folding : IsFoldingIn (take place old) view f
  folding = was.is

  stands : view < view_count (log old)
  stands = there_later (take place old) old (upkeeps.Fold view) (IsPrefix-take place old) was.there

  same_view : (n m to : ℕ) → n ≡ m → cond (nat_eq n m) to (view_cursor old m) ≡ to
  same_view n m to same = ap (λ (b : Bool). cond b to (view_cursor old m)) (eq-eqb n m same)

  -- its new cursor is the cursor up to which it was folded
  materialized : new ≡ old ++ fold_event by f.view f.to ∷ [] → view_cursor new view ≡ f.to
  materialized appended = ap (λ (h : History). view_cursor h view) appended ∙ view_cursor-push old (fold_event by f.view f.to) view stands ∙ same_view f.view view f.to folding.of

  reaches : new ≡ old ++ fold_event by f.view f.to ∷ [] → cursor (take place new) ≤ f.to
  reaches appended =
      let begins = ap (λ (h : History). cursor (take place h)) appended ∙ ap cursor (take-append-le place old (fold_event by f.view f.to ∷ []) was.within) in
      let to = folding.to in
      omega (arith, begins, to)

  forward : BringsForward old new by f (record { place = length new; own = false; reply = replies.Folded f.to }) → Upholds old new by (upkeeps.Fold view) place (record { place = length new; own = false; reply = replies.Folded f.to })
  forward brings = record {
    made = Some (operation.Fold f.view f.to);
    own_event = (folding.of, refl);
    appended = brings.appended;
    place = refl;
    no_commit = refl;
    answers = inr (sym (materialized brings.appended));
    names_all = record {
      merged = λ extents e. absurd (folded_merged f.to extents e);
      folded = λ to e. let same = folded_same f.to to e in let far = reaches brings.appended in omega (arith, same, far);
    };
  }

  -- a view that is as far
  far : f.to ≤ view_cursor old f.view → cursor (take place old) ≤ view_cursor old f.view
  far ahead = let to = folding.to in omega (arith, to, ahead)

  leaves : f.to ≤ view_cursor old f.view → Upholds old old by (upkeeps.Fold view) place (record { place = length old; own = false; reply = replies.Folded (view_cursor old f.view) })
  leaves ahead = record {
    made = None;
    own_event = λ extents e. folded_merged (view_cursor old f.view) extents e;
    appended = sym (append-nil old);
    place = refl;
    no_commit = refl;
    answers = inr (ap (view_cursor old) folding.of);
    names_all = record {
      merged = λ extents e. absurd (folded_merged (view_cursor old f.view) extents e);
      folded = λ to e. let same = folded_same (view_cursor old f.view) to e in let past = far ahead in omega (arith, same, past);
    };
  }

  by_puts : (outcome : Outcome) → PutsFold old new by f outcome → Upholds old new by (upkeeps.Fold view) place outcome
  by_puts outcome (inl brings) = subst (Upholds old new by (upkeeps.Fold view) place) (sym brings.is) (forward (record { behind = brings.behind; appended = brings.appended; is = refl }))
  by_puts outcome (inr stays) = subst (Upholds old new by (upkeeps.Fold view) place) (sym stays.is) (subst (λ (h : History). Upholds old h by (upkeeps.Fold view) place (record { place = length old; own = false; reply = replies.Folded (view_cursor old f.view) })) (sym stays.stays) (leaves stays.ahead))

-- the fold of what was found was made, or the view is as far already
pub PutsChore-fold : (old new : History) (by : By) (f : Folding) (outcome : Outcome) → PutsFold old new by f outcome → PutsChore old new by (founds.Folds f) outcome
PutsChore-fold old new by f outcome puts (upkeeps.Fold view) place was = by_puts old new by view place f was outcome puts
PutsChore-fold old new by f outcome puts (upkeeps.Merge table) place was = absurd was.is

-- ---- a merge

-- the merge of what was picked at a place was made
pub Upholds-merge : (old new : History) (by : By) (table place : ℕ) (m : Merging) (outcome : Outcome) → place ≤ length old → IsMergingIn (take place old) table m → PutsMerge old new by m outcome → Upholds old new by (upkeeps.Merge table) place outcome
Upholds-merge old new by table place m outcome within merging puts = subst (Upholds old new by (upkeeps.Merge table) place) (sym puts.is) (record {
  made = Some (operation.Merge m.table m.old (1 + extents_made old));
  own_event = (merging.table, refl);
  appended = puts.appended;
  place = refl;
  no_commit = refl;
  answers = inr (record {
    before = old;
    by = by;
    old = m.old;
    new = 1 + extents_made old;
    last = puts.appended ∙ ap (λ (n : ℕ). let e : Event = record { by = by; operation = operation.Merge n m.old (1 + extents_made old) } in old ++ e ∷ []) merging.table;
    count = refl;
  });
  names_all = record {
    merged = λ extents e. record {
      before = old;
      by = by;
      table = m.table;
      old = m.old;
      new = 1 + extents_made old;
      last = puts.appended;
      at = place;
      since = omega arith;
      within = within;
      all = merging.all ∙ ap (λ (t : ℕ). item_ids (picked (take place old) t)) (sym merging.table);
    };
    folded = λ to e. absurd (merged_folded (length m.old) to e);
  };
})

pub PutsChore-merge : (old new : History) (by : By) (m : Merging) (outcome : Outcome) → PutsMerge old new by m outcome → PutsChore old new by (founds.Merges m) outcome
PutsChore-merge old new by m outcome puts (upkeeps.Merge table) place was = Upholds-merge old new by table place m outcome was.within was.is puts
PutsChore-merge old new by m outcome puts (upkeeps.Fold view) place was = absurd was.is

-- a merge that is gone was picked again
pub PutsChore-again : (old new : History) (by : By) (m : Merging) (outcome : Outcome) → Upholds old new by (upkeeps.Merge m.table) (length old) outcome → PutsChore old new by (founds.Merges m) outcome
PutsChore-again old new by m outcome up (upkeeps.Merge table) place was =
    let merging = was.is in
    subst (λ (t : ℕ). Upholds old new by (upkeeps.Merge t) place outcome) merging.table (Upholds-since old new by (upkeeps.Merge m.table) place (length old) outcome was.within up)
PutsChore-again old new by m outcome up (upkeeps.Fold view) place was = absurd was.is

-- what is picked on the whole history
pub Upholds-picked : (old new : History) (by : By) (m : Merging) (outcome : Outcome) → IsMergingIn old m.table m → PutsMerge old new by m outcome → Upholds old new by (upkeeps.Merge m.table) (length old) outcome
Upholds-picked old new by m outcome merging puts =
    Upholds-merge old new by m.table (length old) m outcome (omega arith) (subst (λ (h : History). IsMergingIn h m.table m) (sym (take_all (length old) old (omega arith))) merging) puts

-- ---- each command that asks for it

asked_due : (limits : Limits) (h : History) (now : ℤ) (command : Command) (upkeep : Upkeep) (reply : Reply) → AsksFor h command upkeep → TellsUpkeep h upkeep reply → IsDue limits h now command reply
asked_due limits h now (commands.Fold name) (upkeeps.Fold view) reply asks tells = subst (λ (o : Option ℕ). FoldsNamed h name o reply) (sym asks) tells
asked_due limits h now (commands.Merge name) (upkeeps.Merge table) reply asks tells =
    subst (λ (o : Option NumberedTable). MergesNamed h name o reply) (sym asks.named) (subst (λ (n : ℕ). MergesTable h n reply) (sym asks.same) tells)
asked_due limits h now _ _ reply asks tells = absurd asks

asked_answers : (limits : Limits) (h : History) (now : ℤ) (command : Command) (upkeep : Upkeep) (reply : Reply) → AsksFor h command upkeep → AnswersUpkeep h upkeep reply → (reply ≡ replies.Refused refusals.Memory) ⊎ IsDue limits h now command reply
asked_answers limits h now command upkeep reply asks (inl wanting) = inl wanting
asked_answers limits h now command upkeep reply asks (inr tells) = inr (asked_due limits h now command upkeep reply asks tells)

made_marked : (old new : History) (by : By) (upkeep : Upkeep) (reply : Reply) (made : Option Operation) → MakesOwn upkeep reply made → new ≡ old ++ event_by by made → IsMergedBy new by reply
made_marked old new by upkeep reply None own appended = λ extents e. absurd (own extents e)
made_marked old new by upkeep reply (Some made) own appended = λ extents e. record { before = old; made = made; last = appended }

pub Upholds-fits : (limits : Limits) (old new : History) (by : By) (upkeep : Upkeep) (began : ℕ) (outcome : Outcome) → Upholds old new by upkeep began outcome → FitsEach limits new by upkeep outcome
Upholds-fits limits old new by upkeep began outcome up command now asks =
    subst (λ (own : Bool). Fits limits new by command now outcome.place own outcome.reply) (sym up.no_commit)
    (Fits-end limits new by command now outcome.place false outcome.reply up.place (asked_answers limits new now command upkeep outcome.reply asks up.answers)
    (made_marked old new by upkeep outcome.reply up.made up.own_event up.appended))

-- ---- passes

-- what is an upkeep's own is no commit
own_no_commit : (by : By) (upkeep : Upkeep) (reply : Reply) (made : Option Operation) → MakesOwn upkeep reply made → cursor (event_by by made) ≡ 0
own_no_commit by upkeep reply None own = refl
own_no_commit by (upkeeps.Fold view) reply (Some (operation.Fold number to)) own = refl
own_no_commit by (upkeeps.Merge table) reply (Some (operation.Merge number old new)) own = refl
own_no_commit by (upkeeps.Fold view) reply (Some (operation.Commit c)) own = absurd own
own_no_commit by (upkeeps.Fold view) reply (Some (operation.Merge number old new)) own = absurd own
own_no_commit by (upkeeps.Merge table) reply (Some (operation.Commit c)) own = absurd own
own_no_commit by (upkeeps.Merge table) reply (Some (operation.Fold number to)) own = absurd own

no_commits : (old new : History) (by : By) (upkeep : Upkeep) (began : ℕ) (outcome : Outcome) → Upholds old new by upkeep began outcome → cursor (gained old new) ≡ 0
no_commits old new by upkeep began outcome up =
    ap (λ (h : History). cursor (gained old h)) up.appended ∙ ap cursor (gained-append old (event_by by up.made)) ∙ own_no_commit by upkeep outcome.reply up.made up.own_event

-- a step of upkeep that began on what was seen
pub FinishesUpkeep-step : (limits : Limits) (of : TurnId) (seen old new added : History) (worth : ℕ) (taken : List ℕ) (by : By) (upkeep : Upkeep) (outcome : Outcome) → IsPrefix seen old → AreLawful limits new → Upholds old new by upkeep (length seen) outcome
    → FinishesUpkeep limits (record { of = of; seen = seen; worth = worth; added = added; made = cursor added; taken = taken })
    (record { of = of; seen = new; worth = worth; added = added ++ gained old new; made = cursor (added ++ gained old new); taken = taken ++ length old ∷ [] }) by upkeep outcome
FinishesUpkeep-step limits of seen old new added worth taken by upkeep outcome begins lawful up = record {
  of = refl;
  worth = refl;
  made = let none = no_commits old new by upkeep (length seen) outcome up in let more = cursor-append added (gained old new) in omega (arith, none, more);
  lawful = lawful;
  found = old;
  begins = begins;
  taken = refl;
  upholds = up;
  added = ap (λ (more : History). added ++ more) (gained_of old new (event_by by up.made) up.appended);
}

appended_prefix : (old new : History) (by : By) (upkeep : Upkeep) (began : ℕ) (outcome : Outcome) → Upholds old new by upkeep began outcome → IsPrefix old new
appended_prefix old new by upkeep began outcome up = (event_by by up.made, sym up.appended)

-- found on what one take found, and finished
pub KeepsUp-finished : (limits : Limits) (old mid new : PassView) (by : By) (upkeep : Upkeep) (outcome : Outcome) → IsPrefix old.seen mid.seen → mid ≡ record old { seen = mid.seen; taken = old.taken ++ length mid.seen ∷ [] } → IsWanted mid.seen upkeep
    → FinishesUpkeep limits mid new by upkeep outcome → KeepsUp limits old new by upkeep outcome
unfolding Upholds-since
KeepsUp-finished limits old mid new by upkeep outcome begins took wanted f =
    let low = length-IsPrefix old.seen mid.seen begins in
    let first = length-IsPrefix mid.seen f.found f.begins in
    let appended = appended_prefix f.found new.seen by upkeep (length mid.seen) outcome f.upholds in
    let longer = length-IsPrefix f.found new.seen appended in
    let place = f.upholds.place in
    let later = IsPrefix-trans mid.seen f.found new.seen f.begins appended in
    record {
      of = f.of ∙ ap (λ (p : PassView). p.of) took;
      worth = f.worth ∙ ap (λ (p : PassView). p.worth) took;
      made = f.made ∙ ap (λ (p : PassView). p.made) took;
      seen = IsPrefix-trans old.seen mid.seen new.seen begins later;
      lawful = f.lawful;
      takes = record {
        first = length mid.seen;
        more = length f.found ∷ [];
        gains = f.taken ∙ ap (λ (p : PassView). p.taken ++ length f.found ∷ []) took ∙ append_assoc old.taken (length mid.seen ∷ []) (length f.found ∷ []);
        few = omega arith;
        since = omega (arith, first, longer, place);
      };
      last = record {
        found = f.found;
        begins = IsPrefix-trans old.seen mid.seen f.found begins f.begins;
        before = mid.taken;
        last = f.taken;
        upholds = Upholds-since f.found new.seen by upkeep (length old.seen) (length mid.seen) outcome low f.upholds;
        added = f.added ∙ ap (λ (p : PassView). p.added ++ event_by by f.upholds.made) took;
      };
      memory = λ e. record {
        at = length mid.seen;
        since = low;
        within = omega (arith, first, longer);
        wanted = subst (λ (h : History). IsWanted h upkeep) (sym (take-IsPrefix mid.seen new.seen later)) wanted;
      };
    }

-- told of what one take found
pub KeepsUp-told : (limits : Limits) (old new : PassView) (by : By) (upkeep : Upkeep) (reply : Reply) → IsPrefix old.seen new.seen → new ≡ record old { seen = new.seen; taken = old.taken ++ length new.seen ∷ [] } → AreLawful limits new.seen → IsToldAt new.seen upkeep reply
    → KeepsUp limits old new by upkeep (record { place = length new.seen; own = false; reply = reply })
unfolding Upholds-told
KeepsUp-told limits old new by upkeep reply begins took lawful told =
    let low = length-IsPrefix old.seen new.seen begins in
    record {
      of = ap (λ (p : PassView). p.of) took;
      worth = ap (λ (p : PassView). p.worth) took;
      made = ap (λ (p : PassView). p.made) took;
      seen = begins;
      lawful = lawful;
      takes = record { first = length new.seen; more = []; gains = ap (λ (p : PassView). p.taken) took; few = omega arith; since = omega arith };
      last = record {
        found = new.seen;
        begins = begins;
        before = old.taken;
        last = ap (λ (p : PassView). p.taken) took;
        upholds = Upholds-told new.seen by upkeep (length old.seen) reply told.answers told.settled;
        added = ap (λ (p : PassView). p.added) took ∙ sym (append-nil old.added);
      };
      memory = λ e. record {
        at = length new.seen;
        since = low;
        within = omega arith;
        wanted = subst (λ (h : History). IsWanted h upkeep) (sym (take_all (length new.seen) new.seen (omega arith))) (told.memory e);
      };
    }

-- a call's outcome fits each command that asks for it
pub KeepsUp-fits : (limits : Limits) (old new : PassView) (by : By) (upkeep : Upkeep) (outcome : Outcome) → KeepsUp limits old new by upkeep outcome → FitsEach limits new.seen by upkeep outcome
KeepsUp-fits limits old new by upkeep outcome keeps = Upholds-fits limits keeps.last.found new.seen by upkeep (length old.seen) outcome keeps.last.upholds
