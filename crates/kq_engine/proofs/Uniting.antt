-- A merge that is made is that of its command.
use Rattle.std.proofs.Common.{◌≡◌, ◌≤◌, ◌+◌, ℕ, Bool, true, false, cond, ◌||◌, List, [], ◌∷◌, ◌++◌, length, take, drop, nat_eq, Some, inr, refl, ap, sym, ◌∙◌, subst, arith, append-nil}
use Rattle.std.specs.List.{filter, list_any}
use Rattle.std.proofs.lemmas.Bool.{eq-eqb, true≢false}
use Rattle.std.proofs.lemmas.List.{take-append-drop}
use Rattle.kq_catalog_journal.specs.declared.event.By.{By}
use Rattle.kq_catalog_journal.specs.declared.event.Event.{Event}
use Rattle.kq_catalog_journal.specs.declared.event.Operation.TheVariants as operation
use Rattle.kq_catalog_journal.specs.declared.limits.Limits.{Limits}
use Rattle.kq_catalog_journal.specs.History.{History, Log, NumberedTable, log, tables, table_numbered}
use Rattle.kq_catalog_journal.specs.Records.{ExtentItem, extents, is_small_item, item_ids, extents_made, picked, small_items}
use Rattle.kq_catalog_journal.proofs.Histories.{log-append, log-push}
use Rattle.kq_catalog_journal.proofs.Tables.{still_found}
use Rattle.kq_catalog.specs.declared.merging.Merging.{Merging}
use Rattle.kq_catalog.specs.Merges.{IsGone, IsUnion, WasPicked, merge_event}
use Rattle.kq_read_commands.specs.declared.columns.Identifier.{Identifier}
use Rattle.kq_read_commands.specs.declared.command.Command.{Command}
use Rattle.kq_read_commands.specs.declared.command.Command.TheVariants as commands
use Rattle.kq_reply.specs.declared.reply.Reply.{Reply}
use Rattle.kq_reply.specs.declared.reply.Reply.TheVariants as replies
use Rattle.kq_engine.specs.declared.work.Outcome.{Outcome}
use Rattle.kq_engine.specs.declared.work.Work.{Work}
use Rattle.kq_engine.specs.Acts.{Acts, Tended}
use Rattle.kq_engine_prepare.specs.Fits.{IsDue}
use Rattle.kq_engine_prepare.specs.Merges.{IsMergingFor, IsMergingIn, IsMergingOf, MergesNamed, TendsMerge}
use Rattle.kq_engine.specs.Puts.{PutsMerge}

-- ---- what is merged

-- a table that a merge names
pub record AsksMerge (h : History) (command : Command) (m : Merging) : Type 0 where
  pub name : Identifier
  pub is : command ≡ commands.Merge name
  pub of : IsMergingOf h name m

pub merges_of : (h : History) (command : Command) (m : Merging) → IsMergingFor h command m → AsksMerge h command m
merges_of h (commands.Query query) m is = absurd is
merges_of h (commands.Show show) m is = absurd is
merges_of h (commands.Change change) m is = absurd is
merges_of h (commands.Merge table) m is = record { name = table; is = refl; of = is }
merges_of h (commands.Fold view) m is = absurd is

-- it was picked at some place of the history
pub merging_picked : (h : History) (place : ℕ) (command : Command) (m : Merging) → IsMergingFor (take place h) command m → WasPicked h m
merging_picked h place command m is =
    let merging = (merges_of (take place h) command m is).of.merging in
    record { place = place; union = subst (λ (t : ℕ). IsUnion (take place h) t m.old m.extent) (sym merging.table) merging.union }

-- ---- the event

-- a name that found a table finds its number later too
record StillNamed (h : History) (name : Identifier) (number : ℕ) : Type 0 where
  found : NumberedTable
  named : table_numbered name.text (tables (log h)) ≡ Some found
  same : found.number ≡ number

still_named : (h : History) (at : ℕ) (name : Identifier) (found : NumberedTable) → table_numbered name.text (tables (log (take at h))) ≡ Some found → StillNamed h name found.number
still_named h at name found named =
    let whole : log (take at h) ++ log (drop at h) ≡ log h = sym (log-append (take at h) (drop at h)) ∙ ap log (take-append-drop at h) in
    let still = still_found (log (take at h)) (log (drop at h)) name.text found named in
    record { found = record { number = found.number; table = still.table }; named = ap (λ (l : Log). table_numbered name.text (tables l)) (sym whole) ∙ still.finds; same = refl }

told_merged : (old new : History) (by : By) (name : Identifier) (m : Merging) (number : ℕ) → StillNamed old name number → m.table ≡ number → new ≡ old ++ merge_event by (1 + extents_made old) m ∷ [] → MergesNamed new name (table_numbered name.text (tables (log new))) (replies.Merged (length m.old))
told_merged old new by name m number still at appended =
    let event = merge_event by (1 + extents_made old) m in
    let logged : log new ≡ log old = ap log appended ∙ log-push old event ∙ append-nil (log old) in
    let t : m.table ≡ still.found.number = at ∙ sym still.same in
    subst (λ o. MergesNamed new name o (replies.Merged (length m.old))) (sym (ap (λ (l : Log). table_numbered name.text (tables l)) logged ∙ still.named))
    (record {
      before = old;
      by = by;
      old = m.old;
      new = 1 + extents_made old;
      last = appended ∙ ap (λ (n : ℕ). let e : Event = record { by = by; operation = operation.Merge n m.old (1 + extents_made old) } in old ++ e ∷ []) t;
      count = refl;
    })

no_fold : (extents to : ℕ) → replies.Merged extents ≡ replies.Folded to → ⊥
no_fold extents to e = cc

-- the merge of what was picked at a place was made
pub Acts-merge : (limits : Limits) (old new : History) (work : Work) (at : ℕ) (m : Merging) (outcome : Outcome) → at ≤ length old → IsMergingFor (take at old) work.command m → PutsMerge old new work.by m outcome → Acts limits old new work at outcome
Acts-merge limits old new work at m outcome within is puts = subst (Acts limits old new work at) (sym puts.is) (refl, inr tended)
  where
    merges : AsksMerge (take at old) work.command m
    merges = merges_of (take at old) work.command m is

    found : NumberedTable
    found = merges.of.found

    merging : IsMergingIn (take at old) found.number m
    merging = merges.of.merging

    still : StillNamed old merges.name found.number
    still = still_named old at merges.name found merges.of.named

    reply : Reply
    reply = replies.Merged (length m.old)

    tended : Tended limits old new work at reply
    tended = record {
      made = operation.Merge m.table m.old (1 + extents_made old);
      tends = subst (λ (c : Command). TendsMerge old c reply m.table m.old) (sym merges.is) (record { found = still.found; named = still.named; same = merging.table ∙ sym still.same; told = refl });
      granted = λ r e. cc;
      answers = inr (subst (λ (c : Command). IsDue limits new work.now c reply) (sym merges.is) (told_merged old new work.by merges.name m found.number still merging.table puts.appended));
      names_all = record {
        merged = λ extents e. record {
          before = old;
          by = work.by;
          table = m.table;
          old = m.old;
          new = 1 + extents_made old;
          last = puts.appended;
          at = at;
          since = omega arith;
          within = within;
          all = merging.all ∙ ap (λ (t : ℕ). item_ids (picked (take at old) t)) (sym merging.table);
        };
        folded = λ to e. absurd (no_fold (length m.old) to e);
      };
      appended = puts.appended;
    }

-- ---- none is gone

or_later : (b c : Bool) → c ≡ true → (b || c) ≡ true
or_later true c e = refl
or_later false c e = e

-- an item that passes a test is one of the items
passes_in : (test : ExtentItem → Bool) (is : List ExtentItem) (first : ExtentItem) (others : List ExtentItem) → filter test is ≡ first ∷ others → list_any (nat_eq first.id) (item_ids is) ≡ true
passes_in test [] first others e = cc
passes_in test (i ∷ is) first others e = by_test (test i) (passes_in test is first others) e
  where
    by_test : (b : Bool) → (filter test is ≡ first ∷ others → list_any (nat_eq first.id) (item_ids is) ≡ true) → cond b (i ∷ filter test is) (filter test is) ≡ first ∷ others → (nat_eq first.id i.id || list_any (nat_eq first.id) (item_ids is)) ≡ true
    by_test true later e =
        let same : i ≡ first = cc in
        ap (λ (b : Bool). b || list_any (nat_eq first.id) (item_ids is)) (eq-eqb first.id i.id (ap (λ (x : ExtentItem). x.id) (sym same)))
    by_test false later e = or_later (nat_eq first.id i.id) (list_any (nat_eq first.id) (item_ids is)) (later e)

first_of : (small all : List ExtentItem) (id : ℕ) (others : List ℕ) → filter is_small_item all ≡ small → item_ids (take 64 small) ≡ id ∷ others → list_any (nat_eq id) (item_ids all) ≡ true
first_of [] all id others is e = cc
first_of (first ∷ small) all id others is e = let same : first.id ≡ id = cc in subst (λ (n : ℕ). list_any (nat_eq n) (item_ids all) ≡ true) same (passes_in is_small_item all first small is)

-- the first of what is picked now isn't gone
pub none_gone : (h : History) (number : ℕ) (m : Merging) (id : ℕ) → IsMergingIn h number m → IsGone h m id → ⊥
none_gone h number m id merging gone =
    let ids : item_ids (take 64 (small_items h m.table)) ≡ id ∷ gone.others = ap (λ (t : ℕ). item_ids (picked h t)) merging.table ∙ sym merging.all ∙ gone.is in
    true≢false (sym (first_of (small_items h m.table) (extents h m.table) id gone.others refl ids) ∙ gone.gone)

pub not_gone : (h : History) (command : Command) (m : Merging) (id : ℕ) → IsMergingFor h command m → IsGone h m id → ⊥
not_gone h command m id is gone = let merges = merges_of h command m is in none_gone h merges.of.found.number m id merges.of.merging gone
