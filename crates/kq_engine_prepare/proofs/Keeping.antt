-- What comes of a batch by itself, and what is kept of an offer.
use Rattle.std.proofs.Common.{◌≡◌, ◌&&◌, ◌||◌, not, ℕ, Bool, true, false, cond, List, [], ◌∷◌, ◌++◌, length, nat_eq, Option, Some, None, Result, Ok, Err, IfOk, inl, inr, refl, ap, sym, ◌∙◌, subst}
use Rattle.std.specs.List.{filter, slice_get}
use Rattle.std.proofs.lemmas.Bool.{and_parts}
use Rattle.kq_policy_cascade.specs.declared.running.Derived.{Derived}
use Rattle.kq_policy_cascade.specs.Makes.{Makes, among}
use Rattle.kq_policy_cascade.proofs.Listing.{left-enabled}
use Rattle.kq_catalog.specs.Intents.{commit_of}
use Rattle.kq_catalog_journal.specs.declared.batch.Batch.{Batch}
use Rattle.kq_catalog_journal.specs.declared.event.Commit.{Commit}
use Rattle.kq_catalog_journal.specs.declared.event.Commit.TheVariants as commits
use Rattle.kq_catalog_journal.specs.declared.limits.Limits.{Limits}
use Rattle.kq_catalog_journal.specs.declared.policy.Due.{Due as Entering}
use Rattle.kq_catalog_journal.specs.Beside.{DueGives}
use Rattle.kq_catalog_journal.specs.declared.batch.Failure.{Failure}
use Rattle.kq_read_commands.specs.declared.ingestion.Ingestion.{Ingestion}
use Rattle.kq_store_ingest.specs.declared.fault.IngestFault.{IngestFault}
use Rattle.kq_store_ingest.specs.Ingestion.{first_fault, rows_of}
use Rattle.kq_catalog_journal.specs.Derived.{Cascade, Comes, Failed, Follows, IsDerived, Made, Queries, Row, TooMany, after, ended, first, goes_on, no_more, too_many}
use Rattle.kq_catalog_journal.specs.Force.{Rules, in_force}
use Rattle.kq_catalog_journal.specs.History.{Log, NumberedTable, log, tables}
use Rattle.kq_catalog_journal.specs.Policies.{dues, policies, rules}
use Rattle.kq_catalog_journal.specs.Tagged.{least_tagged}
use Rattle.kq_catalog_journal.proofs.Wider.{Comes-wider}
use Rattle.kq_policy_run.specs.Quiet.{is_quiet, looked}
use Rattle.kq_policy_run.proofs.Lasting.{derived-still}
use Rattle.kq_reply.specs.declared.refusal.Refusal.{Refusal}
use Rattle.kq_reply.specs.declared.refusal.Refusal.TheVariants as refusals
use Rattle.kq_engine_prepare.specs.declared.tags.Labels.{Labels}
use Rattle.kq_engine_prepare.specs.declared.found.Barring.{Barring}
use Rattle.kq_engine_prepare.specs.declared.found.Found.{Found}
use Rattle.kq_engine_prepare.specs.declared.found.Found.TheVariants as founds
use Rattle.kq_engine_prepare.specs.declared.found.Offer.{Offer}
use Rattle.kq_engine_prepare.specs.Due.{Due, Commits, IsBatchDue, IsBodyDue, IsCascadeDue, IsRowsDue, IsTaggedDue, IsValuesDue, barring_tags, counted, own_batch, refused, unless_tagged}
use Rattle.kq_engine_prepare.specs.Labels.{AreLabels}
use Rattle.kq_engine_prepare.specs.Found.{Finds, IsKept, IsOfferOf, OffersCommit, OffersRows, barred_at, batch_read, is_alone, is_source, is_widened_at, offer_due, stands_alone}

-- ---- batches that come alone

none_left : (table : ℕ) (ds : List Entering) → is_source table ds ≡ false → filter (λ (d : Entering). nat_eq d.source table) ds ≡ []
none_left table [] e = refl
none_left table (d ∷ ds) e = by_test (nat_eq d.source table) (none_left table ds) e
  where
    by_test : (b : Bool) → (is_source table ds ≡ false → filter (λ (d : Entering). nat_eq d.source table) ds ≡ []) → (b || is_source table ds) ≡ false
        → cond b (d ∷ filter (λ (d : Entering). nat_eq d.source table) ds) (filter (λ (d : Entering). nat_eq d.source table) ds) ≡ []
    by_test true rest e = cc
    by_test false rest e = rest e

not_so : (b : Bool) → not b ≡ true → b ≡ false
not_so true e = cc
not_so false e = refl

none_in_force : (l : Log) (table : ℕ) → is_alone l table ≡ true → in_force (policies l) table ≡ []
none_in_force l table alone = left-enabled (policies l) table ∙ none_left table (dues l) (not_so (is_source table (dues l)) alone)

nothing_follows : (limit : ℕ) (r : Rules) (q : Queries) (b : Batch) (ds : List Entering) (n : ℕ) (o : Cascade) (m : ℕ) → ds ≡ [] → Follows limit r q b ds n o m → o ≡ Made [] []
nothing_follows limit r q b _ n _ _ none no_more = refl
nothing_follows limit r q b _ n _ _ none (too_many full) = cc
nothing_follows limit r q b _ n o m none (ended room leaves end) = cc
nothing_follows limit r q b _ n _ k none (goes_on room leaves open_ follows) = cc

abbrev IsAlone : Batch → Cascade → Type 0
IsAlone b (Made batches failures) = (batches ≡ b ∷ []) × (failures ≡ [])
IsAlone b (Failed target cause) = ⊥
IsAlone b TooMany = ⊥

comes_alone : (limit : ℕ) (r : Rules) (q : Queries) (b : Batch) (n : ℕ) (o : Cascade) (m : ℕ) → in_force r.policies b.table ≡ [] → Comes limit r q b n o m → IsAlone b o
comes_alone limit r q b n _ m none (first {o = o} follows) =
    subst (λ (x : Cascade). IsAlone b (after (b ∷ []) [] x)) (sym (nothing_follows limit r q b (in_force r.policies b.table) n o m none follows)) (refl, refl)

-- what may come of a batch is due, or it is skipped
made_or_skipped : (limits : Limits) (l : Log) (own : Batch) (batches : List Batch) (failures : List Failure) (c : Commit) (o : Option ℕ) → IsDerived limits.cascade (rules l) (DueGives l) own (Made batches failures) → c ≡ commits.Ingest batches failures
    → IsTaggedDue limits l own o (unless_tagged o (counted limits l c))
made_or_skipped limits l own batches failures c (Some cursor) derived is = refl
made_or_skipped limits l own batches failures c None derived is = record { cascade = Made batches failures; derived = derived; due_so = ap (counted limits l) is }

-- a batch for which no entry runs comes by itself
derived_alone : (limits : Limits) (l : Log) (own : Batch) → is_alone l own.table ≡ true → IsDerived limits.cascade (rules l) (DueGives l) own (Made (own ∷ []) [])
derived_alone limits l own alone = record {
  queries = 0;
  comes = first (subst (λ (ds : List Entering). Follows limits.cascade (rules l) (DueGives l) own ds 0 (Made [] []) 0) (sym (none_in_force l own.table alone)) no_more);
}

-- ---- what a cascade answers

-- what it made is due
pub made_due : (limits : Limits) (l : Log) (own : Batch) (d : Derived) (due : Due) → Makes limits.cascade (rules l) (DueGives l) own d → due ≡ counted limits l (commits.Ingest d.batches.items d.failures) → IsCascadeDue limits l own due
made_due limits l own d due makes is = record {
  cascade = Made d.batches.items d.failures;
  derived = record {
    queries = length d.asked.items;
    comes = Comes-wider limits.cascade (rules l) (among d.asked.items (DueGives l)) (DueGives l) (λ e rows given both. both.1) own 0 (Made d.batches.items d.failures) (length d.asked.items) makes.comes;
  };
  due_so = is;
}

-- what is found in one way is found in each that follows from it
pub Finds-weaker : (P Q : Due → Type 0) (result : Result Found Refusal) → ((due : Due) → P due → Q due) → Finds P result → Finds Q result
Finds-weaker P Q (Ok (founds.Says reply)) so finds = so _ finds
Finds-weaker P Q (Ok (founds.Commits offer)) so finds = so _ finds
Finds-weaker P Q (Ok (founds.Merges merging)) so finds = absurd finds
Finds-weaker P Q (Ok (founds.Folds folding)) so finds = absurd finds
Finds-weaker P Q (Ok founds.Pending) so finds = absurd finds
Finds-weaker P Q (Err r) so (inl memory) = inl memory
Finds-weaker P Q (Err r) so (inr due) = inr (so _ due)

-- no tag bars the batch
pub untagged_due : (limits : Limits) (l : Log) (own : Batch) (barring : List (List ℕ)) (due : Due) → least_tagged l own.table barring ≡ None → IsCascadeDue limits l own due → IsBatchDue limits l own barring due
untagged_due limits l own barring due none is = subst (λ (o : Option ℕ). IsTaggedDue limits l own o due) (sym none) is

-- ---- what is kept

record StandsAlone (l : Log) (b : Barring) : Type 0 where
  then_so : b.alone ≡ true
  now_so : is_alone l b.table ≡ true
  unwidened : is_widened_at (slice_get (tables l) b.table) b.widened ≡ true

stands_so : (l : Log) (b : Barring) → stands_alone l b ≡ true → StandsAlone l b
stands_so l b e =
    let both = and_parts (b.alone && is_alone l b.table) (is_widened_at (slice_get (tables l) b.table) b.widened) e in
    let others = and_parts b.alone (is_alone l b.table) both.0 in
    record { then_so = others.0; now_so = others.1; unwidened = both.1 }

pub stands_unwidened : (l : Log) (b : Barring) → stands_alone l b ≡ true → is_widened_at (slice_get (tables l) b.table) b.widened ≡ true
stands_unwidened l b e = (stands_so l b e).unwidened

-- the offer of all that comes of a batch, found where no tag bars it
offer-kept : (limits : Limits) (l : Log) (table : NumberedTable) (own : Batch) (b : Barring) (d : Derived) (offer : Offer) → own.table ≡ b.table → b.table ≡ table.number → b.widened ≡ table.table.widened → b.looked.items ≡ looked l d.asked.items → b.alone ≡ is_alone l b.table
    → least_tagged l b.table b.tags ≡ None → Makes limits.cascade (rules l) (DueGives l) own d → OffersCommit limits l (commits.Ingest d.batches.items d.failures) (Some b) (founds.Commits offer)
    → IsKept limits l table (λ (later : Log) (due : Due). IsBatchDue limits later own b.tags due) offer
offer-kept limits l table own b d offer into number widened asked alone_then none makes offered = record {
  barring = b;
  barred = offered.1;
  number = number;
  widened = widened;
  here = let c = commit_of offer.intent in
      ap (λ (u : Option Barring). unless_tagged (barred_at l u) (counted limits l c)) offered.1 ∙ ap (λ (o : Option ℕ). unless_tagged o (counted limits l c)) none
      ∙ ap (λ (room : Bool). cond room (Commits c) (refused (refusals.Full limits.commits))) offered.2;
  alone = λ later stands.
      let so = stands_so later b stands in
      let then_none : in_force (policies l) own.table ≡ [] = none_in_force l own.table (ap (is_alone l) into ∙ sym alone_then ∙ so.then_so) in
      let by_itself = comes_alone limits.cascade (rules l) (among d.asked.items (DueGives l)) own 0 (Made d.batches.items d.failures) (length d.asked.items) then_none makes.comes in
      let is : commit_of offer.intent ≡ commits.Ingest (own ∷ []) [] = offered.0 ∙ ap (λ (bs : List Batch). commits.Ingest bs d.failures) by_itself.0 ∙ ap (commits.Ingest (own ∷ [])) by_itself.1 in
      barred_so later (made_or_skipped limits later own (own ∷ []) [] (commit_of offer.intent) (least_tagged later own.table b.tags) (derived_alone limits later own (ap (is_alone later) into ∙ so.now_so)) is);
  quiet = λ since still.
      let later = l ++ log since in
      let asked_so : is_quiet (looked l d.asked.items) since ≡ true = ap (λ (ts : List ℕ). is_quiet ts since) (sym asked) ∙ still in
      let derived = derived-still limits.cascade l since d.asked.items own (Made d.batches.items d.failures) asked_so (record { queries = length d.asked.items; comes = makes.comes }) in
      barred_so later (made_or_skipped limits later own d.batches.items d.failures (commit_of offer.intent) (least_tagged later own.table b.tags) derived offered.0);
}
  where
    barred_so : (later : Log) → IsTaggedDue limits later own (least_tagged later own.table b.tags) (unless_tagged (least_tagged later own.table b.tags) (counted limits later (commit_of offer.intent))) → IsBatchDue limits later own b.tags (offer_due limits later offer)
    barred_so later due =
        subst (λ (u : Option Barring). IsBatchDue limits later own b.tags (unless_tagged (barred_at later u) (counted limits later (commit_of offer.intent)))) (sym offered.1)
        (subst (λ (t : ℕ). IsBatchDue limits later own b.tags (unless_tagged (least_tagged later t b.tags) (counted limits later (commit_of offer.intent)))) into due)

pub Offers-kept : (limits : Limits) (l : Log) (table : NumberedTable) (own : Batch) (b : Barring) (d : Derived) (result : Result Found Refusal) → own.table ≡ b.table → b.table ≡ table.number → b.widened ≡ table.table.widened → b.looked.items ≡ looked l d.asked.items → b.alone ≡ is_alone l b.table
    → least_tagged l b.table b.tags ≡ None → Makes limits.cascade (rules l) (DueGives l) own d → IfOk result (OffersCommit limits l (commits.Ingest d.batches.items d.failures) (Some b)) → IfOk result (IsOfferOf limits l table own b.tags)
Offers-kept limits l table own b d (Ok (founds.Says reply)) into number widened asked alone_then none makes offered = tt
Offers-kept limits l table own b d (Ok (founds.Commits offer)) into number widened asked alone_then none makes offered = offer-kept limits l table own b d offer into number widened asked alone_then none makes offered
Offers-kept limits l table own b d (Ok (founds.Merges merging)) into number widened asked alone_then none makes offered = absurd offered
Offers-kept limits l table own b d (Ok (founds.Folds folding)) into number widened asked alone_then none makes offered = absurd offered
Offers-kept limits l table own b d (Ok founds.Pending) into number widened asked alone_then none makes offered = absurd offered
Offers-kept limits l table own b d (Err r) into number widened asked alone_then none makes offered = offered

-- ---- rows of a text

rows_due : (limits : Limits) (later : Log) (i : Ingestion) (table : NumberedTable) (rows : List Row) (labels : Labels) (due : Due) → AreLabels i.properties labels → rows ≡ rows_of table.table.schema i.properties.ignore_first i.body
    → first_fault table.table.schema i.properties.ignore_first limits.batch i.body ≡ None → IsBatchDue limits later (batch_read table rows labels) labels.barring due → IsRowsDue limits later i table due
rows_due limits later i table rows labels due are so sound is =
    let bars = barring_tags i.properties in
    let tagged : List (List ℕ) → Batch = λ ts. record { table = table.number; rows = rows_of table.table.schema i.properties.ignore_first i.body; tags = ts } in
    let own : batch_read table rows labels ≡ own_batch table i = ap (λ (rs : List Row). batch_read table rs labels) so ∙ ap tagged are.tags in
    subst (λ (o : Option ℕ). IsValuesDue o (IsBodyDue limits later (own_batch table i) bars (first_fault table.table.schema i.properties.ignore_first limits.batch i.body)) due) (sym are.good)
    (subst (λ (f : Option IngestFault). IsBodyDue limits later (own_batch table i) bars f due) (sym sound)
    (subst (λ (b : Batch). IsBatchDue limits later b bars due) own (subst (λ (ts : List (List ℕ)). IsBatchDue limits later (batch_read table rows labels) ts due) are.barring is)))

-- an offer of what comes of the rows of a text is one for the text
pub Offers-rows : (limits : Limits) (l : Log) (i : Ingestion) (table : NumberedTable) (rows : List Row) (labels : Labels) (result : Result Found Refusal) → AreLabels i.properties labels → rows ≡ rows_of table.table.schema i.properties.ignore_first i.body
    → first_fault table.table.schema i.properties.ignore_first limits.batch i.body ≡ None → IfOk result (IsOfferOf limits l table (batch_read table rows labels) labels.barring) → IfOk result (OffersRows limits l i table)
Offers-rows limits l i table rows labels (Ok (founds.Says reply)) are so sound offered = tt
Offers-rows limits l i table rows labels (Ok (founds.Commits offer)) are so sound offered = record {
  barring = offered.barring;
  barred = offered.barred;
  number = offered.number;
  widened = offered.widened;
  here = offered.here;
  alone = λ later stands. rows_due limits later i table rows labels (offer_due limits later offer) are so sound (offered.alone later stands);
  quiet = λ since still. rows_due limits (l ++ log since) i table rows labels (offer_due limits (l ++ log since) offer) are so sound (offered.quiet since still);
}
Offers-rows limits l i table rows labels (Ok (founds.Merges merging)) are so sound offered = absurd offered
Offers-rows limits l i table rows labels (Ok (founds.Folds folding)) are so sound offered = absurd offered
Offers-rows limits l i table rows labels (Ok founds.Pending) are so sound offered = absurd offered
Offers-rows limits l i table rows labels (Err r) are so sound offered = offered
