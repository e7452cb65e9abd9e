-- What was found stays due, or is skipped, as the log grows.
use Rattle.std.proofs.Common.{◌≡◌, ◌||◌, ℕ, ℤ, Bool, true, false, List, ◌++◌, take, drop, Option, Some, None, Result, Ok, Err, IfOk, inl, refl, ap, sym, ◌∙◌, subst}
use Rattle.std.specs.List.{slice_get}
use Rattle.std.proofs.lemmas.Bool.{eqb-true, false≢true}
use Rattle.std.proofs.lemmas.List.{take-append-drop}
use Rattle.kq_catalog_journal.specs.declared.limits.Limits.{Limits}
use Rattle.kq_catalog_journal.specs.declared.table.Table.{Table}
use Rattle.kq_catalog_journal.specs.History.{History, Log, NumberedTable, log, tables, table_numbered}
use Rattle.kq_catalog_journal.proofs.Histories.{log-append}
use Rattle.kq_catalog_journal.proofs.Tables.{still_same}
use Rattle.kq_catalog.specs.Intents.{commit_of}
use Rattle.kq_read_commands.specs.declared.command.Change.{Change as Changing}
use Rattle.kq_read_commands.specs.declared.command.Change.TheVariants.{CreateTable, AlterMerge, Ingest, CreateView, SetPolicy}
use Rattle.kq_read_commands.specs.declared.command.Command.{Command}
use Rattle.kq_read_commands.specs.declared.command.Command.TheVariants.{Change}
use Rattle.kq_read_commands.specs.declared.ingestion.Ingestion.{Ingestion}
use Rattle.kq_reply.specs.declared.refusal.Refusal.{Refusal}
use Rattle.kq_reply.specs.declared.refusal.Refusal.TheVariants as refusals
use Rattle.kq_policy_run.specs.Quiet.{is_quiet}
use Rattle.kq_policy_run.proofs.Lasting.{tables-quiet}
use Rattle.kq_engine_prepare.specs.declared.found.Barring.{Barring}
use Rattle.kq_engine_prepare.specs.declared.found.Found.{Found}
use Rattle.kq_engine_prepare.specs.declared.found.Found.TheVariants as founds
use Rattle.kq_engine_prepare.specs.declared.found.Offer.{Offer}
use Rattle.kq_engine_prepare.specs.Due.{Due, Says, Commits, IsChangeDue, IsDueByLog, IsDueByText, IsIngestDue, IsRowsDue, text_refusal}
use Rattle.kq_engine_prepare.specs.Found.{Finds, IsDueTo, IsFound, IsKept, IsOffered, IsReady, OffersChange, OffersInto, is_as_read, is_prepared_outside, is_widened_at, offer_due, stands_alone}
use Rattle.kq_engine_prepare.proofs.Dues.{ingest-no_view, table-no_view}
use Rattle.kq_engine_prepare.proofs.Gaining.{widening-no_view}
use Rattle.kq_engine_prepare.proofs.Entering.{policy-no_view}
use Rattle.kq_engine_prepare.proofs.Fit.{BeginsEmpty-offered, no_commit}
use Rattle.kq_engine_prepare.proofs.Keeping.{stands_unwidened}
use Rattle.kq_engine_prepare.proofs.Telling.{change_still}

-- ---- tables for which rows were read

widened_so : (o : Option Table) (cursor : ℕ) → is_widened_at o cursor ≡ true → (t : Table) × (o ≡ Some t) × (t.widened ≡ cursor)
widened_so None cursor e = absurd (false≢true e)
widened_so (Some t) cursor e = (t, refl, eqb-true t.widened cursor e)

-- a name finds the table for which rows were read, where it was not widened since
read_still : (l more : Log) (name : List ℕ) (found : NumberedTable) (b : Barring) → table_numbered name (tables l) ≡ Some found → b.table ≡ found.number → b.widened ≡ found.table.widened → is_widened_at (slice_get (tables (l ++ more)) b.table) b.widened ≡ true
    → table_numbered name (tables (l ++ more)) ≡ Some found
read_still l more name found b named number widened still =
    let now = widened_so (slice_get (tables (l ++ more)) b.table) b.widened still in
    still_same l more name found now.0 named (ap (λ (n : ℕ). slice_get (tables (l ++ more)) n) (sym number) ∙ now.1) (now.2 ∙ widened)

-- ---- offers

good_due : (limits : Limits) (l : Log) (change : Changing) (due : Due) → text_refusal change ≡ None → IsDueByLog limits l change due → IsChangeDue limits l change due
good_due limits l change due good by = subst (λ o. IsDueByText limits l change o due) (sym good) by

-- what an ingestion is due after a log, in the words of its offer
abbrev IsDueSo : Limits → Ingestion → Offer → Log → Type 0
IsDueSo limits i offer l = IsIngestDue limits l i (table_numbered i.table.text (tables l)) (offer_due limits l offer)

still_or_alone : (limits : Limits) (l : Log) (since : History) (i : Ingestion) (table : NumberedTable) (offer : Offer) → table_numbered i.table.text (tables l) ≡ Some table
    → (kept : IsKept limits l table (λ (later : Log) (due : Due). IsRowsDue limits later i table due) offer) → (alone : Bool) → stands_alone (l ++ log since) kept.barring ≡ alone → alone || is_quiet kept.barring.looked.items since ≡ true → IsDueSo limits i offer (l ++ log since)
still_or_alone limits l since i table offer named kept true stands still =
    let later = l ++ log since in
    let unwidened = stands_unwidened later kept.barring stands in
    subst (λ (o : Option NumberedTable). IsIngestDue limits later i o (offer_due limits later offer))
    (sym (read_still l (log since) i.table.text table kept.barring named kept.number kept.widened unwidened)) (kept.alone later stands)
still_or_alone limits l since i table offer named kept false stands still =
    let later = l ++ log since in
    let same : table_numbered i.table.text (tables later) ≡ Some table = ap (table_numbered i.table.text) (tables-quiet kept.barring.looked.items l since still) ∙ named in
    subst (λ (o : Option NumberedTable). IsIngestDue limits later i o (offer_due limits later offer)) (sym same) (kept.quiet since still)

rows_later : (limits : Limits) (l : Log) (since : History) (i : Ingestion) (offer : Offer) (o : Option NumberedTable) → table_numbered i.table.text (tables l) ≡ o → IsIngestDue limits l i o (Commits (commit_of offer.intent)) → OffersInto limits l i (founds.Commits offer)
    → is_as_read since (l ++ log since) offer.unless ≡ true → IsDueSo limits i offer (l ++ log since)
rows_later limits l since i offer None named due offers still = absurd (no_commit (commit_of offer.intent) (refusals.Unknown i.table.at) due)
rows_later limits l since i offer (Some table) named due offers still =
    let kept = offers table named in
    still_or_alone limits l since i table offer named kept (stands_alone (l ++ log since) kept.barring) refl (ap (is_as_read since (l ++ log since)) (sym kept.barred) ∙ still)

-- a commit that was found for a change
pub Offered-change : (limits : Limits) (l : Log) (change : Changing) (offer : Offer) → text_refusal change ≡ None → IsDueByLog limits l change (Commits (commit_of offer.intent)) → OffersChange limits l change (founds.Commits offer) → IsOffered limits l (Change change) offer
Offered-change limits l (CreateTable name columns) offer good due offers = record {
  due = (good_due limits l (CreateTable name columns) (Commits (commit_of offer.intent)) good due, refl);
  begins = BeginsEmpty-offered offer.intent (table-no_view limits l name columns (commit_of offer.intent) due);
  later = λ outside. absurd (false≢true outside);
}
Offered-change limits l (AlterMerge name columns) offer good due offers = record {
  due = (good_due limits l (AlterMerge name columns) (Commits (commit_of offer.intent)) good due, refl);
  begins = BeginsEmpty-offered offer.intent (widening-no_view limits l name columns (table_numbered name.text (tables l)) (commit_of offer.intent) due);
  later = λ outside. absurd (false≢true outside);
}
Offered-change limits l (Ingest i) offer good due offers = record {
  due = (good_due limits l (Ingest i) (Commits (commit_of offer.intent)) good due, refl);
  begins = BeginsEmpty-offered offer.intent (ingest-no_view limits l i (table_numbered i.table.text (tables l)) (commit_of offer.intent) due);
  later = λ outside since still. good_due limits (l ++ log since) (Ingest i) (offer_due limits (l ++ log since) offer) good (rows_later limits l since i offer (table_numbered i.table.text (tables l)) refl due offers still);
}
Offered-change limits l (CreateView view) offer good due offers = record {
  due = (good_due limits l (CreateView view) (Commits (commit_of offer.intent)) good due, refl);
  begins = offers;
  later = λ outside. absurd (false≢true outside);
}
Offered-change limits l (SetPolicy target policy) offer good due offers = record {
  due = (good_due limits l (SetPolicy target policy) (Commits (commit_of offer.intent)) good due, refl);
  begins = BeginsEmpty-offered offer.intent (policy-no_view limits l target policy (table_numbered target.text (tables l)) (commit_of offer.intent) due);
  later = λ outside. absurd (false≢true outside);
}

-- what was found for a change of a good text
pub Found-change : (limits : Limits) (h : History) (now : ℤ) (change : Changing) (result : Result Found Refusal) → text_refusal change ≡ None → Finds (IsDueByLog limits (log h) change) result → IfOk result (OffersChange limits (log h) change) → IfOk result (IsFound limits h now (Change change))
Found-change limits h now change (Ok (founds.Says reply)) good due offers = (good_due limits (log h) change (Says reply) good due, inl (change_still limits (log h) change reply due))
Found-change limits h now change (Ok (founds.Commits offer)) good due offers = Offered-change limits (log h) change offer good due offers
Found-change limits h now change (Ok (founds.Merges merging)) good due offers = absurd due
Found-change limits h now change (Ok (founds.Folds folding)) good due offers = absurd due
Found-change limits h now change (Ok founds.Pending) good due offers = absurd due
Found-change limits h now change (Err r) good due offers = offers

-- what the offer that was found at a place comes to is due
pub Offered-still : (limits : Limits) (h : History) (place : ℕ) (command : Command) (offer : Offer) → is_prepared_outside command ≡ true → IsOffered limits (log (take place h)) command offer → is_as_read (drop place h) (log h) offer.unless ≡ true
    → IsDueTo limits (log h) command (offer_due limits (log h) offer)
Offered-still limits h place command offer outside offered still =
    let since = drop place h in
    let whole : log (take place h) ++ log since ≡ log h = sym (log-append (take place h) since) ∙ ap log (take-append-drop place h) in
    subst (λ (l : Log). IsDueTo limits l command (offer_due limits l offer)) whole (offered.later outside since (subst (λ (l : Log). is_as_read since l offer.unless ≡ true) (sym whole) still))

-- what was found for a command that is prepared outside the lock is what a snapshot tells
pub Ready-found : (limits : Limits) (h : History) (now : ℤ) (command : Command) (result : Result Found Refusal) → is_prepared_outside command ≡ true → IfOk result (IsFound limits h now command) → IfOk result (IsReady limits h now command)
Ready-found limits h now command (Ok (founds.Says reply)) outside is = is
Ready-found limits h now command (Ok (founds.Commits offer)) outside is = (outside, is)
Ready-found limits h now command (Ok (founds.Merges merging)) outside is = is
Ready-found limits h now command (Ok (founds.Folds folding)) outside is = is
Ready-found limits h now command (Ok founds.Pending) outside is = absurd is
Ready-found limits h now command (Err r) outside is = is
