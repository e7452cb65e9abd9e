-- The edits of a lawful commit fit the tables.
use Rattle.std.proofs.Common.{◌≡◌, ◌<◌, ◌+◌, ℕ, List, [], ◌∷◌, ◌++◌, All, length, get_or, Option, Some, option_map, unwrap_or, ap, sym, subst, arith}
use Rattle.std.specs.List.{slice_get}
use Rattle.std.proofs.lemmas.List.Elements.{All-head, All-tail}
use Rattle.std.proofs.lemmas.Option.{slice_get_within}
use Rattle.kq_value.specs.declared.schema.Field.{Field}
use Rattle.kq_value.specs.Typed.{HasTypes}
use Rattle.kq_catalog_journal.specs.declared.batch.Batch.{Batch}
use Rattle.kq_catalog_journal.specs.declared.batch.Failure.{Failure}
use Rattle.kq_catalog_journal.specs.declared.limits.Limits.{Limits}
use Rattle.kq_catalog_journal.specs.declared.table.Table.{Table}
use Rattle.kq_catalog_journal.specs.declared.event.Commit.{Commit}
use Rattle.kq_catalog_journal.specs.declared.event.Commit.TheVariants.{CreateTable, SetPolicy, CreateView, AlterMerge, Ingest}
use Rattle.kq_catalog_journal.specs.Edits.{FitAll, new_extents, edits_of}
use Rattle.kq_catalog_journal.specs.Beside.{DueGives}
use Rattle.kq_catalog_journal.specs.History.{History, Log, log, tables}
use Rattle.kq_catalog_journal.specs.Lawful.{AreLawful, LawfulCommit, IsIngestion}
use Rattle.kq_catalog_journal.specs.Policies.{rules}
use Rattle.kq_catalog_journal.specs.Records.{rows_to, schema_of}
use Rattle.kq_catalog_journal.specs.Typed.{IsTyped}
use Rattle.kq_catalog_journal.proofs.Bounded.{all_stand, free_table}
use Rattle.kq_catalog_journal.proofs.Entered.{AreBound, AreBound-lawful, AreTyped-bound}
use Rattle.kq_catalog_journal.proofs.Passed.{IsDerived-typed}
use Rattle.kq_catalog_journal.proofs.Records.{numbered-rows}

-- the batch goes into a table, and its rows have the table's types
pub record IsFit (ts : List Table) (b : Batch) : Type 0 where
  pub stands : b.table < length ts
  pub typed : (t : Table) → slice_get ts b.table ≡ Some t → All (HasTypes t.schema) b.rows

schema_at : (l : Log) (n : ℕ) (t : Table) → slice_get (tables l) n ≡ Some t → schema_of l n ≡ t.schema
schema_at l n t at = ap (λ (o : Option Table). unwrap_or (option_map (λ (x : Table). x.schema) o) []) at

-- so do all that come of an ingestion's own
all_fit : (limits : Limits) (l : Log) (batches : List Batch) (failures : List Failure) → AreBound l → IsIngestion limits l batches failures → All (IsFit (tables l)) batches
all_fit limits l batches failures bound ingestion = λ k d within.
    let b = get_or batches k d in
    record {
      stands = all_stand limits l batches failures ingestion k d within;
      typed = λ t at. subst (λ (fs : List Field). All (HasTypes fs) b.rows) (schema_at l b.table t at) (typed k d within);
    }
  where
    own : Batch
    own = ingestion.own

    own_typed : IsTyped (schema_of l) own
    own_typed = subst (λ (fs : List Field). All (HasTypes fs) own.rows) (sym (schema_at l own.table ingestion.table ingestion.stands)) ingestion.typed

    typed : All (IsTyped (schema_of l)) batches
    typed = IsDerived-typed limits.cascade (rules l) (DueGives l) (AreTyped-bound l bound) own batches failures own_typed ingestion.derived

extents_fit : (ts : List Table) (cursor id : ℕ) (before bs : List Batch) → All (IsFit ts) bs → FitAll ts (new_extents cursor id before bs)
extents_fit ts cursor id before [] all = tt
extents_fit ts cursor id before (b ∷ bs) all =
    let is = All-head (IsFit ts) b bs all in
    let rows = numbered-rows cursor (rows_to b.table before) b.rows in
    ((is.stands, λ t at. subst (All (HasTypes t.schema)) (sym rows) (is.typed t at)), extents_fit ts cursor (id + 1) (before ++ b ∷ []) bs (All-tail (IsFit ts) b bs all))

edits_fit : (limits : Limits) (l : Log) (cursor id : ℕ) (c : Commit) → AreBound l → LawfulCommit limits l c → FitAll (tables l) (edits_of cursor id c)
edits_fit limits l cursor id (CreateTable name schema) bound lawful =
    let free = free_table limits l name schema lawful.2 in
    ((free.name, omega (arith, free.room, limits.few_tables)), tt)
edits_fit limits l cursor id (SetPolicy table entries) bound lawful = tt
edits_fit limits l cursor id (CreateView view) bound lawful = tt
edits_fit limits l cursor id (AlterMerge table columns) bound lawful = (slice_get_within (tables l) table lawful.table lawful.stands, tt)
edits_fit limits l cursor id (Ingest batches failures) bound lawful = extents_fit (tables l) cursor id [] batches (all_fit limits l batches failures bound lawful.0)

pub FitAll-lawful : (limits : Limits) (h : History) (cursor id : ℕ) (c : Commit) → AreLawful limits h → LawfulCommit limits (log h) c → FitAll (tables (log h)) (edits_of cursor id c)
FitAll-lawful limits h cursor id c all lawful = edits_fit limits (log h) cursor id c (AreBound-lawful limits h all) lawful
