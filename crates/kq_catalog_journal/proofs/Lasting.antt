-- What comes of a batch after a log comes of it after a longer one too, where nothing since disturbs it.
use Rattle.std.proofs.Common.{◌≡◌, ◌≢◌, ◌⊎◌, inl, inr, ◌+◌, ℕ, pos, true, false, cond, List, [], ◌++◌, All, Contains, Option, None, Some, option_map, unwrap_or, Result, length, map, nat_eq, refl, ap, sym, ◌∙◌, subst, append-nil, zero-add}
use Rattle.std.specs.List.{slice_get}
use Rattle.std.proofs.lemmas.Bool.Decides.{eqb_tells}
use Rattle.std.proofs.lemmas.List.Elements.{All-contains, All-weaker}
use Rattle.kq_value.specs.Computed.{Computed, Is, Overflow}
use Rattle.kq_run_plan.proofs.Worlds.{Gives-wider, ReadsIn, StepReads}
use Rattle.kq_plan.specs.declared.work.LeafKind.TheVariants as kind
use Rattle.kq_plan.specs.Plans.{Doing, Stepping, leaf, one_row, numbers, written, scalar, kept as filtering, mapped, cut, counted, sorted, topped, apart, summarized, joined, united, expanded, planned_of}
use Rattle.kq_value.specs.declared.record.Record.{Record}
use Rattle.kq_value.specs.declared.schema.Field.{Field}
use Rattle.kq_value.specs.Same.{Same}
use Rattle.kq_store_rows.specs.Widened.{widened_records}
use Rattle.kq_catalog_journal.specs.declared.batch.Batch.{Batch}
use Rattle.kq_store_rows.specs.declared.cause.Cause.{Cause}
use Rattle.kq_catalog_journal.specs.declared.policy.Due.{Due}
use Rattle.kq_catalog_journal.specs.declared.policy.Entry.{Entry}
use Rattle.kq_catalog_journal.specs.declared.table.Table.{Table}
use Rattle.kq_catalog_journal.specs.Beside.{DueGives, EntryGives, TableBeside, beside, cut_to, rows_beside}
use Rattle.kq_catalog_journal.specs.Derived.{Cascade, IsDerived, Queries, Row}
use Rattle.kq_catalog_journal.specs.Force.{Rules, policy_at}
use Rattle.kq_catalog_journal.specs.History.{Log, NumberedTable, table_numbered, tables}
use Rattle.kq_catalog_journal.specs.Policies.{policies, rules}
use Rattle.kq_catalog_journal.specs.Records.{records, records_from, records_given, schema_of}
use Rattle.kq_catalog_journal.proofs.Unique.{records_from-append}
use Rattle.kq_catalog_journal.proofs.Wider.{IsDerived-wider}

-- ---- when nothing disturbs it

-- a table that a leaf reads beside the source was given no rows since
abbrev pub IsKept : Log → Log → ℕ → Doing → Type 0
IsKept l more source (leaf kind.Table said) = (found : NumberedTable) → table_numbered said (tables l) ≡ Some found → found.number ≢ source → records_from found.number (length l) more ≡ []
IsKept l more source d = Unit {0}

-- nor was any that the query of an entry reads
abbrev pub AreKept : Log → Log → Due → Type 0
AreKept l more d = (e : Entry) → slice_get (policy_at (policies l) d.target) d.place ≡ Some e → All (λ (s : Stepping). IsKept l more e.source s.doing) (planned_of e.plan).steps

-- the tables with their columns, and the policies, are the same, and no table that these entries read was given rows
pub record IsQuiet (l more : Log) (asked : List Due) : Type 0 where
  pub tables : tables (l ++ more) ≡ tables l
  pub policies : policies (l ++ more) ≡ policies l
  pub kept : All (AreKept l more) asked

-- ---- rows

schema_kept : (l more : Log) (t : ℕ) → tables (l ++ more) ≡ tables l → schema_of (l ++ more) t ≡ schema_of l t
schema_kept l more t same = ap (λ (ts : List Table). unwrap_or (option_map (λ (x : Table). x.schema) (slice_get ts t)) []) same

records_kept : (l more : Log) (t : ℕ) → tables (l ++ more) ≡ tables l → records_from t (length l) more ≡ [] → records (l ++ more) t ≡ records l t
records_kept l more t same none =
    let parts : records_given (l ++ more) t ≡ records_given l t ++ records_from t (0 + length l) more = records_from-append t 0 l more in
    let nothing : records_from t (0 + length l) more ≡ [] = ap (λ (n : ℕ). records_from t n more) (zero-add (length l)) ∙ none in
    let given : records_given (l ++ more) t ≡ records_given l t = parts ∙ ap (λ (rs : List Record). records_given l t ++ rs) nothing ∙ append-nil (records_given l t) in
    ap (widened_records (schema_of (l ++ more) t)) given ∙ ap (λ (fs : List Field). widened_records fs (records_given l t)) (schema_kept l more t same)

rows_kept : (l more : Log) (source : ℕ) (rows : List Row) (t : ℕ) → tables (l ++ more) ≡ tables l → (t ≢ source → records_from t (length l) more ≡ []) → rows_beside (l ++ more) source rows t ≡ rows_beside l source rows t
rows_kept l more source rows t same none = by_case (eqb_tells t source)
  where
    by_case : ((nat_eq t source ≡ true) × (t ≡ source)) ⊎ ((nat_eq t source ≡ false) × (t ≢ source)) → rows_beside (l ++ more) source rows t ≡ rows_beside l source rows t
    by_case (inl here) = rw here.0 refl
    by_case (inr there) = ap (λ (rs : List Record). cond (nat_eq t source) rows (map (λ (r : Record). r.row) rs)) (records_kept l more t same (none there.1))

-- ---- worlds

table_kept : (l more : Log) (source : ℕ) (rows : List Row) (cs : List Field) (found : Option NumberedTable) (given : Computed (List Row)) → tables (l ++ more) ≡ tables l
    → ((n : NumberedTable) → found ≡ Some n → n.number ≢ source → records_from n.number (length l) more ≡ []) → TableBeside l source rows cs found given → TableBeside (l ++ more) source rows cs found given
table_kept l more source rows cs None given same none gives = gives
table_kept l more source rows cs (Some n) Overflow same none gives = gives
table_kept l more source rows cs (Some n) (Is given) same none gives =
    (subst (λ (rs : List Row). Same given (cut_to cs rs)) (sym (rows_kept l more source rows n.number same (none n refl))) gives.0, gives.1)

step_kept : (l more : Log) (source : ℕ) (rows : List Row) (d : Doing) (cs : List Field) → tables (l ++ more) ≡ tables l → IsKept l more source d → ReadsIn (beside l source rows) (beside (l ++ more) source rows) d cs
step_kept l more source rows (leaf kind.Table said) cs same kept = λ given gives.
    subst (λ (ts : List Table). TableBeside (l ++ more) source rows cs (table_numbered said ts) given) (sym same)
    (table_kept l more source rows cs (table_numbered said (tables l)) given same kept gives)
step_kept l more source rows (leaf kind.View said) cs same kept = λ given gives. absurd gives
step_kept l more source rows (leaf kind.Part said) cs same kept = λ given gives. absurd gives
step_kept l more source rows (one_row es) cs same kept = tt
step_kept l more source rows (numbers from to by) cs same kept = tt
step_kept l more source rows (written ws) cs same kept = tt
step_kept l more source rows (scalar e) cs same kept = tt
step_kept l more source rows (filtering i e) cs same kept = tt
step_kept l more source rows (mapped i es) cs same kept = tt
step_kept l more source rows (cut i n) cs same kept = tt
step_kept l more source rows (counted i) cs same kept = tt
step_kept l more source rows (sorted i ks) cs same kept = tt
step_kept l more source rows (topped i n k) cs same kept = tt
step_kept l more source rows (apart i is) cs same kept = tt
step_kept l more source rows (summarized i es gs) cs same kept = tt
step_kept l more source rows (joined k i j on) cs same kept = tt
step_kept l more source rows (united arms) cs same kept = tt
step_kept l more source rows (expanded i e at t) cs same kept = tt

-- ---- queries

EntryGives-later : (l more : Log) (e : Entry) (rows : List Row) (given : Result (List Row) Cause) → tables (l ++ more) ≡ tables l → All (λ (s : Stepping). IsKept l more e.source s.doing) (planned_of e.plan).steps
    → EntryGives l e rows given → EntryGives (l ++ more) e rows given
EntryGives-later l more e rows given same kept came = record {
  outcome = came.outcome;
  gives = Gives-wider (planned_of e.plan) (beside l e.source rows) (beside (l ++ more) e.source rows) (pos 0) came.outcome
      (All-weaker (λ (s : Stepping). IsKept l more e.source s.doing) (StepReads (beside l e.source rows) (beside (l ++ more) e.source rows)) (λ s is. step_kept l more e.source rows s.doing s.columns same is) (planned_of e.plan).steps kept) came.gives;
  told = came.told;
}

DueGives-later : (l more : Log) (d : Due) (rows : List Row) (given : Result (List Row) Cause) → tables (l ++ more) ≡ tables l → policies (l ++ more) ≡ policies l → AreKept l more d → DueGives l d rows given → DueGives (l ++ more) d rows given
DueGives-later l more d rows given same still kept gives = record {
  entry = gives.entry;
  stands = ap (λ (ps : List (List Entry)). slice_get (policy_at ps d.target) d.place) still ∙ gives.stands;
  gives = EntryGives-later l more gives.entry rows given same (kept gives.entry gives.stands) gives.gives;
}

-- the queries of these entries alone
abbrev pub of_these : List Due → Queries → Queries
of_these asked q d rows given = Contains asked d × q d rows given

pub rules-later : (l more : Log) → tables (l ++ more) ≡ tables l → policies (l ++ more) ≡ policies l → rules (l ++ more) ≡ rules l
rules-later l more same still =
    ap (λ (ts : List Table). let r : Rules = record { columns = λ t. unwrap_or (option_map (λ (x : Table). x.schema) (slice_get ts t)) []; policies = policies (l ++ more) } in r) same
    ∙ ap (λ (ps : List (List Entry)). let r : Rules = record { columns = schema_of l; policies = ps } in r) still

-- what comes of a batch by the queries of some entries comes of it later too
pub IsDerived-later : (limit : ℕ) (l more : Log) (asked : List Due) (own : Batch) (o : Cascade) → IsQuiet l more asked → IsDerived limit (rules l) (of_these asked (DueGives l)) own o → IsDerived limit (rules (l ++ more)) (DueGives (l ++ more)) own o
IsDerived-later limit l more asked own o quiet derived =
    subst (λ (r : Rules). IsDerived limit r (DueGives (l ++ more)) own o) (sym (rules-later l more quiet.tables quiet.policies))
    (IsDerived-wider limit (rules l) (of_these asked (DueGives l)) (DueGives (l ++ more))
    (λ d rows given gave. DueGives-later l more d rows given quiet.tables quiet.policies (All-contains (AreKept l more) asked d quiet.kept gave.0) gave.1) own o derived)
