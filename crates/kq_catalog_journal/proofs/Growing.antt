-- What a longer log leaves of a table's columns and of its records.
use Rattle.std.proofs.Common.{◌≡◌, ◌<◌, ◌≤◌, ◌+◌, refl, subst, ℕ, zero, suc, List, [], ◌∷◌, ◌++◌, length, get_or, Contains, ap, sym, ◌∙◌, append_assoc, append-nil, length-append, arith}
use Rattle.std.specs.List.{All, slice_get}
use Rattle.std.specs.Option.{option_map, unwrap_or}
use Rattle.std.proofs.lemmas.List.{get_or-map, get_or_append_left, length-map}
use Rattle.kq_value.specs.declared.record.Record.{Record}
use Rattle.kq_value.specs.declared.schema.Field.{Field}
use Rattle.kq_value.specs.declared.value.Value.{Value}
use Rattle.kq_store_rows.specs.Widened.{widened_record, widened_records}
use Rattle.kq_store_rows.proofs.WidenedLemmas.{widened-twice}
use Rattle.kq_catalog_journal.specs.declared.event.Commit.{Commit}
use Rattle.kq_catalog_journal.specs.declared.event.Commit.TheVariants.{CreateTable, SetPolicy, CreateView, AlterMerge, Ingest}
use Rattle.kq_catalog_journal.specs.declared.table.Table.{Table}
use Rattle.kq_catalog_journal.specs.Changed.{changed}
use Rattle.kq_catalog_journal.specs.History.{History, Log, log, tables, tables_with, widened_table}
use Rattle.kq_catalog_journal.specs.Records.{records, records_from, records_given, schema_of}
use Rattle.kq_catalog_journal.proofs.Bounded.{no_fewer}
use Rattle.kq_catalog_journal.proofs.Histories.{log-append, tables-push}
use Rattle.kq_catalog_journal.proofs.Unique.{records_from-append}

-- columns of which the first are these
pub record Extends (first all : List Field) : Type 0 where
  pub more : List Field
  pub is : all ≡ first ++ more

abbrev schema_at : List Table → ℕ → List Field
schema_at ts t = unwrap_or (option_map (λ (x : Table). x.schema) (slice_get ts t)) []

same : (fields : List Field) → Extends fields fields
same fields = record { more = []; is = sym (append-nil fields) }

one_more : (ts : List Table) (x : Table) (t : ℕ) → Extends (schema_at ts t) (schema_at (ts ++ x ∷ []) t)
one_more [] x zero = record { more = x.schema; is = refl }
one_more [] x (suc t) = record { more = []; is = refl }
one_more (y ∷ ts) x zero = same y.schema
one_more (y ∷ ts) x (suc t) = one_more ts x t

one_wider : (at : ℕ) (columns : List Field) (n t : ℕ) (ts : List Table) → Extends (schema_at ts t) (schema_at (changed (widened_table at columns) n ts) t)
one_wider at columns n t [] = same (schema_at [] t)
one_wider at columns zero zero (y ∷ ts) = record { more = columns; is = refl }
one_wider at columns zero (suc t) (y ∷ ts) = same (schema_at ts t)
one_wider at columns (suc n) zero (y ∷ ts) = same y.schema
one_wider at columns (suc n) (suc t) (y ∷ ts) = one_wider at columns n t ts

one_commit : (at : ℕ) (c : Commit) (ts : List Table) (t : ℕ) → Extends (schema_at ts t) (schema_at (tables_with at c ts) t)
one_commit at (CreateTable name schema) ts t = one_more ts (record { name = name; schema = schema; made = at; widened = at }) t
one_commit at (CreateView view) ts t = same (schema_at ts t)
one_commit at (SetPolicy table entries) ts t = same (schema_at ts t)
one_commit at (AlterMerge table columns) ts t = one_wider at columns table t ts
one_commit at (Ingest batches failures) ts t = same (schema_at ts t)

-- a table's columns stay the first ones
pub schema-go_on : (l more : Log) (t : ℕ) → Extends (schema_of l t) (schema_of (l ++ more) t)
schema-go_on l [] t = subst (λ (m : Log). Extends (schema_of l t) (schema_of m t)) (sym (append-nil l)) (same (schema_of l t))
schema-go_on l (c ∷ more) t =
    let one : Extends (schema_at (tables l) t) (schema_of (l ++ c ∷ []) t) = subst (λ (ts : List Table). Extends (schema_at (tables l) t) (schema_at ts t)) (sym (tables-push l c)) (one_commit (length l + 1) c (tables l) t) in
    let rest = schema-go_on (l ++ c ∷ []) more t in
    subst (λ (m : Log). Extends (schema_of l t) (schema_of m t)) (append_assoc l (c ∷ []) more)
    (record { more = one.more ++ rest.more; is = rest.is ∙ ap (λ (fs : List Field). fs ++ rest.more) one.is ∙ append_assoc (schema_of l t) one.more rest.more })

wider_twice : (first all : List Field) → Extends first all → (r : Record) → widened_record all (widened_record first r) ≡ widened_record all r
wider_twice first all e r =
    subst (λ (fs : List Field). widened_record fs (widened_record first r) ≡ widened_record fs r) (sym e.is)
    (ap (λ (row : List Value). let x : Record = record { id = r.id; row = row } in x) (widened-twice first e.more r.row))

one_goes_on : (l more : Log) (t : ℕ) (r : Record) → Contains (records l t) r → Contains (records (l ++ more) t) (widened_record (schema_of (l ++ more) t) r)
one_goes_on l more t r here =
    let f = widened_record (schema_of l t) in
    let f' = widened_record (schema_of (l ++ more) t) in
    let gs = records_given l t in
    let all = records_given (l ++ more) t in
    let k = here.0 in
    let within : k < length gs = let n = length-map gs f in omega (arith, n, here.1) in
    let parts : all ≡ gs ++ records_from t (0 + length l) more = records_from-append t 0 l more in
    let longer : k < length all = let n = ap length parts ∙ length-append gs (records_from t (0 + length l) more) in omega (arith, n, within) in
    let g = get_or gs k r in
    let first : f g ≡ r = sym (get_or-map f gs k r r within) ∙ here.2 in
    let last : f' r ≡ f' g = ap f' (sym first) ∙ wider_twice (schema_of l t) (schema_of (l ++ more) t) (schema-go_on l more t) g in
    let there : get_or all k r ≡ g = ap (λ (rs : List Record). get_or rs k r) parts ∙ get_or_append_left gs (records_from t (0 + length l) more) r k within in
    (k, (let n = length-map all f' in omega (arith, n, longer)), get_or-map f' all k r (f' r) longer ∙ ap f' there ∙ sym last)

-- what a log gave a table stands there after more commits, widened to its columns
pub records-go_on : (l more : Log) (t : ℕ) (rs : List Record) → All (Contains (records l t)) rs → All (Contains (records (l ++ more) t)) (widened_records (schema_of (l ++ more) t) rs)
records-go_on l more t rs all = λ k d h.
    let f = widened_record (schema_of (l ++ more) t) in
    let within : k < length rs = let n = length-map rs f in omega (arith, n, h) in
    subst (Contains (records (l ++ more) t)) (sym (get_or-map f rs k d d within)) (one_goes_on l more t (get_or rs k d) (all k d within))

pub no_fewer_of : (l more : Log) → length (tables l) ≤ length (tables (l ++ more))
no_fewer_of l [] = subst (λ (m : Log). length (tables l) ≤ length (tables m)) (sym (append-nil l)) (omega arith)
no_fewer_of l (c ∷ more) =
    let one = no_fewer l c in
    let rest = subst (λ (m : Log). length (tables (l ++ c ∷ [])) ≤ length (tables m)) (append_assoc l (c ∷ []) more) (no_fewer_of (l ++ c ∷ []) more) in
    omega (arith, one, rest)

-- no table goes
pub tables-stay : (h more : History) → length (tables (log h)) ≤ length (tables (log (h ++ more)))
tables-stay h more = subst (λ (l : Log). length (tables (log h)) ≤ length (tables l)) (sym (log-append h more)) (no_fewer_of (log h) (log more))
