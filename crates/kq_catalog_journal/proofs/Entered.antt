-- What holds of the entries of each lawful history, and of what their queries give.
use Rattle.std.proofs.Common.{◌≡◌, ◌<◌, ◌⊎◌, inl, inr, ℕ, pos, List, [], ◌∷◌, ◌++◌, All, Option, Some, None, Ok, length, refl, ap, sym, ◌∙◌, subst, append-nil, append_assoc, arith, option_map, unwrap_or}
use Rattle.std.specs.List.{slice_get}
use Rattle.std.proofs.lemmas.Option.{get_or_from_slice_get, slice_get_within}
use Rattle.kq_value.specs.Computed.{Is}
use Rattle.kq_run_plan.specs.declared.outcome.Outcome.{Outcome}
use Rattle.kq_run_plan.specs.declared.outcome.Outcome.TheVariants as outcome
use Rattle.kq_run_plan.specs.Typed.{IsTypedTable, TypedWorld}
use Rattle.kq_run_plan.proofs.Typed.{gives_typed}
use Rattle.kq_plan.specs.declared.names.NameKind.TheVariants as name
use Rattle.kq_plan.specs.declared.work.LeafKind.{LeafKind}
use Rattle.kq_plan.specs.declared.work.LeafKind.TheVariants as kind
use Rattle.kq_plan.specs.Fits.{FitsNames, FitsLeaf}
use Rattle.kq_plan.specs.Names.{Known}
use Rattle.kq_plan.specs.Plans.{planned_of}
use Rattle.kq_value.specs.declared.schema.Field.{Field}
use Rattle.kq_value.specs.Typed.{HasTypes, IsMoment}
use Rattle.kq_catalog_journal.specs.declared.event.Commit.{Commit}
use Rattle.kq_catalog_journal.specs.declared.event.Commit.TheVariants.{CreateTable, SetPolicy, CreateView, AlterMerge, Ingest}
use Rattle.kq_catalog_journal.specs.declared.event.Event.{Event}
use Rattle.kq_catalog_journal.specs.declared.event.Operation.{Operation}
use Rattle.kq_catalog_journal.specs.declared.event.Operation.TheVariants as operation
use Rattle.kq_catalog_journal.specs.declared.limits.Limits.{Limits}
use Rattle.kq_catalog_journal.specs.declared.policy.Entry.{Entry}
use Rattle.kq_catalog_journal.specs.declared.table.Table.{Table}
use Rattle.kq_catalog_journal.specs.Beside.{DueGives, TableBeside, TellsCause, beside}
use Rattle.kq_catalog_journal.specs.Derived.{Row}
use Rattle.kq_catalog_journal.specs.Force.{policy_at}
use Rattle.kq_catalog_journal.specs.History.{History, Log, NumberedTable, commits_of, log, table_numbered, tables}
use Rattle.kq_catalog_journal.specs.Lawful.{AreLawful, IsEntry, IsNewPolicy, Lawful, LawfulCommit, LawfulOperation, known_table, tables_known}
use Rattle.kq_catalog_journal.specs.Policies.{policies, policies_with, rules, with_policy}
use Rattle.kq_catalog_journal.specs.Records.{schema_of}
use Rattle.kq_catalog_journal.specs.Typed.{IsLead}
use Rattle.kq_catalog_journal.proofs.Bounded.{AreLawful-induct, no_fewer}
use Rattle.kq_catalog_journal.proofs.Growing.{Extends, schema-go_on}
use Rattle.kq_catalog_journal.proofs.Histories.{log-push}
use Rattle.kq_catalog_journal.proofs.Leading.{leads-first}
use Rattle.kq_catalog_journal.proofs.Passed.{AreTyped}
use Rattle.kq_catalog_journal.proofs.Policies.{new-empty, policies-push, policy-set}
use Rattle.kq_catalog_journal.proofs.Tables.{still_found, table_numbered-at}

-- ---- entries

-- an entry whose plan was bound over the tables of some time, and gives the first columns of its target
pub record IsBound (l : Log) (target : ℕ) (e : Entry) : Type 0 where
  pub since : Log
  pub rest : Log
  pub is : l ≡ since ++ rest
  pub columns : List Field
  pub fits : FitsNames (tables_known since) (planned_of e.plan) columns
  pub first : Extends columns (schema_of l target)
  pub source : e.source < length (tables l)

-- so are all entries
abbrev pub AreBound : Log → Type 0
AreBound l = (t place : ℕ) (e : Entry) → slice_get (policy_at (policies l) t) place ≡ Some e → IsBound l t e

IsBound-later : (l : Log) (c : Commit) (t : ℕ) (e : Entry) → IsBound l t e → IsBound (l ++ c ∷ []) t e
IsBound-later l c t e is =
    let more = schema-go_on l (c ∷ []) t in
    let fewer = no_fewer l c in
    let source = is.source in
    record {
      since = is.since;
      rest = is.rest ++ c ∷ [];
      is = ap (λ (k : Log). k ++ c ∷ []) is.is ∙ append_assoc is.since is.rest (c ∷ []);
      columns = is.columns;
      fits = is.fits;
      first = record { more = is.first.more ++ more.more; is = more.is ∙ ap (λ (fs : List Field). fs ++ more.more) is.first.is ∙ append_assoc is.columns is.first.more more.more };
      source = omega (arith, fewer, source);
    }

IsBound-set : (l : Log) (t : ℕ) (table : Table) (e : Entry) → slice_get (tables l) t ≡ Some table → IsEntry l table.schema e → IsBound l t e
IsBound-set l t table e at is =
    let schema : schema_of l t ≡ table.schema = ap (λ (o : Option Table). unwrap_or (option_map (λ (x : Table). x.schema) o) []) at in
    record {
      since = l;
      rest = [];
      is = sym (append-nil l);
      columns = table.schema;
      fits = is.fits;
      first = record { more = []; is = schema ∙ sym (append-nil table.schema) };
      source = slice_get_within (tables l) e.source is.source is.stands;
    }

same_policies : (l : Log) (c : Commit) → AreBound l → policies_with c (policies l) ≡ policies l → AreBound (l ++ c ∷ [])
same_policies l c before same t place e at =
    IsBound-later l c t e (before t place e (ap (λ (ps : List (List Entry)). slice_get (policy_at ps t) place) (sym (policies-push l c ∙ same)) ∙ at))

new_policy : (limits : Limits) (l : Log) (table : ℕ) (entries : List Entry) → AreBound l → IsNewPolicy limits l table entries → AreBound (l ++ SetPolicy table entries ∷ [])
new_policy limits l table entries before new t place e at =
    IsBound-later l (SetPolicy table entries) t e
    (by_case (policy-set table entries (policies l) t) (ap (λ (ps : List (List Entry)). slice_get (policy_at ps t) place) (sym (policies-push l (SetPolicy table entries))) ∙ at))
  where
    by_case : (policy_at (with_policy table entries (policies l)) t ≡ policy_at (policies l) t) ⊎ ((t ≡ table) × (policy_at (with_policy table entries (policies l)) t ≡ entries))
        → slice_get (policy_at (with_policy table entries (policies l)) t) place ≡ Some e → IsBound l t e
    by_case (inl same) at = before t place e (ap (λ (es : List Entry). slice_get es place) (sym same) ∙ at)
    by_case (inr here) at =
        let is : slice_get entries place ≡ Some e = ap (λ (es : List Entry). slice_get es place) (sym here.1) ∙ at in
        let entry = subst (IsEntry l new.table.schema) (get_or_from_slice_get entries place e e is) (new.each place e (slice_get_within entries place e is)) in
        subst (λ (n : ℕ). IsBound l n e) (sym here.0) (IsBound-set l table new.table e new.stands entry)

new_table : (l : Log) (name : List ℕ) (schema : List Field) → AreBound l → AreBound (l ++ CreateTable name schema ∷ [])
new_table l name schema before t place e at =
    let c = CreateTable name schema in
    let here : policy_at (policies (l ++ c ∷ [])) t ≡ policy_at (policies l) t = ap (λ (ps : List (List Entry)). policy_at ps t) (policies-push l c) ∙ new-empty (policies l) t in
    IsBound-later l c t e (before t place e (ap (λ (es : List Entry). slice_get es place) (sym here) ∙ at))

bound_more : (limits : Limits) (l : Log) (c : Commit) → AreBound l → LawfulCommit limits l c → AreBound (l ++ c ∷ [])
bound_more limits l (CreateTable name schema) before lawful = new_table l name schema before
bound_more limits l (SetPolicy table entries) before lawful = new_policy limits l table entries before lawful
bound_more limits l (CreateView view) before lawful = same_policies l (CreateView view) before refl
bound_more limits l (AlterMerge table columns) before lawful = same_policies l (AlterMerge table columns) before refl
bound_more limits l (Ingest batches failures) before lawful = same_policies l (Ingest batches failures) before refl

none_bound : AreBound []
none_bound t place e at = absurd (let within = slice_get_within [] place e at in omega (arith, within))

event_more : (limits : Limits) (h : History) (e : Event) → AreBound (log h) → Lawful limits h e → AreBound (log (h ++ e ∷ []))
event_more limits h e before lawful = subst AreBound (sym (log-push h e)) (by_operation e.operation lawful.operation)
  where
    by_operation : (o : Operation) → LawfulOperation limits h o → AreBound (log h ++ commits_of o)
    by_operation (operation.Commit c) lawful = bound_more limits (log h) c before lawful
    by_operation (operation.Fold view to) lawful = subst AreBound (sym (append-nil (log h))) before
    by_operation (operation.Merge table old new) lawful = subst AreBound (sym (append-nil (log h))) before

pub AreBound-lawful : (limits : Limits) (h : History) → AreLawful limits h → AreBound (log h)
AreBound-lawful limits h all = AreLawful-induct limits (λ (g : History). AreBound (log g)) none_bound (event_more limits) h all

-- ---- the tables that they read

some_same : {X : Type 0} {x z : X} → Some x ≡ Some z → x ≡ z
some_same h = cc

no_view_found : (columns : List Field) (found : Option NumberedTable) → option_map known_table found ≡ Some (name.View, columns) → ⊥
no_view_found columns None is = cc
no_view_found columns (Some n) is = let kinds : name.Table ≡ name.View = ap (λ (k : Known). k.0) (some_same is) in cc

no_view : (since : Log) (said : List ℕ) (columns : List Field) → tables_known since said ≡ Some (name.View, columns) → ⊥
no_view since said columns is = no_view_found columns (table_numbered said (tables since)) is

-- the name is a table's, of which these are the first columns
pub record IsReadable (l : Log) (said : List ℕ) (columns : List Field) : Type 0 where
  pub found : NumberedTable
  pub finds : table_numbered said (tables l) ≡ Some found
  pub first : Extends columns found.table.schema

schema_at : (l : Log) (n : ℕ) (t : Table) → slice_get (tables l) n ≡ Some t → schema_of l n ≡ t.schema
schema_at l n t at = ap (λ (o : Option Table). unwrap_or (option_map (λ (x : Table). x.schema) o) []) at

readable_since : (since rest : Log) (said : List ℕ) (columns : List Field) (found : Option NumberedTable) → table_numbered said (tables since) ≡ found → option_map known_table found ≡ Some (name.Table, columns) → IsReadable (since ++ rest) said columns
readable_since since rest said columns None at is = cc
readable_since since rest said columns (Some n) at is =
    let same : n.table.schema ≡ columns = ap (λ (k : Known). k.1) (some_same is) in
    let still = still_found since rest said n at in
    let now : NumberedTable = record { number = n.number; table = still.table } in
    let before = schema_at since n.number n.table (table_numbered-at said (tables since) n at).1 in
    let after = schema_at (since ++ rest) n.number still.table (table_numbered-at said (tables (since ++ rest)) now still.finds).1 in
    let more = schema-go_on since rest n.number in
    record {
      found = now;
      finds = still.finds;
      first = record { more = more.more; is = sym after ∙ more.is ∙ ap (λ (fs : List Field). fs ++ more.more) (before ∙ same) };
    }

-- a leaf that fitted the tables of some time reads a table later too, under its first columns
pub IsReadable-later : (since rest : Log) (k : LeafKind) (said : List ℕ) (columns : List Field) → FitsLeaf k (tables_known since said) columns → (k ≡ kind.Table) × IsReadable (since ++ rest) said columns
IsReadable-later since rest kind.Table said columns fits = (refl, readable_since since rest said columns (table_numbered said (tables since)) refl fits)
IsReadable-later since rest kind.View said columns fits = absurd (no_view since said columns fits)
IsReadable-later since rest kind.Part said columns fits = absurd (no_view since said columns fits)

-- ---- what their queries give

-- what a table gives beside a batch has the types of the columns under which it is read
pub beside-typed : (l : Log) (source : ℕ) (rows : List Row) (known : List ℕ → Option Known) → TypedWorld known (beside l source rows)
beside-typed l source rows known said kind.Table cs given fits gives = by_found (table_numbered said (tables l)) gives
  where
    by_found : (found : Option NumberedTable) → TableBeside l source rows cs found (Is given) → All (HasTypes cs) given
    by_found (Some n) gives = gives.1
    by_found None gives = absurd gives
beside-typed l source rows known said kind.View cs given fits gives = absurd gives
beside-typed l source rows known said kind.Part cs given fits gives = absurd gives

at_start : IsMoment (pos 0)
at_start = (omega arith, omega arith)

told-typed : (columns : List Field) (o : Outcome) (given : List Row) → IsTypedTable columns o → TellsCause o (Ok given) → All (HasTypes columns) given
told-typed columns (outcome.Table ordered rows) given typed told = let same : given ≡ rows = cc in subst (All (HasTypes columns)) (sym same) typed
told-typed columns (outcome.Cell v) given typed told = absurd told
told-typed columns (outcome.Overflow stage) given typed told = cc
told-typed columns (outcome.Full limit) given typed told = cc

-- the queries of the entries of a lawful history give rows that lack no column of their target's but the last ones
pub AreTyped-bound : (l : Log) → AreBound l → AreTyped (rules l) (DueGives l)
AreTyped-bound l bound d rows given standing typed gives =
    let e = gives.entry in
    let is = bound d.target d.place e gives.stands in
    let came = gives.gives in
    let given_so = told-typed is.columns came.outcome given
    (gives_typed (tables_known is.since) (beside l e.source rows) (pos 0) (planned_of e.plan) is.columns came.outcome at_start (beside-typed l e.source rows (tables_known is.since)) is.fits came.gives) came.told in
    subst (λ (fs : List Field). All (IsLead fs) given) (sym is.first.is) (leads-first is.columns is.first.more given given_so)
