-- What a sound catalogue holds of each table, and a catalogue with one event more.
use Rattle.std.proofs.Common.{◌≡◌, ◌<◌, ◌≤◌, ◌+◌, refl, subst, ℕ, zero, suc, List, [], ◌∷◌, ◌++◌, All, length, map, Some, ap, sym, ◌∙◌, arith, add-zero, zero-add, Option}
use Rattle.std.specs.List.{AllZip, slice_get}
use Rattle.std.specs.Option.{option_map, unwrap_or}
use Rattle.std.proofs.lemmas.List.{length-map, length_push}
use Rattle.std.proofs.lemmas.Option.{slice_get-map, slice_get_within}
use Rattle.kq_value.specs.declared.schema.Field.{Field}
use Rattle.kq_value.specs.Typed.{HasTypes}
use Rattle.kq_catalog_journal.specs.declared.batch.Noted.{Noted}
use Rattle.kq_catalog_journal.specs.declared.event.Commit.{Commit}
use Rattle.kq_catalog_journal.specs.declared.event.Commit.TheVariants.{CreateTable, SetPolicy, CreateView, AlterMerge, Ingest}
use Rattle.kq_catalog_journal.specs.declared.event.Event.{Event}
use Rattle.kq_catalog_journal.specs.declared.event.Operation.{Operation}
use Rattle.kq_catalog_journal.specs.declared.event.Operation.TheVariants as operation
use Rattle.kq_catalog_journal.specs.declared.table.Table.{Table}
use Rattle.kq_catalog_journal.specs.Edits.{FitAll, edits_of}
use Rattle.kq_catalog_journal.proofs.Edited.{edited_by}
use Rattle.kq_catalog_journal.specs.History.{History, log, cursor as cursor_of, tables, commits_of}
use Rattle.kq_catalog_journal.specs.Lawful.{LawfulCommit, LawfulOperation}
use Rattle.kq_catalog_journal.specs.Policies.{noted, noted_by, policies, policies_with}
use Rattle.kq_catalog_journal.specs.Records.{records, rows_in, extents, commit_extents, extents_made, operation_extents, records_given, schema_of}
use Rattle.kq_store_rows.specs.Widened.{widened_record, widened_records}
use Rattle.kq_catalog_journal.specs.Tables.{TableState, states_from, table_states}
use Rattle.kq_catalog_journal.proofs.Bounded.{IsBounded, IsBounded-lawful, few_made}
use Rattle.kq_catalog_journal.proofs.Histories.{log-push, AreLawful-push}
use Rattle.kq_catalog_journal.proofs.Policies.{length-policies, noted-push, policies-push}
use Rattle.kq_catalog_journal.proofs.Records.{extents_made-push}
use Rattle.kq_catalog_journal.proofs.States.{table_states-push, table_states-tables}
use Rattle.kq_catalog_journal.proofs.Fitting.{FitAll-lawful}
use Rattle.kq_catalog_journal.specs.Tagged.{is_tagged_by}
use Rattle.kq_catalog_indexes.specs.declared.tag_entry.Entry.{Entry}
use Rattle.kq_catalog_indexes.specs.Tags.{AddsTags}
use Rattle.kq_catalog.specs.declared.edit.Change.{Change}
use Rattle.kq_catalog.specs.declared.intent.Intent.{Intent}
use Rattle.kq_catalog.specs.Edits.{edits_by, put_all}
use Rattle.kq_catalog.specs.Held.{HeldTable, IsHeld, tables_in}
use Rattle.kq_catalog.specs.Intents.{BeginsEmpty, commit_of, view_by}
use Rattle.kq_catalog.specs.Policies.{SetsStanding}
use Rattle.kq_catalog.specs.Seen.{CatalogView, HoldsHistory, Sound, hist}
use Rattle.kq_catalog.specs.Tagged.{TellsTags}
use Rattle.kq_catalog.specs.Views.{with_new}
use Rattle.kq_catalog.proofs.Keeping.{all_changes}
use Rattle.kq_catalog.proofs.Tagged.{TellsTags-push}
use Rattle.kq_catalog.proofs.Viewing.{views-commit}

same_tables : (hs : List HeldTable) (ss : List TableState) → AllZip IsHeld hs ss → tables_in hs ≡ map (λ (s : TableState). s.table) ss
same_tables [] [] all = refl
same_tables [] (s ∷ ss) all = absurd all
same_tables (h ∷ hs) [] all = absurd all
same_tables (h ∷ hs) (s ∷ ss) all = ap (λ (ts : List Table). h.table ∷ ts) (same_tables hs ss all.1) ∙ ap (λ (t : Table). t ∷ map (λ (x : TableState). x.table) ss) all.0.table

-- the tables that are held are the history's
pub tables_held : (c : CatalogView) → Sound c → tables_in c.held ≡ tables (log (hist c))
tables_held c sound = same_tables c.held (table_states (hist c)) sound.tables ∙ table_states-tables (hist c)

pub count_held : (c : CatalogView) → Sound c → length c.held ≡ length (tables (log (hist c)))
count_held c sound = sym (length-map c.held (λ (h : HeldTable). h.table)) ∙ ap length (tables_held c sound)

-- a table as a history leaves it, under a number
abbrev state_at : History → ℕ → Table → TableState
state_at h n t = record { table = t; records = widened_records t.schema (records_given (log h) n); items = extents h n }

-- what is held of the table of a number
held_from : (h : History) (n i m : ℕ) (ts : List Table) (hs : List HeldTable) (x : HeldTable) → m ≡ n + i → AllZip IsHeld hs (states_from n ts h) → slice_get hs i ≡ Some x → IsHeld x (state_at h m x.table)
held_from h n i m ts [] x at all is = let within = slice_get_within [] i x is in absurd (omega (arith, within))
held_from h n i m [] (y ∷ hs) x at all is = absurd all
held_from h n zero m (t ∷ ts) (y ∷ hs) x at all is =
    let same : y ≡ x = cc in
    let here : m ≡ n = at ∙ add-zero n in
    subst (λ (k : ℕ). IsHeld x (state_at h k x.table)) (sym here)
    (subst (λ (v : HeldTable). IsHeld v (state_at h n v.table)) same (subst (λ (u : Table). IsHeld y (state_at h n u)) (sym all.0.table) all.0))
held_from h n (suc i) m (t ∷ ts) (y ∷ hs) x at all is = held_from h (n + 1) i m ts hs x (omega (arith, at)) all.1 is

-- the columns of the history's table are those of the one that is held
pub schema_held : (c : CatalogView) (n : ℕ) (x : HeldTable) → Sound c → slice_get c.held n ≡ Some x → schema_of (log (hist c)) n ≡ x.table.schema
schema_held c n x sound is =
    let at : slice_get (tables_in c.held) n ≡ Some x.table = slice_get-map (λ (h : HeldTable). h.table) c.held n ∙ ap (option_map (λ (h : HeldTable). h.table)) is in
    ap (λ (o : Option Table). unwrap_or (option_map (λ (t : Table). t.schema) o) []) (ap (λ (ts : List Table). slice_get ts n) (sym (tables_held c sound)) ∙ at)

pub held_at : (c : CatalogView) (n : ℕ) (x : HeldTable) → Sound c → slice_get c.held n ≡ Some x → IsHeld x (record { table = x.table; records = records (log (hist c)) n; items = extents (hist c) n })
held_at c n x sound is =
    subst (λ (fields : List Field). IsHeld x (record { table = x.table; records = widened_records fields (records_given (log (hist c)) n); items = extents (hist c) n })) (sym (schema_held c n x sound is))
    (held_from (hist c) 0 n n (tables (log (hist c))) c.held x (sym (zero-add n)) sound.tables is)

some_same : {X : Type 0} {x z : X} → Some x ≡ Some z → x ≡ z
some_same h = cc

-- its rows have the types of the history's table
pub typed_at : (c : CatalogView) (n : ℕ) (x : HeldTable) (t : Table) → Sound c → slice_get c.held n ≡ Some x → slice_get (tables (log (hist c))) n ≡ Some t → All (HasTypes t.schema) (rows_in (hist c) n)
typed_at c n x t sound is at =
    let held : slice_get (tables_in c.held) n ≡ Some x.table = slice_get-map (λ (h : HeldTable). h.table) c.held n ∙ ap (option_map (λ (h : HeldTable). h.table)) is in
    let same : x.table ≡ t = some_same (sym held ∙ ap (λ (ts : List Table). slice_get ts n) (tables_held c sound) ∙ at) in
    subst (λ (u : Table). All (HasTypes u.schema) (rows_in (hist c) n)) same (held_at c n x sound is).typed

-- how few there are of everything
pub bounded : (c : CatalogView) → Sound c → IsBounded c.limits (log (hist c))
bounded c sound = IsBounded-lawful c.limits (hist c) sound.lawful

-- few extents were made beside the events
pub made_few : (c : CatalogView) → Sound c → extents_made (hist c) ≤ length (hist c) + 4398046510080
made_few c sound =
    let b = bounded c sound in
    omega (arith, few_made c.limits (hist c) sound.lawful, b.few_commits, c.limits.few_commits)

pub few_records : (c : CatalogView) (n : ℕ) → Sound c → length (records (log (hist c)) n) < 9223372036854775808
few_records c n sound =
    let b = bounded c sound in
    let same = length-map (records_given (log (hist c)) n) (widened_record (schema_of (log (hist c)) n)) in
    omega (arith, same, b.few_records n, b.few_commits, c.limits.few_commits)

-- a policy for each table
pub count_policies : (c : CatalogView) → Sound c → length c.policies ≡ length (tables (log (hist c)))
count_policies c sound = ap length sound.policies ∙ length-policies (log (hist c))

-- a lawful commit sets the policy of a table that stands
pub sets_standing : (c : CatalogView) (commit : Commit) → Sound c → LawfulCommit c.limits (log (hist c)) commit → SetsStanding (length c.policies) commit
sets_standing c (CreateTable name schema) sound lawful = tt
sets_standing c (SetPolicy table entries) sound lawful =
    let within = slice_get_within (tables (log (hist c))) table lawful.table lawful.stands in
    omega (arith, within, count_policies c sound)
sets_standing c (CreateView view) sound lawful = tt
sets_standing c (AlterMerge table columns) sound lawful = tt
sets_standing c (Ingest batches failures) sound lawful = tt

-- the edits of a lawful commit fit what is held
pub changes_fit : (c : CatalogView) (cursor id : ℕ) (commit : Commit) (cs : List Change) → Sound c → LawfulCommit c.limits (log (hist c)) commit → edits_by cs ≡ edits_of cursor id commit → FitAll (tables_in c.held) (edits_by cs)
changes_fit c cursor id commit cs sound lawful are =
    subst (λ (ts : List Table). FitAll ts (edits_by cs)) (sym (tables_held c sound))
    (subst (FitAll (tables (log (hist c)))) (sym are) (FitAll-lawful c.limits (hist c) cursor id commit sound.lawful lawful))

-- a catalogue with one commit more
pub HoldsHistory-push : (c : CatalogView) (cursor made more : ℕ) (event : Event) (intent : Intent) (cs : List Change) (index tags : List Entry) → HoldsHistory c cursor made index → LawfulCommit c.limits (log (hist c)) (commit_of intent) → BeginsEmpty intent
    → event.operation ≡ operation.Commit (commit_of intent)
    → edits_by cs ≡ edits_of (cursor_of (hist c) + 1) (1 + extents_made (hist c)) (commit_of intent) → more ≡ commit_extents (commit_of intent)
    → AddsTags index (λ t tag. is_tagged_by t tag (commit_of intent)) (cursor + 1) tags
    → HoldsHistory (record { limits = c.limits; history = hist c ++ event ∷ []; held = put_all c.held cs; policies = policies_with (commit_of intent) c.policies; views = with_new c.views (view_by (cursor_of (hist c) + 1) intent); failures = c.failures ++ noted_by (cursor_of (hist c) + 1) (commit_of intent) }) (cursor + 1) (made + more) tags
HoldsHistory-push c cursor made more event intent cs index tags holds lawful begins is are count adds =
    let h = hist c in
    let commit = commit_of intent in
    let logged : log (h ++ event ∷ []) ≡ log h ++ commit ∷ [] = log-push h event ∙ ap (λ (o : Operation). log h ++ commits_of o) is in
    let next : table_states (h ++ event ∷ []) ≡ edited_by (table_states h) (edits_by cs) =
    table_states-push c.limits h event commit holds.sound.lawful is ∙ ap (edited_by (table_states h)) (sym are) in
    let fits = changes_fit c (cursor_of h + 1) (1 + extents_made h) commit cs holds.sound lawful are in
    record {
      sound = record {
        tables = subst (AllZip IsHeld (put_all c.held cs)) (sym next) (all_changes cs c.held (table_states h) holds.sound.tables fits);
        policies = ap (policies_with commit) holds.sound.policies ∙ sym (ap policies logged ∙ policies-push (log h) commit);
        views = views-commit c.limits h event intent c.views holds.sound.lawful holds.sound.views is begins;
        failures = ap (λ (ns : List Noted). ns ++ noted_by (cursor_of h + 1) commit) holds.sound.failures ∙ sym (ap noted logged ∙ noted-push (log h) commit);
        lawful = AreLawful-push c.limits h event holds.sound.lawful (record { operation = subst (LawfulOperation c.limits h) (sym is) lawful });
      };
      count = ap (λ (n : ℕ). n + 1) holds.count ∙ sym (ap length logged ∙ length_push (log h) commit);
      made_count = ap (λ (n : ℕ). n + more) holds.made_count ∙ ap (λ (n : ℕ). extents_made h + n) (count ∙ sym (ap operation_extents is)) ∙ sym (extents_made-push h event);
      tags = subst (TellsTags tags) (sym logged)
          (TellsTags-push index tags (log h) commit holds.tags (subst (λ (n : ℕ). AddsTags index (λ t tag. is_tagged_by t tag commit) (n + 1) tags) holds.count adds));
    }
