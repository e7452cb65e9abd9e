-- The rows of extents, as those of a world.
use Rattle.std.proofs.Common.{◌≡◌, ℕ, List, [], All, map, Option, Some, None, Result, Ok, Err, IfOk, ap, sym, ◌∙◌, subst}
use Rattle.std.specs.List.{slice_get}
use Rattle.std.specs.List.Sorted.{IsPermutation}
use Rattle.std.specs.Option.{option_map, option_or, unwrap_or}
use Rattle.std.proofs.lemmas.List.Sorted.{IsPermutation-map, IsPermutation-sym, All-permutation}
use Rattle.kq_value.specs.Computed.{Is}
use Rattle.kq_store_extent.specs.Seen.{HeldExtents, held_records, row_of}
use Rattle.kq_store_extent.specs.Wide.{wide_held}
use Rattle.kq_run_plan.specs.kq_run_gather.Bodies.{columns_made}
use Rattle.kq_run_plan.specs.kq_run_scan.Lent.{AreLent, rows_held}
use Rattle.kq_catalog_journal.specs.declared.table.Table.{Table}
use Rattle.kq_catalog_journal.specs.History.{History, NumberedTable, log, tables}
use Rattle.kq_catalog_journal.specs.Records.{records, rows_in, schema_of}
use Rattle.kq_run_plan.specs.declared.outcome.Outcome.{Outcome}
use Rattle.kq_run_plan.specs.declared.outcome.Outcome.TheVariants as outcome
use Rattle.kq_run_plan.specs.Typed.{TypedWorld}
use Rattle.kq_plan.specs.declared.names.NameKind.TheVariants as name
use Rattle.kq_plan.specs.declared.work.LeafKind.{LeafKind}
use Rattle.kq_plan.specs.declared.work.LeafKind.TheVariants as kind
use Rattle.kq_plan.specs.Plans.{planned_of}
use Rattle.kq_value.specs.declared.record.Record.{Record}
use Rattle.kq_value.specs.declared.schema.Field.{Field}
use Rattle.kq_value.specs.declared.value.Value.{Value}
use Rattle.kq_value.specs.Same.{Same}
use Rattle.kq_value.specs.Typed.{HasTypes}
use Rattle.kq_value.proofs.SameLemmas.{Same-from_permutation}
use Rattle.kq_engine_query.specs.Views.{TellsRows}
use Rattle.kq_engine_query.specs.Worlds.{FoundGives, MayGive, NumberedView, TableGives, known_in, known_table, known_view, table_found, view_found}
use Rattle.kq_engine_query.proofs.Known.{other_kind, same_columns}

-- ---- what a table holds, under its columns

pub under_columns : (h : History) (number : ℕ) (t : Table) (held : HeldExtents) → slice_get (tables (log h)) number ≡ Some t → IsPermutation (held_records (wide_held (schema_of (log h) number) held)) (records (log h) number)
    → IsPermutation (held_records (wide_held t.schema held)) (records (log h) number)
under_columns h number t held at same =
    let columns : schema_of (log h) number ≡ t.schema = ap (λ (o : Option Table). unwrap_or (option_map (λ (x : Table). x.schema) o) []) at in
    subst (λ (fields : List Field). IsPermutation (held_records (wide_held fields held)) (records (log h) number)) columns same

-- copies of the columns and of the extents are lent as those are
pub copies_lent : (fields copied : List Field) (held shared : HeldExtents) → copied ≡ fields → shared ≡ held → AreLent (wide_held fields held) → AreLent (wide_held copied shared)
copies_lent fields copied held shared same also lent =
    subst (λ (t : HeldExtents). AreLent (wide_held copied t)) (sym also) (subst (λ (fs : List Field). AreLent (wide_held fs held)) (sym same) lent)

pub copies_hold : (fields copied : List Field) (held shared : HeldExtents) → copied ≡ fields → shared ≡ held → rows_held (wide_held copied shared) ≡ rows_held (wide_held fields held)
copies_hold fields copied held shared same also =
    ap (λ (t : HeldExtents). rows_held (wide_held copied t)) also ∙ ap (λ (fs : List Field). rows_held (wide_held fs held)) same

pub typed_held : (schema : List Field) (h : History) (number : ℕ) (held : List Record) → IsPermutation held (records (log h) number) → All (HasTypes schema) (rows_in h number)
    → All (HasTypes schema) (map row_of held)
typed_held schema h number held same typed =
    All-permutation (HasTypes schema) (rows_in h number) (map row_of held) (IsPermutation-sym (map row_of held) (rows_in h number) (IsPermutation-map row_of held (records (log h) number) same)) typed

pub same_held : (h : History) (number : ℕ) (held : List Record) → IsPermutation held (records (log h) number) → Same (map row_of held) (rows_in h number)
same_held h number held same = Same-from_permutation (map row_of held) (rows_in h number) (IsPermutation-map row_of held (records (log h) number) same)

pub given_held : {E : Type 0} (h : History) (found : NumberedTable) (held : List Record) (r : Result (List (List Value)) E) → IsPermutation held (records (log h) found.number)
    → All (HasTypes found.table.schema) (rows_in h found.number) → IfOk r (λ rows. rows ≡ map row_of held) → IfOk r (λ rows. TableGives h (Some found) (Is rows))
given_held h found held (Ok rows) same typed is = rw is (same_held h found.number held same, typed_held found.table.schema h found.number held same typed)
given_held h found held (Err e) same typed is = is

-- ---- the world's rows have the types of their names

table_typed : (h : History) (o : Option NumberedTable) (v : Option NumberedView) (cs : List Field) (rows : List (List Value)) → option_or (option_map known_table o) (option_map known_view v) ≡ Some (name.Table, cs) → TableGives h o (Is rows)
    → All (HasTypes cs) rows
table_typed h (Some found) v cs rows fits gives = subst (λ (fs : List Field). All (HasTypes fs) rows) (same_columns name.Table found.table.schema cs fits) gives.1
table_typed h None v cs rows fits gives = absurd gives

told_typed : (cs : List Field) (o : Outcome) (rows : List (List Value)) → TellsRows cs o (Is rows) → All (HasTypes cs) rows
told_typed cs (outcome.Table ordered given) rows told = let same : rows ≡ given = cc in subst (All (HasTypes cs)) (sym same) told.1
told_typed cs (outcome.Cell v) rows told = absurd told
told_typed cs (outcome.Overflow stage) rows told = absurd cc
told_typed cs (outcome.Full limit) rows told = absurd told

view_typed : (h : History) (k : LeafKind) (o : Option NumberedTable) (v : Option NumberedView) (cs : List Field) (rows : List (List Value)) → option_or (option_map known_table o) (option_map known_view v) ≡ Some (name.View, cs) → FoundGives h k v (Is rows)
    → All (HasTypes cs) rows
view_typed h k (Some found) v cs rows fits gives = absurd (other_kind found.table.schema cs fits)
view_typed h k None (Some found) cs rows fits gives =
    let made = columns_made (planned_of found.view.body) in
    subst (λ (fs : List Field). All (HasTypes fs) rows) (same_columns name.View made cs fits) (told_typed made gives.outcome rows gives.told)
view_typed h k None None cs rows fits gives = absurd gives

pub world_typed : (h : History) → TypedWorld (known_in h) (MayGive h)
world_typed h said kind.Table cs rows fits gives = table_typed h (table_found h said) (view_found h said) cs rows fits gives
world_typed h said kind.View cs rows fits gives = view_typed h kind.View (table_found h said) (view_found h said) cs rows fits gives
world_typed h said kind.Part cs rows fits gives = view_typed h kind.Part (table_found h said) (view_found h said) cs rows fits gives
