-- Where preparing a command takes memory.
use Rattle.std.proofs.Common.{◌≡◌, ◌+◌, ℕ, ℤ, Bool, true, false, cond, List, [], ◌∷◌, length, nat_lt, Option, Some, None, Result, Ok, Err, IfErr, refl, ap, sym, subst, arith, inl, inr}
use Rattle.std.specs.Option.{option_map, option_or}
use Rattle.std.proofs.lemmas.Bool.{false≢true}
use Rattle.kq_value.specs.declared.schema.Field.{Field}
use Rattle.kq_value.specs.Schema.{same_fields}
use Rattle.kq_catalog_journal.specs.declared.event.Commit.{Commit}
use Rattle.kq_catalog_journal.specs.declared.event.Commit.TheVariants as commits
use Rattle.kq_catalog_journal.specs.declared.limits.Limits.{Limits}
use Rattle.kq_catalog_journal.specs.declared.table.Table.{Table}
use Rattle.kq_catalog_journal.specs.History.{History, Log, NumberedTable, log, tables, table_named, table_numbered, is_view}
use Rattle.kq_catalog.specs.declared.merging.Merging.{Merging}
use Rattle.kq_read_commands.specs.declared.columns.Column.{Column}
use Rattle.kq_read_commands.specs.declared.columns.Identifier.{Identifier}
use Rattle.kq_read_commands.specs.declared.command.Change.TheVariants.{CreateTable, AlterMerge, Ingest, CreateView, SetPolicy}
use Rattle.kq_read_commands.specs.declared.command.Command.{Command}
use Rattle.kq_read_commands.specs.declared.command.Command.TheVariants.{Query, Show, Change, Merge, Fold}
use Rattle.kq_read_commands.specs.declared.ingestion.Ingestion.{Ingestion}
use Rattle.kq_read_commands.specs.declared.command.Show.{Show as Showing}
use Rattle.kq_read_commands.specs.declared.command.Show.TheVariants as shows
use Rattle.kq_read_commands.specs.Columns.{schema_of}
use Rattle.kq_read_commands.specs.Widening.{first_clash, new_columns}
use Rattle.kq_reply.specs.declared.refusal.Refusal.{Refusal}
use Rattle.kq_reply.specs.declared.refusal.Refusal.TheVariants as refusals
use Rattle.kq_reply.specs.declared.reply.Reply.TheVariants as replies
use Rattle.kq_view_body.specs.kq_bind_supported.Unsupported.{unsupported_query}
use Rattle.kq_read_commands.specs.declared.definition.NewView.{NewView}
use Rattle.kq_engine_prepare.specs.Folds.{FoldsNamed, view_number}
use Rattle.kq_engine_prepare.specs.Due.{Due, Says, Commits, IsDueByText, IsViewDue, IsIngestDue, tree_in, clash_due, counted, lacking_due, made_due, named_due, refused, repeated_place, widening_due, IsPolicyDue}
use Rattle.kq_engine_prepare.specs.Fits.{IsDue}
use Rattle.kq_engine_prepare.specs.Found.{Gains, IsCommitDue, IsMergeable, LagsBehind, MayWantMemory, Stands, TakesMemory, TakesToFind, TakesToShow, is_prepared_outside}
use Rattle.kq_engine_prepare.specs.Merges.{IsMergingFor, MergesNamed}
use Rattle.kq_engine_prepare.specs.Shows.{ShowsExtents, ShowsView, AnswersShow}
use Rattle.kq_engine_prepare.proofs.Dues.{Due-is_good, table_due-unnamed}
use Rattle.kq_engine_prepare.proofs.Fit.{no_commit}
use Rattle.kq_engine_prepare.proofs.Gaining.{widening-gains}

-- rows were read only for a table that stands
rows_wanted : (limits : Limits) (l : Log) (i : Ingestion) (o : Option NumberedTable) (c : Commit) → IsIngestDue limits l i o (Commits c) → Stands o
rows_wanted limits l i None c due = no_commit c (refusals.Unknown i.table.at) due
rows_wanted limits l i (Some found) c due = tt

columns_wanted : (limits : Limits) (l : Log) (name : Identifier) (columns : List Column) (o : Option NumberedTable) (c : Commit) → Commits c ≡ widening_due limits l name columns o → Gains columns o
columns_wanted limits l name columns None c due = no_commit c (refusals.Unknown name.at) due
columns_wanted limits l name columns (Some found) c due = λ none.
    let some = widening-gains limits l name columns found c due in
    let empty : length (schema_of (new_columns found.table.schema columns)) ≡ 0 = ap (λ (cs : List Column). length (schema_of cs)) none in
    omega (arith, some, empty)

-- a body was bound only over a table that stands
view_wanted : (limits : Limits) (l : Log) (view : NewView) (o : Option NumberedTable) (c : Commit) → IsViewDue limits l view o (Commits c) → Stands o
view_wanted limits l view None c due = absurd (no_commit c (refusals.Unknown view.table.at) due)
view_wanted limits l view (Some found) c due = tt

-- a text was read only for a table that stands
policy_wanted : (limits : Limits) (l : Log) (target : Identifier) (policy : List ℕ) (o : Option NumberedTable) (c : Commit) → IsPolicyDue limits l target policy o (Commits c) → Stands o
policy_wanted limits l target policy None c due = absurd (no_commit c (refusals.Unknown target.at) due)
policy_wanted limits l target policy (Some found) c due = tt

-- a commit that is due takes memory
pub commit_finds : (limits : Limits) (h : History) (command : Command) (c : Commit) → IsCommitDue limits (log h) command c → TakesToFind h command
commit_finds limits h (Query query) c due = absurd due
commit_finds limits h (Show show) c due = absurd due
commit_finds limits h (Change (CreateTable name columns)) c due = table_due-unnamed limits (log h) name (schema_of columns) c (Due-is_good limits (log h) (CreateTable name columns) c due.0).1.1
commit_finds limits h (Change (AlterMerge name columns)) c due = columns_wanted limits (log h) name columns (table_numbered name.text (tables (log h))) c (Due-is_good limits (log h) (AlterMerge name columns) c due.0).1
commit_finds limits h (Change (Ingest i)) c due = rows_wanted limits (log h) i (table_numbered i.table.text (tables (log h))) c (Due-is_good limits (log h) (Ingest i) c due.0).1
commit_finds limits h (Merge table) c due = absurd due
commit_finds limits h (Change (CreateView view)) c due = view_wanted limits (log h) view (table_numbered view.table.text (tables (log h))) c (Due-is_good limits (log h) (CreateView view) c due.0).1
commit_finds limits h (Change (SetPolicy target policy)) c due = policy_wanted limits (log h) target policy (table_numbered target.text (tables (log h))) c (Due-is_good limits (log h) (SetPolicy target policy) c due.0).1
commit_finds limits h (Fold view) c due = absurd due

-- ---- want of memory isn't due to `.create table` or `.alter-merge table`

abbrev memory_due : Due
memory_due = refused refusals.Memory

not_commit : (c : Commit) → memory_due ≡ Commits c → ⊥
not_commit c e = cc

not_full : (limit : ℕ) → memory_due ≡ refused (refusals.Full limit) → ⊥
not_full limit e = cc

not_kept : (cursor : ℕ) → memory_due ≡ Says (replies.Kept cursor) → ⊥
not_kept cursor e = cc

not_exists : (at : ℕ) → memory_due ≡ refused (refusals.Exists at) → ⊥
not_exists at e = cc

neither : (b : Bool) (x y : Due) → (memory_due ≡ x → ⊥) → (memory_due ≡ y → ⊥) → memory_due ≡ cond b x y → ⊥
neither true x y f g e = f e
neither false x y f g e = g e

not_counted : (limits : Limits) (l : Log) (c : Commit) → memory_due ≡ counted limits l c → ⊥
not_counted limits l c e = neither (nat_lt (length l) limits.commits) (Commits c) (refused (refusals.Full limits.commits)) (not_commit c) (not_full limits.commits) e

not_named : (limits : Limits) (l : Log) (name : Identifier) (schema : List Field) (o : Option Table) → memory_due ≡ named_due limits l name schema o → ⊥
not_named limits l name schema (Some t) e = neither (same_fields t.schema schema) (Says (replies.Kept t.made)) (refused (refusals.Exists name.at)) (not_kept t.made) (not_exists name.at) e
not_named limits l name schema None e =
    let made = commits.CreateTable name.text schema in
    neither (is_view name.text l) (refused (refusals.Exists name.at)) (made_due limits l name schema) (not_exists name.at)
    (neither (nat_lt (length (tables l)) limits.tables) (counted limits l made) (refused (refusals.Full limits.tables)) (not_counted limits l made) (not_full limits.tables)) e

not_table : (limits : Limits) (l : Log) (name : Identifier) (columns : List Column) (place : Option ℕ) → IsDueByText limits l (CreateTable name columns) (option_map (λ (at : ℕ). refusals.Mistyped at) place) memory_due → ⊥
not_table limits l name columns (Some at) due = cc
not_table limits l name columns None due =
    let schema = schema_of columns in
    let named = table_named name.text (tables l) in
    neither (nat_lt limits.columns (length schema)) (refused (refusals.Full limits.columns)) (named_due limits l name schema named) (not_full limits.columns) (not_named limits l name schema named) due.1

not_mistyped : (at : ℕ) → memory_due ≡ refused (refusals.Mistyped at) → ⊥
not_mistyped at e = cc

not_unknown : (at : ℕ) → memory_due ≡ refused (refusals.Unknown at) → ⊥
not_unknown at e = cc

not_lacking : (limits : Limits) (l : Log) (found : NumberedTable) (more : List Field) → memory_due ≡ lacking_due limits l found more → ⊥
not_lacking limits l found [] e = not_kept found.table.widened e
not_lacking limits l found (f ∷ more) e =
    let wider = commits.AlterMerge found.number (f ∷ more) in
    neither (nat_lt limits.columns (length found.table.schema + length (f ∷ more))) (refused (refusals.Full limits.columns)) (counted limits l wider) (not_full limits.columns) (not_counted limits l wider) e

not_clash : (limits : Limits) (l : Log) (found : NumberedTable) (columns : List Column) (clash : Option ℕ) → memory_due ≡ clash_due limits l found columns clash → ⊥
not_clash limits l found columns (Some at) e = not_mistyped at e
not_clash limits l found columns None e = not_lacking limits l found (schema_of (new_columns found.table.schema columns)) e

not_widening : (limits : Limits) (l : Log) (name : Identifier) (columns : List Column) (o : Option NumberedTable) → memory_due ≡ widening_due limits l name columns o → ⊥
not_widening limits l name columns None e = not_unknown name.at e
not_widening limits l name columns (Some found) e = not_clash limits l found columns (first_clash found.table.schema columns) e

not_columns : (limits : Limits) (l : Log) (name : Identifier) (columns : List Column) (place : Option ℕ) → IsDueByText limits l (AlterMerge name columns) (option_map (λ (at : ℕ). refusals.Mistyped at) place) memory_due → ⊥
not_columns limits l name columns (Some at) due = not_mistyped at due
not_columns limits l name columns None due = not_widening limits l name columns (table_numbered name.text (tables l)) due

-- ---- want of memory as a reply that is due

extents_find : (h : History) (table : Identifier) (o : Option NumberedTable) → ShowsExtents h table o (replies.Refused refusals.Memory) → Stands o
extents_find h table None due = cc
extents_find h table (Some found) due = tt

view_finds : (h : History) (view : Identifier) (o : Option ℕ) → ShowsView h view o (replies.Refused refusals.Memory) → Stands o
view_finds h view None due = cc
view_finds h view (Some number) due = tt

folds_find : (h : History) (view : Identifier) (o : Option ℕ) → FoldsNamed h view o (replies.Refused refusals.Memory) → LagsBehind h o
folds_find h view None due = cc
folds_find h view (Some number) due = absurd due

views_find : (limits : Limits) (l : Log) (view : NewView) (o : Option NumberedTable) → IsViewDue limits l view o memory_due → Stands o
views_find limits l view None due = cc
views_find limits l view (Some found) due = tt

-- what a view's text is refused for isn't want of memory
text_find : (limits : Limits) (l : Log) (view : NewView) (o p : Option ℕ) → IsDueByText limits l (CreateView view) (option_or (option_map (λ (at : ℕ). refusals.Unsupported at) o) (option_map (λ (at : ℕ). refusals.Mistyped at) p)) memory_due → Stands (table_numbered view.table.text (tables l))
text_find limits l view (Some at) p due = cc
text_find limits l view None (Some at) due = cc
text_find limits l view None None due = views_find limits l view (table_numbered view.table.text (tables l)) due

policy_finds : (limits : Limits) (l : Log) (target : Identifier) (policy : List ℕ) (o : Option NumberedTable) → IsPolicyDue limits l target policy o memory_due → Stands o
policy_finds limits l target policy None due = cc
policy_finds limits l target policy (Some found) due = tt

show_finds : (h : History) (asked : Showing) → AnswersShow h asked (replies.Refused refusals.Memory) → TakesToShow h asked
show_finds h (shows.View view) due = view_finds h view (view_number h view) due
show_finds h shows.Failures due = tt
show_finds h (shows.Extents table) due = extents_find h table (table_numbered table.text (tables (log h))) due
show_finds h shows.Journal due = tt

named_finds : (h : History) (table : Identifier) (o : Option NumberedTable) → MergesNamed h table o (replies.Refused refusals.Memory) → IsMergeable h o
named_finds h table None due = cc
named_finds h table (Some found) due = absurd due

rows_find : (limits : Limits) (l : Log) (i : Ingestion) (o : Option NumberedTable) → IsIngestDue limits l i o memory_due → Stands o
rows_find limits l i None due = cc
rows_find limits l i (Some found) due = tt

ingest_finds : (limits : Limits) (l : Log) (i : Ingestion) (repeated : Option ℕ) → IsDueByText limits l (Ingest i) (option_map (λ (at : ℕ). refusals.Mistyped at) repeated) memory_due → Stands (table_numbered i.table.text (tables l))
ingest_finds limits l i (Some at) due = cc
ingest_finds limits l i None due = rows_find limits l i (table_numbered i.table.text (tables l)) due

pub due_finds : (limits : Limits) (h : History) (now : ℤ) (command : Command) → IsDue limits h now command (replies.Refused refusals.Memory) → TakesToFind h command
due_finds limits h now (Query query) due = tt
due_finds limits h now (Show asked) due = show_finds h asked due
due_finds limits h now (Change (CreateTable name columns)) due = absurd (not_table limits (log h) name columns (repeated_place columns) due)
due_finds limits h now (Change (AlterMerge name columns)) due = absurd (not_columns limits (log h) name columns (repeated_place columns) due)
due_finds limits h now (Change (Ingest i)) due = ingest_finds limits (log h) i i.properties.repeated due
due_finds limits h now (Merge table) due = named_finds h table (table_numbered table.text (tables (log h))) due
due_finds limits h now (Change (CreateView view)) due = text_find limits (log h) view (unsupported_query view.body.text (tree_in view)) view.repeated due
due_finds limits h now (Change (SetPolicy target policy)) due = policy_finds limits (log h) target policy (table_numbered target.text (tables (log h))) due
due_finds limits h now (Fold view) due = folds_find h view (view_number h view) due

view_good : (limits : Limits) (l : Log) (view : NewView) (o p : Option ℕ) → IsDueByText limits l (CreateView view) (option_or (option_map (λ (at : ℕ). refusals.Unsupported at) o) (option_map (λ (at : ℕ). refusals.Mistyped at) p)) memory_due
    → option_or (option_map (λ (at : ℕ). refusals.Unsupported at) o) (option_map (λ (at : ℕ). refusals.Mistyped at) p) ≡ None
view_good limits l view (Some at) p due = cc
view_good limits l view None (Some at) due = cc
view_good limits l view None None due = refl

-- so is it for a reply that a history tells whole
pub due_wants : (limits : Limits) (h : History) (now : ℤ) (command : Command) → IsDue limits h now command (replies.Refused refusals.Memory) → MayWantMemory h h command
due_wants limits h now (Query query) due = inl tt
due_wants limits h now (Show asked) due = inl (show_finds h asked due)
due_wants limits h now (Change (CreateTable name columns)) due = absurd (not_table limits (log h) name columns (repeated_place columns) due)
due_wants limits h now (Change (AlterMerge name columns)) due = absurd (not_columns limits (log h) name columns (repeated_place columns) due)
due_wants limits h now (Change (Ingest i)) due = inl (ingest_finds limits (log h) i i.properties.repeated due)
due_wants limits h now (Merge table) due = inl (named_finds h table (table_numbered table.text (tables (log h))) due)
due_wants limits h now (Change (CreateView view)) due = inr (record {
  pending = record { inside = refl; good = view_good limits (log h) view (unsupported_query view.body.text (tree_in view)) view.repeated due };
  takes = text_find limits (log h) view (unsupported_query view.body.text (tree_in view)) view.repeated due;
})
due_wants limits h now (Change (SetPolicy target policy)) due = inr (record {
  pending = record { inside = refl; good = refl };
  takes = policy_finds limits (log h) target policy (table_numbered target.text (tables (log h))) due;
})
due_wants limits h now (Fold view) due = inl (folds_find h view (view_number h view) due)

-- what is found outside the lock takes the memory of preparing
pub found_wants : (h : History) (command : Command) → is_prepared_outside command ≡ true → TakesToFind h command → TakesMemory h command
found_wants h (Query query) outside takes = takes
found_wants h (Show asked) outside takes = takes
found_wants h (Change (CreateTable name columns)) outside takes = absurd (false≢true outside)
found_wants h (Change (AlterMerge name columns)) outside takes = absurd (false≢true outside)
found_wants h (Change (Ingest i)) outside takes = takes
found_wants h (Merge table) outside takes = takes
found_wants h (Change (CreateView view)) outside takes = absurd (false≢true outside)
found_wants h (Change (SetPolicy target policy)) outside takes = absurd (false≢true outside)
found_wants h (Fold view) outside takes = takes

pub wants_found : {X : Type 0} (h : History) (command : Command) (result : Result X Refusal) → is_prepared_outside command ≡ true → IfErr result (λ r. r ≡ refusals.Memory → TakesToFind h command) → IfErr result (λ r. r ≡ refusals.Memory → TakesMemory h command)
wants_found h command (Ok x) outside takes = takes
wants_found h command (Err r) outside takes = λ memory. found_wants h command outside (takes memory)

-- what is merged takes the memory of finding it
pub merging_finds : (h : History) (command : Command) (m : Merging) → IsMergingFor h command m → TakesToFind h command
merging_finds h (Query query) m is = absurd is
merging_finds h (Show show) m is = absurd is
merging_finds h (Change change) m is = absurd is
merging_finds h (Merge table) m is =
    let union = is.merging.union in
    subst (IsMergeable h) (sym is.named) (omega (arith, union.some, union.within))
merging_finds h (Fold view) m is = absurd is

-- and is prepared outside the lock
pub merging_outside : (h : History) (command : Command) (m : Merging) → IsMergingFor h command m → is_prepared_outside command ≡ true
merging_outside h (Query query) m is = absurd is
merging_outside h (Show show) m is = absurd is
merging_outside h (Change change) m is = absurd is
merging_outside h (Merge table) m is = refl
merging_outside h (Fold view) m is = absurd is
