-- The columns that a table gains.
use Rattle.std.proofs.Common.{◌≡◌, ◌<◌, ◌+◌, ℕ, Bool, true, false, cond, not, List, [], ◌∷◌, length, nat_lt, Option, Some, None, refl, ap, sym, ◌∙◌, subst, arith}
use Rattle.std.specs.List.{All, filter}
use Rattle.std.proofs.lemmas.Bool.{ltb-true}
use Rattle.std.proofs.lemmas.List.Elements.{All-nil, All-cons}
use Rattle.std.proofs.lemmas.Simd.{map-map}
use Rattle.kq_value.specs.declared.schema.Field.{Field}
use Rattle.kq_catalog_journal.specs.declared.event.Commit.{Commit}
use Rattle.kq_catalog_journal.specs.declared.event.Commit.TheVariants as commits
use Rattle.kq_catalog_journal.specs.declared.limits.Limits.{Limits}
use Rattle.kq_catalog_journal.specs.History.{Log, NumberedTable, tables, table_numbered}
use Rattle.kq_catalog_journal.specs.Lawful.{IsWidening}
use Rattle.kq_catalog_journal.specs.kq_value_text_sets.Names.{is_among, names_of, repeat_of}
use Rattle.kq_catalog_journal.proofs.Repeats.{repeat_of-filter}
use Rattle.kq_catalog_journal.proofs.Tables.{table_numbered-at}
use Rattle.kq_read_commands.specs.declared.columns.Column.{Column}
use Rattle.kq_read_commands.specs.declared.columns.Identifier.{Identifier}
use Rattle.kq_read_commands.specs.Columns.{column_names, field_of, schema_of}
use Rattle.kq_read_commands.specs.Widening.{first_clash, is_new, new_columns}
use Rattle.kq_reply.specs.declared.refusal.Refusal.TheVariants as refusals
use Rattle.kq_reply.specs.declared.reply.Reply.TheVariants as replies
use Rattle.kq_engine_prepare.specs.Due.{Says, Commits, clash_due, counted, lacking_due, refused, wider_due, widening_due}
use Rattle.kq_engine_prepare.proofs.Fit.{MakesNoView, IsFit, counted-commit, no_commit}

-- ---- new columns

abbrev lacks : List Field → List ℕ → Bool
lacks fields name = not (is_among name (names_of fields))

new-names : (fields : List Field) (columns : List Column) → column_names (new_columns fields columns) ≡ filter (lacks fields) (column_names columns)
new-names fields [] = refl
new-names fields (c ∷ columns) = by_test (is_new fields c) (new-names fields columns)
  where
    by_test : (b : Bool) → column_names (new_columns fields columns) ≡ filter (lacks fields) (column_names columns)
        → column_names (cond b (c ∷ new_columns fields columns) (new_columns fields columns)) ≡ cond b (c.name.text ∷ filter (lacks fields) (column_names columns)) (filter (lacks fields) (column_names columns))
    by_test true more = ap (λ (names : List (List ℕ)). c.name.text ∷ names) more
    by_test false more = more

schema-names : (columns : List Column) → names_of (schema_of columns) ≡ column_names columns
schema-names columns = map-map (λ (f : Field). f.name) field_of columns

-- the new ones of columns of which none repeat have different names
new-different : (fields : List Field) (columns : List Column) → repeat_of (names_of (schema_of columns)) ≡ None → repeat_of (names_of (schema_of (new_columns fields columns))) ≡ None
new-different fields columns once =
    ap repeat_of (schema-names (new_columns fields columns) ∙ new-names fields columns)
    ∙ repeat_of-filter (lacks fields) (column_names columns) (ap repeat_of (sym (schema-names columns)) ∙ once)

abbrev IsLacking : List Field → Field → Type 0
IsLacking fields f = is_among f.name (names_of fields) ≡ false

not-false : (b : Bool) → not b ≡ true → b ≡ false
not-false true e = cc
not-false false e = refl

-- and the table lacks them
new-lacking : (fields : List Field) (columns : List Column) → All (IsLacking fields) (schema_of (new_columns fields columns))
new-lacking fields [] = All-nil (IsLacking fields)
new-lacking fields (c ∷ columns) = by_test (is_new fields c) refl (new-lacking fields columns)
  where
    by_test : (b : Bool) → is_new fields c ≡ b → All (IsLacking fields) (schema_of (new_columns fields columns)) → All (IsLacking fields) (schema_of (cond b (c ∷ new_columns fields columns) (new_columns fields columns)))
    by_test true is more = All-cons (IsLacking fields) (field_of c) (schema_of (new_columns fields columns)) (not-false (is_among c.name.text (names_of fields)) is) more
    by_test false is more = more

-- ---- a commit that is due

no_keep : (c : Commit) (cursor : ℕ) → Commits c ≡ Says (replies.Kept cursor) → ⊥
no_keep c cursor e = cc

-- the columns that a table gains by a commit that is due
record Gained (limits : Limits) (l : Log) (found : NumberedTable) (more : List Field) (c : Commit) : Type 0 where
  some : 0 < length more
  narrow : nat_lt limits.columns (length found.table.schema + length more) ≡ false
  room : nat_lt (length l) limits.commits ≡ true
  is : commits.AlterMerge found.number more ≡ c

wider-gains : (limits : Limits) (l : Log) (found : NumberedTable) (more : List Field) (c : Commit) → 0 < length more → Commits c ≡ wider_due limits l found more → Gained limits l found more c
wider-gains limits l found more c some due = by_width (nat_lt limits.columns (length found.table.schema + length more)) refl due
  where
    by_width : (b : Bool) → nat_lt limits.columns (length found.table.schema + length more) ≡ b
        → Commits c ≡ cond b (refused (refusals.Full limits.columns)) (counted limits l (commits.AlterMerge found.number more)) → Gained limits l found more c
    by_width true wide e = absurd (no_commit c (refusals.Full limits.columns) e)
    by_width false narrow e =
        let (room, is) = counted-commit limits l (commits.AlterMerge found.number more) c e in
        record { some = some; narrow = narrow; room = room; is = is }

lacking-gains : (limits : Limits) (l : Log) (found : NumberedTable) (more : List Field) (c : Commit) → Commits c ≡ lacking_due limits l found more → Gained limits l found more c
lacking-gains limits l found [] c due = absurd (no_keep c found.table.widened due)
lacking-gains limits l found (f ∷ more) c due = wider-gains limits l found (f ∷ more) c (omega arith) due

clash-gains : (limits : Limits) (l : Log) (found : NumberedTable) (columns : List Column) (clash : Option ℕ) (c : Commit) → Commits c ≡ clash_due limits l found columns clash → Gained limits l found (schema_of (new_columns found.table.schema columns)) c
clash-gains limits l found columns (Some at) c due = absurd (no_commit c (refusals.Mistyped at) due)
clash-gains limits l found columns None c due = lacking-gains limits l found (schema_of (new_columns found.table.schema columns)) c due

-- a commit that is due to `.alter-merge table` may be made
pub widening-fit : (limits : Limits) (l : Log) (name : Identifier) (columns : List Column) (o : Option NumberedTable) (c : Commit) → repeat_of (names_of (schema_of columns)) ≡ None → table_numbered name.text (tables l) ≡ o
    → Commits c ≡ widening_due limits l name columns o → IsFit limits l c
widening-fit limits l name columns None c once named due = absurd (no_commit c (refusals.Unknown name.at) due)
widening-fit limits l name columns (Some found) c once named due =
    let fields = found.table.schema in
    let more = schema_of (new_columns fields columns) in
    let gained = clash-gains limits l found columns (first_clash fields columns) c due in
    let widening : IsWidening limits l found.number more = record {
      table = found.table;
      stands = (table_numbered-at name.text (tables l) found named).1;
      some = gained.some;
      different = new-different fields columns once;
      lacking = new-lacking fields columns;
      within = rw (gained.narrow, gained.room) refl;
    } in
    subst (IsFit limits l) gained.is (record { room = ltb-true (length l) limits.commits gained.room; lawful = widening })

-- it makes no view
pub widening-no_view : (limits : Limits) (l : Log) (name : Identifier) (columns : List Column) (o : Option NumberedTable) (c : Commit) → Commits c ≡ widening_due limits l name columns o → MakesNoView c
widening-no_view limits l name columns None c due = absurd (no_commit c (refusals.Unknown name.at) due)
widening-no_view limits l name columns (Some found) c due = subst MakesNoView (clash-gains limits l found columns (first_clash found.table.schema columns) c due).is tt

-- and then the table gains a column
pub widening-gains : (limits : Limits) (l : Log) (name : Identifier) (columns : List Column) (found : NumberedTable) (c : Commit) → Commits c ≡ widening_due limits l name columns (Some found) → 0 < length (schema_of (new_columns found.table.schema columns))
widening-gains limits l name columns found c due = (clash-gains limits l found columns (first_clash found.table.schema columns) c due).some
