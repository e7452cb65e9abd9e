-- What of a command the language has and this engine doesn't do: the place of the first such symbol.
use Rattle.std.specs.Prelude.{◌≡◌, ℕ, Bool, true, false, List, [], ◌∷◌, Option, Some, None, codes, if◌then◌else◌}
use Rattle.kq_read_commands.specs.Meanings.{piece, string_at}
use Rattle.kq_read_control.specs.ControlTrees.{PropertiesTree, ControlTree, create_table, ingest, alter_merge, create_view, StatementTree, query, control}
use Rattle.kq_read_control.specs.declared.tree.Property.{Property}
use Rattle.kq_read_grammar.specs.declared.clause.Column.{Column}
use Rattle.kq_read_meanings.specs.Types.{same, ty_of}
use Rattle.kq_read_symbols.specs.Classes as k
use Rattle.kq_read_symbols.specs.Classes.{of}

abbrev pub or_later : Option ℕ → Option ℕ → Option ℕ
or_later (Some place) later = Some place
or_later None later = later

abbrev pub first_of : {A : Type 0} → (A → Option ℕ) → List A → Option ℕ
first_of f [] = None
first_of f (x ∷ xs) = or_later (f x) (first_of f xs)

-- a word that is no type's
abbrev pub no_type : {A : Type 0} → Option A → ℕ → Option ℕ
no_type (Some ty) place = None
no_type None place = Some place

abbrev pub column_fault : List ℕ → Column → Option ℕ
column_fault text c = no_type (ty_of (piece text c.ty)) c.ty.from

-- the column's word is a type's
abbrev pub IsTyped : List ℕ → Column → Type 0
IsTyped text c = column_fault text c ≡ None

abbrev pub unless : Bool → ℕ → Option ℕ
unless true place = None
unless false place = Some place

abbrev pub is_string : Property → Bool
is_string q = of k.text q.value

abbrev pub is_truth : Property → Bool
is_truth q = of k.truth q.value

-- a property of an ingestion: `format='csv'`, `tags` and `ingestIfNotExists` with a string, `ignoreFirstRecord` with a truth value
abbrev pub named_fault : List ℕ → List ℕ → Property → Option ℕ
named_fault text name q =
    if same name (codes "format") then (if is_string q then unless (same (string_at text q.value) (codes "csv")) q.value.from else Some q.value.from)
    else if same name (codes "tags") then unless (is_string q) q.value.from
    else if same name (codes "ingestIfNotExists") then unless (is_string q) q.value.from
    else if same name (codes "ignoreFirstRecord") then unless (is_truth q) q.value.from
    else Some q.name.from

abbrev pub ingest_fault : List ℕ → Property → Option ℕ
ingest_fault text q = named_fault text (piece text q.name) q

-- a property of a view: `backfill` with a truth value
abbrev pub view_fault : List ℕ → Property → Option ℕ
view_fault text q = if same (piece text q.name) (codes "backfill") then unless (is_truth q) q.value.from else Some q.name.from

abbrev pub properties_fault : (Property → Option ℕ) → Option PropertiesTree → Option ℕ
properties_fault f None = None
properties_fault f (Some ps) = first_of f (ps.0 ∷ ps.1)

abbrev pub control_fault : List ℕ → ControlTree → Option ℕ
control_fault text (create_table n cs) = first_of (column_fault text) (cs.0 ∷ cs.1)
control_fault text (alter_merge n cs) = first_of (column_fault text) (cs.0 ∷ cs.1)
control_fault text (ingest n ps t) = properties_fault (ingest_fault text) ps
control_fault text (create_view v) = properties_fault (view_fault text) v.properties
control_fault text _ = None

abbrev pub unsupported : List ℕ → StatementTree → Option ℕ
unsupported text (query q) = None
unsupported text (control c) = control_fault text c
