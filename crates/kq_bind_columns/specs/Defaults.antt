-- The name that an expression has of itself, and its first token.
use Rattle.std.specs.Prelude.{ℕ, Bool, true, false, List, ◌++◌, Option, Some, None, codes, if◌then◌else◌}
use Rattle.kq_bind_columns.specs.Naming.{is_taken}
use Rattle.kq_bind_expressions.specs.kq_plan_functions.Function.{Function}
use Rattle.kq_bind_expressions.specs.kq_plan_functions.TheVariants as f
use Rattle.kq_bind_expressions.specs.kq_plan_functions.Names.{function_named}
use Rattle.kq_read_grammar.specs.Trees.{Tree, name, literal, group, call, path, signed, compare, within, between, chain, and_tree, member, no_step}
use Rattle.kq_bind_expressions.specs.kq_read_meanings.Names.{name_said, name_place}
use Rattle.kq_bind_expressions.specs.kq_read_meanings.Pieces.{piece}
use Rattle.kq_value.specs.declared.schema.Field.{Field}

-- ---- the first token

abbrev pub first_token : Tree → ℕ
first_token (name n) = name_place n
first_token (literal t) = t.from
first_token (group t e) = t.from
first_token (call t es) = t.from
first_token (path e p ps) = first_token e
first_token (signed t e) = t.from
first_token (compare a t b) = first_token a
first_token (within a t e es) = first_token a
first_token (between a t b c) = first_token a
first_token (chain l a t b ls) = first_token a

-- ---- default names

abbrev pub if_column : List Field → List ℕ → Option (List ℕ)
if_column cs said = if is_taken cs said then Some said else None

-- the column that an expression is
abbrev pub column_of : List ℕ → List Field → Tree → Option (List ℕ)
column_of text cs (name n) = if_column cs (name_said text n)
column_of text cs (group t e) = column_of text cs e
column_of text cs _ = None

abbrev pub joined_names : Option (List ℕ) → List ℕ → Option (List ℕ)
joined_names (Some a) b = Some (a ++ codes "_" ++ b)
joined_names None b = None

-- the column that it is, or the column and the member
abbrev pub path_name : List ℕ → List Field → Tree → Option (List ℕ)
path_name text cs (name n) = if_column cs (name_said text n)
path_name text cs (group t e) = path_name text cs e
path_name text cs (path e (member d n) no_step) = joined_names (column_of text cs e) (name_said text n)
path_name text cs _ = None

-- functions that leave the name of a column
abbrev pub keeps_column : Function → Bool
keeps_column f.Bin = true
keeps_column f.StartOfDay = true
keeps_column f.StartOfWeek = true
keeps_column f.StartOfMonth = true
keeps_column f.StartOfYear = true
keeps_column _ = false

-- functions that leave the name of a column or of a member
abbrev pub keeps_path : Function → Bool
keeps_path f.ToText = true
keeps_path f.ToLong = true
keeps_path f.ToInt = true
keeps_path f.ToBool = true
keeps_path f.ToMoment = true
keeps_path f.ToSpan = true
keeps_path _ = false

abbrev pub name_at : List ℕ → List Field → Tree → Bool → Bool → Option (List ℕ)
name_at text cs e true w = column_of text cs e
name_at text cs e false true = path_name text cs e
name_at text cs e false false = None

abbrev pub name_kept : List ℕ → List Field → Tree → Option Function → Option (List ℕ)
name_kept text cs e (Some g) = name_at text cs e (keeps_column g) (keeps_path g)
name_kept text cs e None = None

abbrev pub default_name : List ℕ → List Field → Tree → Option (List ℕ)
default_name text cs (name n) = if_column cs (name_said text n)
default_name text cs (group t e) = default_name text cs e
default_name text cs (path e p ps) = path_name text cs (path e p ps)
default_name text cs (call t (and_tree e es)) = name_kept text cs e (function_named (piece text t))
default_name text cs _ = None
