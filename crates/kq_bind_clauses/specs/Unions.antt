-- The columns of a union, and which of an arm's columns fill them.
use Rattle.std.specs.Prelude.{ℕ, suc, Bool, true, false, ◌&&◌, not, List, [], ◌∷◌, ◌++◌, Option, Some, None, codes, if◌then◌else◌, nat_eq}
use Rattle.std.specs.List.{filter, insert, list_any}
use Rattle.std.specs.Cmp.Lexicographic.{pointwise}
use Rattle.kq_bind_columns.specs.Items.{field}
use Rattle.kq_bind_columns.specs.Naming.{is_taken, free_name}
use Rattle.kq_bind_expressions.specs.Lookup.{first_named}
use Rattle.kq_plan.specs.Plans.{Filling}
use Rattle.kq_read_symbols.specs.declared.kind.Kind.{Kind}
use Rattle.kq_read_symbols.specs.declared.kind.Kind.TheVariants as kind
use Rattle.kq_read_symbols.specs.declared.kind.Symbol.{Symbol}
use Rattle.kq_read_symbols.specs.declared.word.JoinKind.TheVariants as said
use Rattle.kq_read_symbols.specs.declared.word.Word.TheVariants as word
use Rattle.kq_value.specs.declared.schema.Field.{Field}
use Rattle.kq_value.specs.declared.ty.Ty.{Ty}
use Rattle.kq_value.specs.declared.ty.Ty.TheVariants as ty
use Rattle.kq_value.specs.Schema.{same_field}
use Rattle.kq_value.specs.Ty.{same_ty}

-- ---- the kind

abbrev pub is_inner_word : Kind → Bool
is_inner_word (kind.Word (word.Join said.Inner)) = true
is_inner_word _ = false

-- a union is outer, unless it is said to be inner
abbrev pub is_inner : Option Symbol → Bool
is_inner None = false
is_inner (Some t) = is_inner_word t.kind

-- ---- the columns of the arms by name and type

abbrev pub has_column : List Field → Field → Bool
has_column cs f = list_any (same_field f) cs

-- how many columns stand before the place behind the last of this name, or else behind all
abbrev pub place_behind : List Field → List ℕ → ℕ
place_behind [] name = 0
place_behind (c ∷ cs) name = if pointwise nat_eq c.name name && not (is_taken cs name) then 1 else suc (place_behind cs name)

-- behind the last column of its name, or else last
abbrev pub put_behind_name : List Field → Field → List Field
put_behind_name cs f = insert cs (place_behind cs f.name) f

abbrev pub with_column : List Field → Field → List Field
with_column cs f = if has_column cs f then cs else put_behind_name cs f

abbrev pub with_columns : List Field → List Field → List Field
with_columns cs [] = cs
with_columns cs (f ∷ fs) = with_columns (with_column cs f) fs

-- all columns by name and type: the names in the order of first appearance, and the types of each likewise
abbrev pub all_columns : List Field → List (List Field) → List Field
all_columns cs [] = cs
all_columns cs (a ∷ arms) = all_columns (with_columns cs a) arms

abbrev pub in_all : List (List Field) → Field → Bool
in_all [] f = true
in_all (a ∷ arms) f = has_column a f && in_all arms f

-- those that all arms have with one type, in the order of the first arm
abbrev pub common_columns : List (List Field) → List Field
common_columns [] = []
common_columns (a ∷ arms) = filter (in_all arms) a

abbrev pub union_sources : Bool → List (List Field) → List Field
union_sources true arms = common_columns arms
union_sources false arms = all_columns [] arms

-- ---- their names

abbrev pub type_word : Ty → List ℕ
type_word ty.Long = codes "long"
type_word ty.Int = codes "int"
type_word ty.Text = codes "string"
type_word ty.Bool = codes "bool"
type_word ty.Moment = codes "datetime"
type_word ty.Span = codes "timespan"
type_word ty.Dynamic = codes "dynamic"

-- whether there is a column of the same name and another type
abbrev pub is_mixed : List Field → Field → Bool
is_mixed cs f = list_any (λ c. pointwise nat_eq c.name f.name && not (same_ty c.ty f.ty)) cs

abbrev pub keep_names : List Field → List Field
keep_names cs = filter (λ f. not (is_mixed cs f)) cs

abbrev pub typed_name : List Field → Field → List ℕ
typed_name taken f = free_name taken [] (f.name ++ codes "_" ++ type_word f.ty)

-- a name of several types becomes one for each of them, which avoids the names that are kept
abbrev pub names_made : List Field → List Field → List Field → List Field
names_made all taken [] = []
names_made all taken (f ∷ fs) =
    if is_mixed all f then field (typed_name taken f) f.ty ∷ names_made all (taken ++ field (typed_name taken f) f.ty ∷ []) fs else f ∷ names_made all taken fs

abbrev pub union_columns : List Field → List Field
union_columns sources = names_made sources (keep_names sources) sources

-- ---- what fills them

abbrev pub of_type : Ty → Option (ℕ × Ty) → Option ℕ
of_type t (Some p) = if same_ty p.1 t then Some p.0 else None
of_type t None = None

-- for each column of the union the number of the arm's column of its name and type
abbrev pub filling : List Field → List Field → List (Option ℕ)
filling arm [] = []
filling arm (f ∷ fs) = of_type f.ty (first_named 0 arm f.name) ∷ filling arm fs

-- the same for each arm, which is the number of its step and its columns
abbrev pub arms_filled : List (ℕ × List Field) → List Field → List Filling
arms_filled [] sources = []
arms_filled (a ∷ arms) sources = (a.0, filling a.1 sources) ∷ arms_filled arms sources

abbrev pub columns_in : ℕ × List Field → List Field
columns_in a = a.1
