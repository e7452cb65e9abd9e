-- Columns that are chosen by their names: `distinct`, `project-away` and `project-rename`.
use Rattle.std.specs.Prelude.{ℕ, suc, Bool, ◌&&◌, ◌||◌, List, [], ◌∷◌, ◌++◌, Option, Some, None, Ok, Err, nat_eq, slice_get, if◌then◌else◌}
use Rattle.std.specs.List.{list_any}
use Rattle.kq_bind_columns.specs.Items.{field}
use Rattle.kq_bind_columns.specs.Naming.{is_taken}
use Rattle.kq_bind_columns.specs.Laying.{Columns}
use Rattle.kq_bind_expressions.specs.Lookup.{first_named}
use Rattle.kq_bind_expressions.specs.Verdicts.{Verdict, mistyped, unknown, and_then, or_fault}
use Rattle.kq_plan_expressions.specs.Terms.{column}
use Rattle.kq_read_grammar.specs.declared.expression.Name.{Name}
use Rattle.kq_bind_expressions.specs.kq_read_meanings.Names.{name_said, name_place}
use Rattle.kq_value.specs.declared.schema.Field.{Field}
use Rattle.kq_value.specs.declared.ty.Ty.{Ty}
use Rattle.kq_value.specs.declared.ty.Ty.TheVariants as ty
use Rattle.kq_value.specs.Ty.{same_ty}

abbrev pub has_number : List ℕ → ℕ → Bool
has_number is i = list_any (λ j. nat_eq j i) is

-- the number and the type of the column that a name names
abbrev pub place_in : List ℕ → List Field → Name → Verdict (ℕ × Ty)
place_in text cs n = or_fault (unknown (name_place n)) (first_named 0 cs (name_said text n))

-- no column is chosen twice, and as a key no dynamic
abbrev pub choose : Bool → ℕ → List ℕ → ℕ × Ty → Verdict (List ℕ)
choose keys at is p = if has_number is p.0 || (keys && same_ty p.1 ty.Dynamic) then Err (mistyped at) else Ok (is ++ p.0 ∷ [])

-- the numbers of the columns that the names name, behind these
abbrev pub chosen : List ℕ → List Field → Bool → List ℕ → List Name → Verdict (List ℕ)
chosen text cs keys is [] = Ok is
chosen text cs keys is (n ∷ ns) = and_then (and_then (place_in text cs n) (choose keys (name_place n) is)) (λ js. chosen text cs keys js ns)

abbrev pub if_there : Option Field → List Field
if_there (Some c) = c ∷ []
if_there None = []

-- the columns of these numbers
abbrev pub columns_at : List Field → List ℕ → List Field
columns_at cs [] = []
columns_at cs (i ∷ is) = if_there (slice_get cs i) ++ columns_at cs is

-- all columns, of which none may be a dynamic
abbrev pub all_chosen : ℕ → ℕ → List Field → Verdict (List ℕ)
all_chosen at i [] = Ok []
all_chosen at i (c ∷ cs) = if same_ty c.ty ty.Dynamic then Err (mistyped at) else and_then (all_chosen at (suc i) cs) (λ is. Ok (i ∷ is))

-- the columns but those of these numbers, where they are numbered from i
abbrev pub without : ℕ → List Field → List ℕ → Columns
without i [] is = ([], [])
without i (c ∷ cs) is = if has_number is i then without (suc i) cs is else (column i ∷ (without (suc i) cs is).0, c ∷ (without (suc i) cs is).1)

-- ---- new names

-- no new name is that of a column that keeps its name, or of one that is renamed before it
abbrev pub names_given : List ℕ → List Field → List Name → Verdict (List (List ℕ))
names_given text taken [] = Ok []
names_given text taken (n ∷ ns) =
    if is_taken taken (name_said text n) then Err (mistyped (name_place n))
    else and_then (names_given text (taken ++ field (name_said text n) ty.Long ∷ []) ns) (λ more. Ok (name_said text n ∷ more))

abbrev pub new_name : List ℕ → List (List ℕ) → ℕ → List ℕ → List ℕ
new_name [] names i old = old
new_name (j ∷ js) [] i old = old
new_name (j ∷ js) (n ∷ ns) i old = if nat_eq j i then n else new_name js ns i old

-- each column under its new name, or else its own, where they are numbered from i
abbrev pub renamed : ℕ → List Field → List ℕ → List (List ℕ) → List Field
renamed i [] is names = []
renamed i (c ∷ cs) is names = field (new_name is names i c.name) c.ty ∷ renamed (suc i) cs is names
