-- The columns and the rows of a datatable.
use Rattle.std.specs.Prelude.{ℕ, ℤ, Bool, true, false, List, [], ◌∷◌, ◌++◌, Option, Some, None, Ok, Err, if◌then◌else◌, option_and_then}
use Rattle.kq_value_arithmetic.specs.Arithmetic.{negated}
use Rattle.kq_bind_columns.specs.Items.{field}
use Rattle.kq_bind_columns.specs.Naming.{is_taken}
use Rattle.kq_bind_expressions.specs.Unsupported.{or_later, unless_some, valueless}
use Rattle.kq_bind_expressions.specs.Verdicts.{Verdict, unsupported, mistyped, and_then, or_fault}
use Rattle.kq_value.specs.Computed.{Computed, Is, Overflow}
use Rattle.kq_read_grammar.specs.declared.clause.Cell.{Cell}
use Rattle.kq_read_grammar.specs.declared.clause.Column.{Column}
use Rattle.kq_bind_columns.specs.kq_read_meanings.Literals.{literal_value}
use Rattle.kq_bind_columns.specs.kq_read_meanings.Names.{name_said, name_place}
use Rattle.kq_bind_columns.specs.kq_read_meanings.Pieces.{piece}
use Rattle.kq_bind_columns.specs.kq_read_meanings.Types.{ty_of}
use Rattle.kq_read_symbols.specs.declared.kind.Kind.{Kind}
use Rattle.kq_read_symbols.specs.declared.kind.Kind.TheVariants as kind
use Rattle.kq_read_symbols.specs.declared.kind.Symbol.{Symbol}
use Rattle.kq_value.specs.declared.schema.Field.{Field}
use Rattle.kq_value.specs.declared.ty.Ty.{Ty}
use Rattle.kq_value.specs.declared.ty.Ty.TheVariants as ty
use Rattle.kq_value.specs.declared.value.Value.{Value}
use Rattle.kq_value.specs.declared.value.Value.TheVariants as cell
use Rattle.kq_value.specs.Ty.{same_ty}
use Rattle.kq_value.specs.Typed.{type_of}
use Rattle.kq_value_arithmetic.specs.kq_value_formats.Numerals.{is_int}

-- ---- the columns

-- the type of a word; one that is no type's isn't supported
abbrev pub word_type : List ℕ → Symbol → Verdict Ty
word_type text t = or_fault (unsupported t.from) (ty_of (piece text t))

abbrev pub put_column : List ℕ → List Field → Column → Verdict (List Field)
put_column text taken c =
    if is_taken taken (name_said text c.name) then Err (mistyped (name_place c.name))
    else and_then (word_type text c.ty) (λ t. Ok (taken ++ field (name_said text c.name) t ∷ []))

abbrev pub table_columns : List ℕ → List Field → List Column → Verdict (List Field)
table_columns text taken [] = Ok taken
table_columns text taken (c ∷ cs) = and_then (put_column text taken c) (λ more. table_columns text more cs)

-- ---- the cells

abbrev pub takes_sign : Ty → Bool
takes_sign ty.Long = true
takes_sign ty.Int = true
takes_sign ty.Span = true
takes_sign _ = false

abbrev pub if_value : Computed Value → Option Value
if_value (Is v) = Some v
if_value Overflow = None

abbrev pub with_sign : Option Symbol → Value → Option Value
with_sign None v = Some v
with_sign (Some t) v = if takes_sign (type_of v) then if_value (negated v) else None

-- an int, where the number is in range
abbrev pub if_int : ℤ → Option Value
if_int z = if is_int z then Some (cell.Int z) else None

-- a whole number that is written without its type stands for an int in a column of ints
abbrev pub as_int : Kind → Ty → Value → Option Value
as_int kind.WholeNumber ty.Int (cell.Long z) = if_int z
as_int k t v = None

abbrev pub of_column : Kind → Ty → Value → Option Value
of_column k t v = if same_ty (type_of v) t then Some v else as_int k t v

-- the minus, where there is one, or else the literal
abbrev pub place_of : Option Symbol → Symbol → ℕ
place_of (Some t) s = t.from
place_of None s = s.from

-- the value of a literal as the cell of a column of this type
abbrev pub signed_in : Ty → Cell → Value → Option Value
signed_in t c v = option_and_then (of_column c.literal.kind t) (with_sign c.minus v)

abbrev pub cell_made : List ℕ → Ty → Cell → Verdict Value
cell_made text t c =
    and_then (or_fault (unsupported c.literal.from) (literal_value text c.literal)) (λ v. or_fault (mistyped (place_of c.minus c.literal)) (signed_in t c v))

-- ---- the rows

-- the rows of no cell: a row that isn't whole by now is Mistyped at the word
abbrev pub none_left : ℕ → List Value → Verdict (List (List Value))
none_left at [] = Ok []
none_left at (v ∷ row) = Err (mistyped at)

-- the rows of cells that come one after another, where these values stand in the first row so far and these columns of it are left
abbrev pub rows_made : List ℕ → ℕ → List Field → List Value → List Field → List Cell → Verdict (List (List Value))
rows_made text at cs row left [] = none_left at row
rows_made text at cs row [] (x ∷ xs) = Err (mistyped at)
rows_made text at cs row (c ∷ []) (x ∷ xs) =
    and_then (cell_made text c.ty x) (λ v. and_then (rows_made text at cs [] cs xs) (λ rows. Ok ((row ++ v ∷ []) ∷ rows)))
rows_made text at cs row (c ∷ d ∷ left) (x ∷ xs) = and_then (cell_made text c.ty x) (λ v. rows_made text at cs (row ++ v ∷ []) (d ∷ left) xs)

-- ---- all of it

abbrev pub Tabled : Type 0
Tabled = List Field × List (List Value)

abbrev pub tabled : List ℕ → ℕ → List Column → List Cell → Verdict Tabled
tabled text at columns cells = and_then (table_columns text [] columns) (λ cs. and_then (rows_made text at cs [] cs cells) (λ rows. Ok (cs, rows)))

-- ---- what isn't supported

-- a word that is no type's
abbrev pub typeless : List ℕ → Symbol → Option ℕ
typeless text t = unless_some t.from (ty_of (piece text t))

abbrev pub unsupported_columns : List ℕ → List Column → Option ℕ
unsupported_columns text [] = None
unsupported_columns text (c ∷ cs) = or_later (typeless text c.ty) (unsupported_columns text cs)

abbrev pub unsupported_cells : List ℕ → List Cell → Option ℕ
unsupported_cells text [] = None
unsupported_cells text (c ∷ cs) = or_later (valueless text c.literal) (unsupported_cells text cs)
