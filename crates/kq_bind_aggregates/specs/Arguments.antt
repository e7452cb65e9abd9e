-- What the arguments of an aggregate are bound to, and the columns that they stand for.
use Rattle.std.specs.Prelude.{ℕ, suc, Bool, false, not, List, [], ◌∷◌, ◌++◌, Option, Some, None, Ok, nat_eq, if◌then◌else◌}
use Rattle.std.specs.List.{filter}
use Rattle.std.specs.Option.{option_map, option_and_then}
use Rattle.kq_bind_columns.specs.Naming.{is_taken}
use Rattle.kq_bind_expressions.specs.Bound.{bound}
use Rattle.kq_bind_expressions.specs.Names.{Names}
use Rattle.kq_bind_expressions.specs.Verdicts.{Verdict, and_then}
use Rattle.kq_plan_expressions.specs.Terms.{Term, column, Bound}
use Rattle.kq_read_grammar.specs.Trees.{ArgumentTree, value, all}
use Rattle.kq_value.specs.declared.schema.Field.{Field}

-- an expression, or nothing for `*`
abbrev pub Argued : Type 0
Argued = Option Bound

abbrev pub argued : Names → List Field → ArgumentTree → Verdict Argued
argued s cs (value e) = and_then (bound s cs e) (λ x. Ok (Some x))
argued s cs (all t) = Ok None

abbrev pub all_argued : Names → List Field → List ArgumentTree → Verdict (List Argued)
all_argued s cs [] = Ok []
all_argued s cs (a ∷ more) = and_then (argued s cs a) (λ x. and_then (all_argued s cs more) (λ xs. Ok (x ∷ xs)))

-- ---- shapes

-- the one argument, an expression
abbrev pub only : List Argued → Option Bound
only (Some x ∷ []) = Some x
only _ = None

-- an expression, and one argument or more behind it
abbrev pub several : List Argued → Option (Bound × List Argued)
several (Some x ∷ a ∷ more) = Some (x, a ∷ more)
several _ = None

-- ---- columns

-- the column that a term is
abbrev pub column_number : Term → Option ℕ
column_number (column i) = Some i
column_number _ = None

-- the columns whose name isn't a key's, where they are numbered from i
abbrev pub unkeyed : ℕ → List Field → List Field → List ℕ
unkeyed i [] keys = []
unkeyed i (c ∷ cs) keys = if is_taken keys c.name then unkeyed (suc i) cs keys else i ∷ unkeyed (suc i) cs keys

abbrev pub is_own : Option ℕ → ℕ → Bool
is_own (Some j) i = nat_eq i j
is_own None i = false

-- all of these columns but the value's own
abbrev pub but_own : Option ℕ → List ℕ → List ℕ
but_own own is = filter (λ i. not (is_own own i)) is

abbrev pub one_number : ℕ → List ℕ
one_number i = i ∷ []

-- the columns that an argument stands for, where `*` stands for these but the value's own; another expression stands for none
abbrev pub argument_columns : List ℕ → Option ℕ → Argued → Option (List ℕ)
argument_columns starred own None = Some (but_own own starred)
argument_columns starred own (Some x) = option_map one_number (column_number x.0)

-- the columns that the arguments stand for, behind these
abbrev pub all_columns : List ℕ → Option ℕ → List ℕ → List Argued → Option (List ℕ)
all_columns starred own is [] = Some is
all_columns starred own is (a ∷ more) = option_and_then (λ js. all_columns starred own (is ++ js) more) (argument_columns starred own a)
