-- All faults of what operators and sources are made of, in the order of their text.
use Rattle.std.specs.Prelude.{ℕ, ◌+◌, ◌%◌, nat_eq, Bool, true, false, ◌&&◌, ◌||◌, not, List, [], ◌∷◌, ◌++◌, length, option_and_then, Option, Some, None}
use Rattle.kq_bind_query.specs.kq_bind_operators.Operators.{natural}
use Rattle.kq_bind_aggregates.specs.Arguments.{Argued, all_argued}
use Rattle.kq_bind_aggregates.specs.declared.function.AggregateFunction.{AggregateFunction}
use Rattle.kq_bind_aggregates.specs.Functions.{aggregate_named}
use Rattle.kq_bind_aggregates.specs.Gathered.{Gathering, aggregate_made}
use Rattle.kq_bind_aggregates.specs.Made.{made}
use Rattle.kq_bind_clauses.specs.Joins.{is_key}
use Rattle.kq_bind_clauses.specs.Ranges.{step_type, as_long}
use Rattle.kq_bind_clauses.specs.Tables.{put_column, table_columns, signed_in, place_of as cell_place}
use Rattle.kq_bind_columns.specs.Chosen.{has_number, place_in, choose}
use Rattle.kq_bind_columns.specs.Defaults.{first_token}
use Rattle.kq_bind_columns.specs.Items.{field, Making, operand, item_made}
use Rattle.kq_bind_columns.specs.Naming.{is_taken}
use Rattle.kq_bind_columns.specs.Printed.{item_printed}
use Rattle.kq_bind_expressions.specs.Bound.{bound}
use Rattle.kq_bind_expressions.specs.Lookup.{first_named}
use Rattle.kq_bind_expressions.specs.Names.{Names}
use Rattle.kq_bind_expressions.specs.Verdicts.{Fault, Verdict, unsupported, unknown, mistyped, and_then}
use Rattle.kq_plan_expressions.specs.Terms.{Bound}
use Rattle.kq_read_grammar.specs.declared.clause.Cell.{Cell}
use Rattle.kq_read_grammar.specs.declared.clause.Column.{Column}
use Rattle.kq_read_grammar.specs.declared.clause.JoinKey.{JoinKey}
use Rattle.kq_read_grammar.specs.declared.clause.JoinKey.TheVariants as key
use Rattle.kq_read_grammar.specs.declared.expression.Name.{Name}
use Rattle.kq_read_grammar.specs.Trees.{Tree, ItemTree, plain, named, KeyTree, ArgumentTree, value, all, AggregateTree}
use Rattle.kq_read_meanings.specs.Literals.{literal_value}
use Rattle.kq_read_meanings.specs.Names.{name_said, name_place}
use Rattle.kq_read_meanings.specs.Pieces.{piece}
use Rattle.kq_read_meanings.specs.Types.{ty_of}
use Rattle.kq_read_symbols.specs.declared.kind.Symbol.{Symbol}
use Rattle.kq_value.specs.declared.schema.Field.{Field}
use Rattle.kq_value.specs.declared.ty.Ty.{Ty}
use Rattle.kq_value.specs.declared.ty.Ty.TheVariants as ty
use Rattle.kq_value.specs.Ty.{same_ty}
use Rattle.kq_bind_laws.specs.Faults.{faults_in}
use Rattle.kq_bind_laws.specs.Told.{unless_there, if_so, where_there, where_bound, where_none}

-- ---- values

abbrev pub dynamic_key : Bool → ℕ → Bound → List Fault
dynamic_key keys at x = if_so (keys && same_ty x.1 ty.Dynamic) (mistyped at)

-- a dynamic that is to be a key faults at its first token, where it binds
abbrev pub value_faults : Names → List Field → Bool → Tree → List Fault
value_faults s cs keys e = where_bound (bound s cs e) (dynamic_key keys (first_token e)) ++ faults_in s cs e

abbrev pub not_of : Ty → ℕ → Bound → List Fault
not_of t at x = if_so (not (same_ty x.1 t)) (mistyped at)

-- a value that isn't of the type that it must have
abbrev pub typed_faults : Names → List Field → Ty → Tree → List Fault
typed_faults s cs t e = where_bound (bound s cs e) (not_of t (first_token e)) ++ faults_in s cs e

-- how many rows
abbrev pub number_faults : List ℕ → Symbol → List Fault
number_faults text t = unless_there (option_and_then natural (literal_value text t)) (unsupported t.from)

abbrev pub type_faults : List ℕ → Symbol → List Fault
type_faults text t = unless_there (ty_of (piece text t)) (unsupported t.from)

abbrev pub key_faults : Names → List Field → List KeyTree → List Fault
key_faults s cs [] = []
key_faults s cs (k ∷ ks) = value_faults s cs true k.value ++ key_faults s cs ks

-- ---- items

-- a given name that a column before it has
abbrev pub repeated : List ℕ → List Field → Name → List Fault
repeated text before n = if_so (is_taken before (name_said text n)) (mistyped (name_place n))

-- the name is tested where the expression binds
abbrev pub item_faults : Names → List Field → Bool → List Field → ItemTree → List Fault
item_faults s cs keys before (plain e) = value_faults s cs keys e
item_faults s cs keys before (named n e) = where_bound (operand s cs keys e) (λ x. repeated s.text before n) ++ value_faults s cs keys e

-- each is looked at where those before it bind
abbrev pub items_faults : Names → List Field → List Field → Bool → Making → List ItemTree → List Fault
items_faults s cs avoided keys m [] = []
items_faults s cs avoided keys m (i ∷ is) =
    item_faults s cs keys m.fields i ++ where_bound (item_made s cs avoided keys m i) (λ n. items_faults s cs avoided keys n is)

abbrev pub printed_faults : Names → ℕ → Making → List ItemTree → List Fault
printed_faults s place m [] = []
printed_faults s place m (i ∷ is) =
    item_faults s [] false m.fields i ++ where_bound (item_printed s place m i) (λ n. printed_faults s (place + 1) n is)

-- ---- aggregates

abbrev pub argument_faults : Names → List Field → List ArgumentTree → List Fault
argument_faults s cs [] = []
argument_faults s cs (value e ∷ more) = faults_in s cs e ++ argument_faults s cs more
argument_faults s cs (all t ∷ more) = argument_faults s cs more

-- a called name that is no aggregate's, or one that doesn't take its arguments, where all of them bind
abbrev pub called_faults : ℕ → List Field → List ℕ → Option AggregateFunction → Verdict (List Argued) → List Fault
called_faults at cs starred None given = unknown at ∷ []
called_faults at cs starred (Some f) given = where_bound given (λ x. unless_there (made f cs starred x) (mistyped at))

abbrev pub given_faults : List ℕ → List Field → Option Name → List Fault
given_faults text before None = []
given_faults text before (Some n) = repeated text before n

-- the given name is tested where all else is right
abbrev pub aggregate_faults : Names → List Field → List ℕ → List Field → AggregateTree → List Fault
aggregate_faults s cs starred before a =
    where_there (aggregate_named (piece s.text a.function)) (λ f. where_bound (all_argued s cs a.arguments) (λ x. where_there (made f cs starred x) (λ y. given_faults s.text before a.given)))
    ++ (called_faults a.function.from cs starred (aggregate_named (piece s.text a.function)) (all_argued s cs a.arguments) ++ argument_faults s cs a.arguments)

abbrev pub aggregates_faults : Names → List Field → List ℕ → Gathering → List AggregateTree → List Fault
aggregates_faults s cs starred g [] = []
aggregates_faults s cs starred g (a ∷ more) =
    aggregate_faults s cs starred g.fields a ++ where_bound (aggregate_made s cs starred g a) (λ h. aggregates_faults s cs starred h more)

-- ---- names of columns

abbrev pub unfound : List ℕ → List Field → Name → List Fault
unfound text cs n = unless_there (first_named 0 cs (name_said text n)) (unknown (name_place n))

-- a name that is no column's, or that of one that is chosen already or, as a key, is a dynamic
abbrev pub choice_faults : List ℕ → List Field → Bool → List ℕ → Name → List Fault
choice_faults text cs keys chosen n =
    unfound text cs n ++ where_there (first_named 0 cs (name_said text n)) (λ p. if_so (has_number chosen p.0 || (keys && same_ty p.1 ty.Dynamic)) (mistyped (name_place n)))

abbrev pub choices_faults : List ℕ → List Field → Bool → List ℕ → List Name → List Fault
choices_faults text cs keys is [] = []
choices_faults text cs keys is (n ∷ ns) =
    choice_faults text cs keys is n ++ where_bound (and_then (place_in text cs n) (choose keys (name_place n) is)) (λ js. choices_faults text cs keys js ns)

-- new names of columns, none of which any of these or a name before it may be
abbrev pub renaming_faults : List ℕ → List Field → List Name → List Fault
renaming_faults text taken [] = []
renaming_faults text taken (n ∷ ns) = repeated text taken n ++ renaming_faults text (taken ++ field (name_said text n) ty.Long ∷ []) ns

-- ---- keys of joins

-- the columns are there and don't match
abbrev pub unmatched : ℕ → Option (ℕ × Ty) → Option (ℕ × Ty) → List Fault
unmatched at l r = where_there l (λ p. where_there r (λ q. if_so (not (is_key p.1 q.1)) (mistyped at)))

abbrev pub on_faults : List ℕ → List Field → List Field → JoinKey → List Fault
on_faults text ls rs (key.Both n) =
    unfound text ls n ++ (unfound text rs n ++ unmatched (name_place n) (first_named 0 ls (name_said text n)) (first_named 0 rs (name_said text n)))
on_faults text ls rs (key.LeftRight a t b) =
    unfound text ls a ++ (unmatched t.from (first_named 0 ls (name_said text a)) (first_named 0 rs (name_said text b)) ++ unfound text rs b)
on_faults text ls rs (key.RightLeft b t a) =
    unfound text rs b ++ (unmatched t.from (first_named 0 ls (name_said text a)) (first_named 0 rs (name_said text b)) ++ unfound text ls a)

abbrev pub all_on_faults : List ℕ → List Field → List Field → List JoinKey → List Fault
all_on_faults text ls rs [] = []
all_on_faults text ls rs (k ∷ ks) = on_faults text ls rs k ++ all_on_faults text ls rs ks

-- ---- ranges

abbrev pub where_all : Verdict Bound → Verdict Bound → Verdict Bound → (Bound → Bound → Bound → List Fault) → List Fault
where_all x y z faults = where_bound x (λ a. where_bound y (λ b. where_bound z (λ c. faults (as_long a) (as_long b) (as_long c))))

-- the first value must have a type that ranges have, the last that of the first, and the step its own; all are longs, where they are ints
abbrev pub first_misfit : ℕ → Bound → Bound → Bound → List Fault
first_misfit at a b c = unless_there (step_type a.1) (mistyped at)

abbrev pub last_misfit : ℕ → Bound → Bound → Bound → List Fault
last_misfit at a b c = not_of a.1 at b

abbrev pub step_misfit : ℕ → Bound → Bound → Bound → List Fault
step_misfit at a b c = where_there (step_type a.1) (λ t. not_of t at c)

-- types are looked at where all three bind
abbrev pub range_faults : Names → Tree → Tree → Tree → List Fault
range_faults s a b c =
    (where_all (bound s [] a) (bound s [] b) (bound s [] c) (first_misfit (first_token a)) ++ faults_in s [] a)
    ++ ((where_all (bound s [] a) (bound s [] b) (bound s [] c) (last_misfit (first_token b)) ++ faults_in s [] b)
    ++ (where_all (bound s [] a) (bound s [] b) (bound s [] c) (step_misfit (first_token c)) ++ faults_in s [] c))

-- ---- datatables

abbrev pub column_faults : List ℕ → List Field → Column → List Fault
column_faults text before c = repeated text before c.name ++ type_faults text c.ty

abbrev pub columns_faults : List ℕ → List Field → List Column → List Fault
columns_faults text before [] = []
columns_faults text before (c ∷ cs) = column_faults text before c ++ where_bound (put_column text before c) (λ more. columns_faults text more cs)

-- a literal without a value, or one that doesn't fit its column
abbrev pub cell_faults : List ℕ → Ty → Cell → List Fault
cell_faults text t c =
    where_there (literal_value text c.literal) (λ v. unless_there (signed_in t c v) (mistyped (cell_place c.minus c.literal)))
    ++ unless_there (literal_value text c.literal) (unsupported c.literal.from)

-- of cells that come row by row, where these columns are left of the row
abbrev pub cells_faults : List ℕ → List Field → List Field → List Cell → List Fault
cells_faults text cs left [] = []
cells_faults text cs [] (x ∷ xs) = []
cells_faults text cs (c ∷ []) (x ∷ xs) = cell_faults text c.ty x ++ cells_faults text cs cs xs
cells_faults text cs (c ∷ d ∷ left) (x ∷ xs) = cell_faults text c.ty x ++ cells_faults text cs (d ∷ left) xs

-- the number of cells isn't a multiple of that of the columns
abbrev pub unfilled : ℕ → List Column → List Cell → List Fault
unfilled at columns cells = if_so (not (nat_eq (length cells % length columns) 0)) (mistyped at)

-- cells are looked at where the columns bind, and their number, which faults at the word, where all cells fit
abbrev pub table_faults : List ℕ → ℕ → List Column → List Cell → List Fault
table_faults text at columns cells =
    where_none (columns_faults text [] columns ++ where_bound (table_columns text [] columns) (λ cs. cells_faults text cs cs cells)) (unfilled at columns cells)
    ++ (columns_faults text [] columns ++ where_bound (table_columns text [] columns) (λ cs. cells_faults text cs cs cells))
