-- Binding what operators and sources are made of tells the first fault of its text.
use Rattle.std.proofs.Common.{◌≡◌, ℕ, ◌+◌, Bool, true, false, cond, not, List, [], ◌∷◌, ◌++◌, append-nil, Option, Some, None, Ok, Err, refl, sym, ap, ◌∙◌}
use Rattle.std.specs.Prelude.{◌&&◌, ◌||◌, option_and_then}
use Rattle.kq_bind_query.specs.kq_bind_operators.Operators.{natural}
use Rattle.kq_bind_aggregates.specs.Arguments.{Argued, argued, all_argued}
use Rattle.kq_bind_aggregates.specs.declared.function.AggregateFunction.{AggregateFunction}
use Rattle.kq_bind_aggregates.specs.Functions.{aggregate_named}
use Rattle.kq_bind_aggregates.specs.Gathered.{Gathering, put_columns, put_named, gathered, aggregate_made, each_made}
use Rattle.kq_bind_aggregates.specs.Made.{Aggregated, made}
use Rattle.kq_bind_clauses.specs.Joins.{is_key, matched, on_key, on_keys}
use Rattle.kq_bind_clauses.specs.Ranges.{Ranging, step_type, as_long, of_this_type, range_typed, ranged}
use Rattle.kq_bind_clauses.specs.Sorts.{sorting, sort_key, sort_keys}
use Rattle.kq_bind_clauses.specs.Tables.{word_type, put_column, table_columns, signed_in, place_of as cell_place, cell_made}
use Rattle.kq_bind_columns.specs.Chosen.{has_number, place_in, choose, chosen, names_given}
use Rattle.kq_bind_columns.specs.Defaults.{first_token, default_name}
use Rattle.kq_bind_columns.specs.Items.{field, Making, put, put_own, put_default, put_given, as_key, operand, item_made, items_made}
use Rattle.kq_bind_columns.specs.Naming.{is_taken}
use Rattle.kq_bind_columns.specs.Printed.{position_name, item_printed, items_printed}
use Rattle.kq_bind_expressions.specs.Bound.{bound}
use Rattle.kq_bind_expressions.specs.Lookup.{first_named}
use Rattle.kq_bind_expressions.specs.Names.{Names}
use Rattle.kq_bind_expressions.specs.Verdicts.{Fault, Verdict, unsupported, unknown, mistyped, and_then, or_fault}
use Rattle.kq_plan_expressions.specs.Terms.{Bound}
use Rattle.kq_read_grammar.specs.declared.clause.Cell.{Cell}
use Rattle.kq_read_grammar.specs.declared.clause.Column.{Column}
use Rattle.kq_read_grammar.specs.declared.clause.JoinKey.{JoinKey}
use Rattle.kq_read_grammar.specs.declared.clause.JoinKey.TheVariants as key
use Rattle.kq_read_grammar.specs.declared.expression.Name.{Name}
use Rattle.kq_read_grammar.specs.Trees.{Tree, ItemTree, plain, named, KeyTree, ArgumentTree, value, all, AggregateTree}
use Rattle.kq_read_meanings.specs.Literals.{literal_value}
use Rattle.kq_read_meanings.specs.Names.{name_said, name_place}
use Rattle.kq_read_meanings.specs.Pieces.{piece}
use Rattle.kq_read_meanings.specs.Types.{ty_of}
use Rattle.kq_read_symbols.specs.declared.kind.Symbol.{Symbol}
use Rattle.kq_value.specs.declared.schema.Field.{Field}
use Rattle.kq_value.specs.declared.ty.Ty.{Ty}
use Rattle.kq_value.specs.declared.ty.Ty.TheVariants as ty
use Rattle.kq_value.specs.declared.value.Value.{Value}
use Rattle.kq_value.specs.Ty.{same_ty}
use Rattle.kq_bind_query.proofs.Progress.{done}
use Rattle.kq_bind_laws.specs.ClauseFaults.{dynamic_key, value_faults, not_of, typed_faults, number_faults, type_faults, key_faults, repeated, item_faults, items_faults, printed_faults, argument_faults, called_faults, given_faults, aggregate_faults, aggregates_faults, unfound, choice_faults, choices_faults, renaming_faults, unmatched, on_faults, all_on_faults, where_all, first_misfit, last_misfit, step_misfit, range_faults, column_faults, columns_faults, cell_faults}
use Rattle.kq_bind_laws.specs.Faults.{faults_in}
use Rattle.kq_bind_laws.specs.Told.{TellsFirst, unless_there, if_so, where_there, where_bound}
use Rattle.kq_bind_laws.proofs.Faults.{tree_tells}
use Rattle.kq_bind_laws.proofs.Told.{failed, tells_same, there_tells, if_tells, unless_tells, then_bound, then_these, bound_before, then_done}

-- ---- values

keyed_tells : (keys : Bool) (at : ℕ) (x : Bound) → TellsFirst (as_key keys at x) (dynamic_key keys at x)
keyed_tells true at x = if_tells (same_ty x.1 ty.Dynamic) x (mistyped at)
keyed_tells false at x = refl

pub value_tells : (s : Names) (cs : List Field) (keys : Bool) (e : Tree) → TellsFirst (operand s cs keys e) (value_faults s cs keys e)
value_tells s cs keys e =
    bound_before (bound s cs e) (as_key keys (first_token e)) (faults_in s cs e) (dynamic_key keys (first_token e)) (tree_tells s cs e) (keyed_tells keys (first_token e))

-- what is made of a value that has the type
pub typed_tells : {A : Type 0} (s : Names) (cs : List Field) (t : Ty) (e : Tree) (k : Bound → A)
    → TellsFirst (and_then (bound s cs e) (λ x. cond {A = Verdict A} (same_ty x.1 t) (done (k x)) (failed (mistyped (first_token e))))) (typed_faults s cs t e)
typed_tells {A} s cs t e k =
    bound_before (bound s cs e) (λ x. cond {A = Verdict A} (same_ty x.1 t) (done (k x)) (failed (mistyped (first_token e)))) (faults_in s cs e)
    (not_of t (first_token e)) (tree_tells s cs e) (λ x. unless_tells (same_ty x.1 t) (k x) (mistyped (first_token e)))

pub number_tells : (text : List ℕ) (t : Symbol) → TellsFirst (or_fault (unsupported t.from) (option_and_then natural (literal_value text t))) (number_faults text t)
number_tells text t = there_tells (option_and_then natural (literal_value text t)) (unsupported t.from)

pub type_tells : (text : List ℕ) (t : Symbol) → TellsFirst (word_type text t) (type_faults text t)
type_tells text t = there_tells (ty_of (piece text t)) (unsupported t.from)

pub key_tells : (s : Names) (cs : List Field) (k : KeyTree) → TellsFirst (sort_key s cs k) (value_faults s cs true k.value)
key_tells s cs k = then_done (operand s cs true k.value) (sorting k) (value_faults s cs true k.value) (value_tells s cs true k.value)

pub keys_tell : (s : Names) (cs : List Field) (ks : List KeyTree) → TellsFirst (sort_keys s cs ks) (key_faults s cs ks)
keys_tell s cs [] = refl
keys_tell s cs (k ∷ ks) =
    then_these (sort_key s cs k) (λ x. and_then (sort_keys s cs ks) (λ xs. done (x ∷ xs))) (value_faults s cs true k.value) (key_faults s cs ks) (key_tells s cs k)
    (λ x. then_done (sort_keys s cs ks) (λ xs. x ∷ xs) (key_faults s cs ks) (keys_tell s cs ks))

-- ---- items

given_tells : (text : List ℕ) (m : Making) (x : Bound) (n : Name) → TellsFirst (put_given text m x n) (repeated text m.fields n)
given_tells text m x n = if_tells (is_taken m.fields (name_said text n)) (put m m.unnamed x (name_said text n)) (mistyped (name_place n))

item_tells : (s : Names) (cs avoided : List Field) (keys : Bool) (m : Making) (i : ItemTree) → TellsFirst (item_made s cs avoided keys m i) (item_faults s cs keys m.fields i)
item_tells s cs avoided keys m (plain e) =
    then_done (operand s cs keys e) (λ x. put_own avoided m x (default_name s.text cs e)) (value_faults s cs keys e) (value_tells s cs keys e)
item_tells s cs avoided keys m (named n e) =
    bound_before (operand s cs keys e) (λ x. put_given s.text m x n) (value_faults s cs keys e) (λ x. repeated s.text m.fields n) (value_tells s cs keys e)
    (λ x. given_tells s.text m x n)

pub items_tell : (s : Names) (cs avoided : List Field) (keys : Bool) (m : Making) (is : List ItemTree) → TellsFirst (items_made s cs avoided keys m is) (items_faults s cs avoided keys m is)
items_tell s cs avoided keys m [] = refl
items_tell s cs avoided keys m (i ∷ is) =
    then_bound (item_made s cs avoided keys m i) (λ n. items_made s cs avoided keys n is) (item_faults s cs keys m.fields i) (λ n. items_faults s cs avoided keys n is)
    (item_tells s cs avoided keys m i) (λ n. items_tell s cs avoided keys n is)

unkeyed_tells : (s : Names) (e : Tree) → TellsFirst (bound s [] e) (value_faults s [] false e)
unkeyed_tells s e = by (bound s [] e) (tree_tells s [] e) where
  by : (v : Verdict Bound) → TellsFirst v (faults_in s [] e) → TellsFirst v (where_bound v (dynamic_key false (first_token e)) ++ faults_in s [] e)
  by (Ok x) h = h
  by (Err f) h = h

one_printed : (s : Names) (place : ℕ) (m : Making) (i : ItemTree) → TellsFirst (item_printed s place m i) (item_faults s [] false m.fields i)
one_printed s place m (plain e) =
    then_done (bound s [] e) (λ x. put_default [] m x (position_name place)) (value_faults s [] false e) (unkeyed_tells s e)
one_printed s place m (named n e) = by (bound s [] e) (tree_tells s [] e) where
  by : (v : Verdict Bound) → TellsFirst v (faults_in s [] e)
      → TellsFirst (and_then v (λ x. put_given s.text m x n)) (where_bound (and_then v (as_key false (first_token e))) (λ x. repeated s.text m.fields n) ++ (where_bound v (dynamic_key false (first_token e)) ++ faults_in s [] e))
  by (Ok x) none =
      tells_same (put_given s.text m x n) (repeated s.text m.fields n) (repeated s.text m.fields n ++ faults_in s [] e)
      (sym (append-nil (repeated s.text m.fields n)) ∙ ap (λ (fs : List Fault). repeated s.text m.fields n ++ fs) (sym none)) (given_tells s.text m x n)
  by (Err f) h = h

pub printed_tell : (s : Names) (place : ℕ) (m : Making) (is : List ItemTree) → TellsFirst (items_printed s place m is) (printed_faults s place m is)
printed_tell s place m [] = refl
printed_tell s place m (i ∷ is) =
    then_bound (item_printed s place m i) (λ n. items_printed s (place + 1) n is) (item_faults s [] false m.fields i) (λ n. printed_faults s (place + 1) n is)
    (one_printed s place m i) (λ n. printed_tell s (place + 1) n is)

-- ---- aggregates

argument_tells : (s : Names) (cs : List Field) (more : List ArgumentTree) → TellsFirst (all_argued s cs more) (argument_faults s cs more)
argument_tells s cs [] = refl
argument_tells s cs (value e ∷ more) =
    then_these (argued s cs (value e)) (λ x. and_then (all_argued s cs more) (λ xs. done (x ∷ xs))) (faults_in s cs e) (argument_faults s cs more)
    (then_done (bound s cs e) (λ x. Some x) (faults_in s cs e) (tree_tells s cs e))
    (λ x. then_done (all_argued s cs more) (λ xs. x ∷ xs) (argument_faults s cs more) (argument_tells s cs more))
argument_tells s cs (all t ∷ more) = then_done (all_argued s cs more) (λ xs. None ∷ xs) (argument_faults s cs more) (argument_tells s cs more)

put_tells : (text : List ℕ) (g : Gathering) (n : Option Name) (x : Aggregated) → TellsFirst (gathered text g n x) (given_faults text g.fields n)
put_tells text g None x = refl
put_tells text g (Some n) x =
    then_done (put_columns text g.fields (Some n) x.1) (λ fields. record { aggregates = g.aggregates ++ x.0 ∷ []; fields = fields }) (repeated text g.fields n)
    (if_tells (is_taken g.fields (name_said text n)) (put_named g.fields (name_said text n) x.1) (mistyped (name_place n)))

aggregate_tells : (s : Names) (cs : List Field) (starred : List ℕ) (g : Gathering) (a : AggregateTree) → TellsFirst (aggregate_made s cs starred g a) (aggregate_faults s cs starred g.fields a)
aggregate_tells s cs starred g a = by (aggregate_named (piece s.text a.function)) (all_argued s cs a.arguments) (argument_tells s cs a.arguments) where
  made_tells : (fs : List Fault) → fs ≡ [] → (o : Option Aggregated)
      → TellsFirst (and_then (or_fault (mistyped a.function.from) o) (gathered s.text g a.given)) (where_there o (λ y. (given_faults s.text g.fields a.given)) ++ (unless_there o (mistyped a.function.from) ++ fs))
  made_tells fs none (Some y) =
      tells_same (gathered s.text g a.given y) (given_faults s.text g.fields a.given) ((given_faults s.text g.fields a.given) ++ fs) (sym (append-nil (given_faults s.text g.fields a.given)) ∙ ap (λ (z : List Fault). (given_faults s.text g.fields a.given) ++ z) (sym none)) (put_tells s.text g a.given y)
  made_tells fs none None = (fs, refl)

  by : (o : Option AggregateFunction) (v : Verdict (List Argued)) → TellsFirst v (argument_faults s cs a.arguments)
      → TellsFirst (and_then (or_fault (unknown a.function.from) o) (λ f. and_then v (λ given. and_then (or_fault (mistyped a.function.from) (made f cs starred given)) (gathered s.text g a.given))))
      (where_there o (λ f. where_bound v (λ x. where_there (made f cs starred x) (λ y. (given_faults s.text g.fields a.given)))) ++ (called_faults a.function.from cs starred o v ++ (argument_faults s cs a.arguments)))
  by None v h = ((argument_faults s cs a.arguments), refl)
  by (Some f) (Err e) h = h
  by (Some f) (Ok given) none = made_tells (argument_faults s cs a.arguments) none (made f cs starred given)

pub aggregates_tell : (s : Names) (cs : List Field) (starred : List ℕ) (g : Gathering) (more : List AggregateTree) → TellsFirst (each_made s cs starred g more) (aggregates_faults s cs starred g more)
aggregates_tell s cs starred g [] = refl
aggregates_tell s cs starred g (a ∷ more) =
    then_bound (aggregate_made s cs starred g a) (λ h. each_made s cs starred h more) (aggregate_faults s cs starred g.fields a) (λ h. aggregates_faults s cs starred h more)
    (aggregate_tells s cs starred g a) (λ h. aggregates_tell s cs starred h more)

-- ---- names of columns

found_tells : (text : List ℕ) (cs : List Field) (n : Name) → TellsFirst (place_in text cs n) (unfound text cs n)
found_tells text cs n = there_tells (first_named 0 cs (name_said text n)) (unknown (name_place n))

choice_tells : (text : List ℕ) (cs : List Field) (keys : Bool) (is : List ℕ) (n : Name)
    → TellsFirst (and_then (place_in text cs n) (choose keys (name_place n) is)) (choice_faults text cs keys is n)
choice_tells text cs keys is n = by (first_named 0 cs (name_said text n)) where
  by : (o : Option (ℕ × Ty)) → TellsFirst (and_then (or_fault (unknown (name_place n)) o) (choose keys (name_place n) is))
      (unless_there o (unknown (name_place n)) ++ where_there o (λ p. if_so ((has_number is p.0 || (keys && same_ty p.1 ty.Dynamic))) (mistyped (name_place n))))
  by (Some p) = if_tells ((has_number is p.0 || (keys && same_ty p.1 ty.Dynamic))) (is ++ p.0 ∷ []) (mistyped (name_place n))
  by None = ([], refl)

pub choices_tell : (text : List ℕ) (cs : List Field) (keys : Bool) (is : List ℕ) (ns : List Name) → TellsFirst (chosen text cs keys is ns) (choices_faults text cs keys is ns)
choices_tell text cs keys is [] = refl
choices_tell text cs keys is (n ∷ ns) =
    then_bound (and_then (place_in text cs n) (choose keys (name_place n) is)) (λ js. chosen text cs keys js ns) (choice_faults text cs keys is n) (λ js. choices_faults text cs keys js ns)
    (choice_tells text cs keys is n) (λ js. choices_tell text cs keys js ns)

pub renaming_tells : (text : List ℕ) (taken : List Field) (ns : List Name) → TellsFirst (names_given text taken ns) (renaming_faults text taken ns)
renaming_tells text taken [] = refl
renaming_tells text taken (n ∷ ns) =
    by (is_taken taken (name_said text n)) (renaming_faults text (taken ++ field (name_said text n) ty.Long ∷ []) ns) (renaming_tells text (taken ++ field (name_said text n) ty.Long ∷ []) ns)
  where
    by : (b : Bool) (more : List Fault) → TellsFirst (names_given text (taken ++ field (name_said text n) ty.Long ∷ []) ns) more
        → TellsFirst (cond {A = Verdict (List (List ℕ))} b (failed (mistyped (name_place n)))
        (and_then (names_given text (taken ++ field (name_said text n) ty.Long ∷ []) ns) (λ names. done (name_said text n ∷ names)))) (if_so b (mistyped (name_place n)) ++ more)
    by true more h = (more, refl)
    by false more h = then_done (names_given text (taken ++ field (name_said text n) ty.Long ∷ []) ns) (λ names. name_said text n ∷ names) more h

-- ---- keys of joins

match_tells : (at : ℕ) (p q : ℕ × Ty) → TellsFirst (matched at p q) (if_so (not (is_key p.1 q.1)) (mistyped at))
match_tells at p q = unless_tells (is_key p.1 q.1) (p.0, q.0) (mistyped at)

on_tells : (text : List ℕ) (ls rs : List Field) (k : JoinKey) → TellsFirst (on_key text ls rs k) (on_faults text ls rs k)
on_tells text ls rs (key.Both n) = by (first_named 0 ls (name_said text n)) (first_named 0 rs (name_said text n)) where
  by : (l r : Option (ℕ × Ty)) → TellsFirst (and_then (or_fault (unknown (name_place n)) l) (λ p. and_then (or_fault (unknown (name_place n)) r) (matched (name_place n) p)))
      (unless_there l (unknown (name_place n)) ++ (unless_there r (unknown (name_place n)) ++ unmatched (name_place n) l r))
  by None r = (unless_there r (unknown (name_place n)) ++ unmatched (name_place n) None r, refl)
  by (Some p) None = ([], refl)
  by (Some p) (Some q) = match_tells (name_place n) p q
on_tells text ls rs (key.LeftRight a t b) = by (first_named 0 ls (name_said text a)) (first_named 0 rs (name_said text b)) where
  by : (l r : Option (ℕ × Ty)) → TellsFirst (and_then (or_fault (unknown (name_place a)) l) (λ p. and_then (or_fault (unknown (name_place b)) r) (matched t.from p)))
      (unless_there l (unknown (name_place a)) ++ (unmatched t.from l r ++ unless_there r (unknown (name_place b))))
  by None r = (unmatched t.from None r ++ unless_there r (unknown (name_place b)), refl)
  by (Some p) None = ([], refl)
  by (Some p) (Some q) = tells_same (matched t.from p q) (unmatched t.from (Some p) (Some q)) (unmatched t.from (Some p) (Some q) ++ []) (sym (append-nil (unmatched t.from (Some p) (Some q)))) (match_tells t.from p q)
on_tells text ls rs (key.RightLeft b t a) = by (first_named 0 ls (name_said text a)) (first_named 0 rs (name_said text b)) where
  by : (l r : Option (ℕ × Ty)) → TellsFirst (and_then (or_fault (unknown (name_place b)) r) (λ q. and_then (or_fault (unknown (name_place a)) l) (λ p. matched t.from p q)))
      (unless_there r (unknown (name_place b)) ++ (unmatched t.from l r ++ unless_there l (unknown (name_place a))))
  by l None = (unmatched t.from l None ++ unless_there l (unknown (name_place a)), refl)
  by None (Some q) = ([], refl)
  by (Some p) (Some q) = tells_same (matched t.from p q) (unmatched t.from (Some p) (Some q)) (unmatched t.from (Some p) (Some q) ++ []) (sym (append-nil (unmatched t.from (Some p) (Some q)))) (match_tells t.from p q)

pub all_on_tell : (text : List ℕ) (ls rs : List Field) (ks : List JoinKey) → TellsFirst (on_keys text ls rs ks) (all_on_faults text ls rs ks)
all_on_tell text ls rs [] = refl
all_on_tell text ls rs (k ∷ ks) =
    then_these (on_key text ls rs k) (λ x. and_then (on_keys text ls rs ks) (λ xs. done (x ∷ xs))) (on_faults text ls rs k) (all_on_faults text ls rs ks) (on_tells text ls rs k)
    (λ x. then_done (on_keys text ls rs ks) (λ xs. x ∷ xs) (all_on_faults text ls rs ks) (all_on_tell text ls rs ks))

-- ---- ranges

-- three misfits, where nothing else is at fault
three_tell : (p q r : ℕ) (a b c : Bound) (fs gs hs : List Fault) → fs ≡ [] → gs ≡ [] → hs ≡ []
    → TellsFirst (range_typed p q r a b c) ((first_misfit p a b c ++ fs) ++ ((last_misfit q a b c ++ gs) ++ (step_misfit r a b c ++ hs)))
three_tell p q r a b c fs gs hs no_first no_second no_third =
    tells_same (range_typed p q r a b c) (first_misfit p a b c ++ (last_misfit q a b c ++ step_misfit r a b c))
    ((first_misfit p a b c ++ fs) ++ ((last_misfit q a b c ++ gs) ++ (step_misfit r a b c ++ hs)))
    (ap (λ (z : List Fault). z ++ (last_misfit q a b c ++ step_misfit r a b c)) (with_none (first_misfit p a b c) fs no_first)
    ∙ ap (λ (z : List Fault). (first_misfit p a b c ++ fs) ++ (z ++ step_misfit r a b c)) (with_none (last_misfit q a b c) gs no_second)
    ∙ ap (λ (z : List Fault). (first_misfit p a b c ++ fs) ++ ((last_misfit q a b c ++ gs) ++ z)) (with_none (step_misfit r a b c) hs no_third))
    (by (step_type a.1))
  where
    with_none : (us fs : List Fault) → fs ≡ [] → us ≡ us ++ fs
    with_none us fs none = sym (append-nil us) ∙ ap (λ (z : List Fault). us ++ z) (sym none)

    by : (o : Option Ty) → TellsFirst {A = Ranging} (and_then (or_fault (mistyped p) o) (λ t. and_then (of_this_type q a.1 b) (λ last. and_then (of_this_type r t c) (λ step. done (record { first = a.0; last = last; step = step; ty = a.1 })))))
        (unless_there o (mistyped p) ++ (not_of a.1 q b ++ where_there o (λ t. not_of t r c)))
    by None = (not_of a.1 q b ++ [], refl)
    by (Some t) =
        then_these (of_this_type q a.1 b) (λ last. and_then (of_this_type r t c) (λ step. done (record { first = a.0; last = last; step = step; ty = a.1 }))) (not_of a.1 q b) (not_of t r c)
        (unless_tells (same_ty b.1 a.1) b.0 (mistyped q))
        (λ last. then_done (of_this_type r t c) (λ step. record { first = a.0; last = last; step = step; ty = a.1 }) (not_of t r c) (unless_tells (same_ty c.1 t) c.0 (mistyped r)))

pub range_tells : (s : Names) (a b c : Tree) → TellsFirst (ranged s a b c) (range_faults s a b c)
range_tells s a b c = by (bound s [] a) (bound s [] b) (bound s [] c) (faults_in s [] a) (faults_in s [] b) (faults_in s [] c) (tree_tells s [] a) (tree_tells s [] b) (tree_tells s [] c) where
  by : (x y z : Verdict Bound) (fs gs hs : List Fault) → TellsFirst x fs → TellsFirst y gs → TellsFirst z hs
      → TellsFirst (and_then x (λ i. and_then y (λ j. and_then z (λ k. range_typed (first_token a) (first_token b) (first_token c) (as_long i) (as_long j) (as_long k)))))
      ((where_all x y z (first_misfit (first_token a)) ++ fs) ++ ((where_all x y z (last_misfit (first_token b)) ++ gs) ++ (where_all x y z (step_misfit (first_token c)) ++ hs)))
  by (Err e) y z fs gs hs (more, is) there last = (more ++ (gs ++ hs), ap (λ (u : List Fault). u ++ (gs ++ hs)) is)
  by (Ok i) (Err e) z fs gs hs none (more, is) last = (more ++ hs, ap (λ (u : List Fault). u ++ (gs ++ hs)) none ∙ ap (λ (u : List Fault). u ++ hs) is)
  by (Ok i) (Ok j) (Err e) fs gs hs none no_second (more, is) =
      (more, ap (λ (u : List Fault). u ++ (gs ++ hs)) none ∙ ap (λ (u : List Fault). u ++ hs) no_second ∙ is)
  by (Ok i) (Ok j) (Ok k) fs gs hs none no_second no_third = three_tell (first_token a) (first_token b) (first_token c) (as_long i) (as_long j) (as_long k) fs gs hs none no_second no_third

-- ---- datatables

column_tells : (text : List ℕ) (before : List Field) (c : Column) → TellsFirst (put_column text before c) (column_faults text before c)
column_tells text before c = by (is_taken before (name_said text c.name)) where
  by : (b : Bool) → TellsFirst (cond {A = Verdict (List Field)} b (failed (mistyped (name_place c.name))) (and_then (word_type text c.ty) (λ t. done (before ++ field (name_said text c.name) t ∷ []))))
      (if_so b (mistyped (name_place c.name)) ++ type_faults text c.ty)
  by true = (type_faults text c.ty, refl)
  by false = then_done (word_type text c.ty) (λ t. before ++ field (name_said text c.name) t ∷ []) (type_faults text c.ty) (type_tells text c.ty)

pub columns_tell : (text : List ℕ) (before : List Field) (cs : List Column) → TellsFirst (table_columns text before cs) (columns_faults text before cs)
columns_tell text before [] = refl
columns_tell text before (c ∷ cs) =
    then_bound (put_column text before c) (λ more. table_columns text more cs) (column_faults text before c) (λ more. columns_faults text more cs)
    (column_tells text before c) (λ more. columns_tell text more cs)

pub cell_tells : (text : List ℕ) (t : Ty) (c : Cell) → TellsFirst (cell_made text t c) (cell_faults text t c)
cell_tells text t c = by (literal_value text c.literal) where
  by : (o : Option Value) → TellsFirst (and_then (or_fault (unsupported c.literal.from) o) (λ v. or_fault (mistyped (cell_place c.minus c.literal)) (signed_in t c v)))
      (where_there o (λ v. unless_there (signed_in t c v) (mistyped (cell_place c.minus c.literal))) ++ unless_there o (unsupported c.literal.from))
  by (Some v) =
      let own : List Fault = unless_there (signed_in t c v) (mistyped (cell_place c.minus c.literal)) in
      tells_same (or_fault (mistyped (cell_place c.minus c.literal)) (signed_in t c v)) own (own ++ []) (sym (append-nil own)) (there_tells (signed_in t c v) (mistyped (cell_place c.minus c.literal)))
  by None = ([], refl)
