-- What makes columns one after another gives them different names: a given name is a new one, and a default name is made free.
use Rattle.std.proofs.Common.{◌≡◌, ℕ, ◌+◌, Bool, true, false, cond, List, [], ◌∷◌, ◌++◌, Option, Some, None, Ok, Err, refl, subst}
use Rattle.std.specs.Prelude.{codes}
use Rattle.kq_bind_aggregates.specs.Arguments.{all_argued, unkeyed}
use Rattle.kq_bind_aggregates.specs.Functions.{aggregate_named}
use Rattle.kq_bind_aggregates.specs.Gathered.{Gathering, put_defaults, put_named, put_columns, gathered, aggregate_made, each_made, aggregates_made}
use Rattle.kq_bind_aggregates.specs.Made.{Aggregated, made}
use Rattle.kq_bind_clauses.specs.Tables.{word_type, put_column, table_columns}
use Rattle.kq_bind_columns.specs.Defaults.{default_name}
use Rattle.kq_bind_columns.specs.Items.{field, Making, nothing_made, put, put_default, put_own, put_given, operand, item_made, items_made}
use Rattle.kq_bind_columns.specs.Naming.{is_taken, free_name, numbered}
use Rattle.kq_bind_columns.specs.Printed.{position_name, item_printed, items_printed, printed}
use Rattle.kq_bind_expressions.specs.Bound.{bound}
use Rattle.kq_bind_expressions.specs.Names.{Names}
use Rattle.kq_bind_expressions.specs.Verdicts.{Verdict, and_then, or_fault, unknown, mistyped}
use Rattle.kq_plan_expressions.specs.Terms.{Bound}
use Rattle.kq_read_grammar.specs.declared.clause.Column.{Column}
use Rattle.kq_read_grammar.specs.declared.expression.Name.{Name}
use Rattle.kq_read_grammar.specs.Trees.{ItemTree, plain, named, AggregateTree}
use Rattle.kq_read_meanings.specs.Names.{name_said, name_place}
use Rattle.kq_read_meanings.specs.Pieces.{piece}
use Rattle.kq_value.specs.declared.schema.Field.{Field}
use Rattle.kq_bind_query.proofs.Progress.{then_ok, done, done_is}
use Rattle.kq_bind_query.proofs.Apart.{Apart, apart_behind, IfFew, few_behind, free_behind}

-- ---- items

abbrev IsMade : Making → Type 0
IsMade m = IfFew m.fields

given_made : (text : List ℕ) (m : Making) (x : Bound) (g : Name) (n : Making) → IsMade m → put_given text m x g ≡ Ok n → IsMade n
given_made text m x g n h e = by (is_taken m.fields (name_said text g)) refl e where
  by : (b : Bool) → is_taken m.fields (name_said text g) ≡ b
      → cond {A = Verdict Making} b (Err (mistyped (name_place g))) (done (put m m.unnamed x (name_said text g))) ≡ Ok n → IsMade n
  by true is k = absurd (cc)
  by false is k =
      subst IsMade (done_is (put m m.unnamed x (name_said text g)) n k) (few_behind m.fields (field (name_said text g) x.1) h (λ few. is))

own_made : (m : Making) (x : Bound) (o : Option (List ℕ)) → IsMade m → IsMade (put_own [] m x o)
own_made m x (Some name) h = free_behind m.fields name x.1 h
own_made m x None h = free_behind m.fields (numbered (codes "Column") (m.unnamed + 1)) x.1 h

item_apart : (s : Names) (cs : List Field) (keys : Bool) (m : Making) (i : ItemTree) (n : Making) → IsMade m → item_made s cs [] keys m i ≡ Ok n → IsMade n
item_apart s cs keys m (plain e) n h is =
    let x = then_ok (operand s cs keys e) (λ x. done (put_own [] m x (default_name s.text cs e))) n is in
    subst IsMade (done_is (put_own [] m x.0 (default_name s.text cs e)) n x.2) (own_made m x.0 (default_name s.text cs e) h)
item_apart s cs keys m (named g e) n h is =
    let x = then_ok (operand s cs keys e) (λ x. put_given s.text m x g) n is in
    given_made s.text m x.0 g n h x.2

items_more : (s : Names) (cs : List Field) (keys : Bool) (m : Making) (is : List ItemTree) (n : Making) → IsMade m → items_made s cs [] keys m is ≡ Ok n
    → IsMade n
items_more s cs keys m [] n h e = subst IsMade (done_is m n e) h
items_more s cs keys m (i ∷ is) n h e =
    let k = then_ok (item_made s cs [] keys m i) (λ k. items_made s cs [] keys k is) n e in
    items_more s cs keys k.0 is n (item_apart s cs keys m i k.0 h k.1) k.2

pub items_apart : (s : Names) (cs : List Field) (keys : Bool) (is : List ItemTree) (n : Making) → items_made s cs [] keys nothing_made is ≡ Ok n → IfFew n.fields
items_apart s cs keys is n e = items_more s cs keys nothing_made is n (λ few. tt) e

-- ---- what is printed

printed_item : (s : Names) (i : ℕ) (m : Making) (item : ItemTree) (n : Making) → IsMade m → item_printed s i m item ≡ Ok n → IsMade n
printed_item s i m (plain e) n h is =
    let x = then_ok (bound s [] e) (λ x. done (put_default [] m x (position_name i))) n is in
    subst IsMade (done_is (put_default [] m x.0 (position_name i)) n x.2) (free_behind m.fields (position_name i) x.0.1 h)
printed_item s i m (named g e) n h is =
    let x = then_ok (bound s [] e) (λ x. put_given s.text m x g) n is in
    given_made s.text m x.0 g n h x.2

printed_more : (s : Names) (i : ℕ) (m : Making) (is : List ItemTree) (n : Making) → IsMade m → items_printed s i m is ≡ Ok n → IsMade n
printed_more s i m [] n h e = subst IsMade (done_is m n e) h
printed_more s i m (x ∷ is) n h e =
    let k = then_ok (item_printed s i m x) (λ k. items_printed s (i + 1) k is) n e in
    printed_more s (i + 1) k.0 is n (printed_item s i m x k.0 h k.1) k.2

pub printed_apart : (s : Names) (is : List ItemTree) (n : Making) → printed s is ≡ Ok n → IfFew n.fields
printed_apart s is n e = printed_more s 0 nothing_made is n (λ few. tt) e

-- ---- the columns of a datatable

column_apart : (text : List ℕ) (taken : List Field) (c : Column) (cs : List Field) → Apart taken → put_column text taken c ≡ Ok cs → Apart cs
column_apart text taken c cs h e = by (is_taken taken said) refl e where
  said : List ℕ
  said = name_said text c.name

  by : (b : Bool) → is_taken taken said ≡ b
      → cond b (Err (mistyped (name_place c.name))) (and_then (word_type text c.ty) (λ t. done (taken ++ field said t ∷ []))) ≡ Ok cs → Apart cs
  by true is g = absurd (cc)
  by false is g =
      let t = then_ok (word_type text c.ty) (λ t. done (taken ++ field said t ∷ [])) cs g in
      subst Apart (done_is (taken ++ field said t.0 ∷ []) cs t.2) (apart_behind taken (field said t.0) h is)

columns_more : (text : List ℕ) (taken : List Field) (cs : List Column) (fs : List Field) → Apart taken → table_columns text taken cs ≡ Ok fs → Apart fs
columns_more text taken [] fs h e = subst Apart (done_is taken fs e) h
columns_more text taken (c ∷ cs) fs h e =
    let k = then_ok (put_column text taken c) (λ k. table_columns text k cs) fs e in
    columns_more text k.0 cs fs (column_apart text taken c k.0 h k.1) k.2

pub columns_apart : (text : List ℕ) (cs : List Column) (fs : List Field) → table_columns text [] cs ≡ Ok fs → Apart fs
columns_apart text cs fs e = columns_more text [] cs fs tt e

-- ---- groups

defaults_apart : (fs cs : List Field) → IfFew fs → IfFew (put_defaults fs cs)
defaults_apart fs [] h = h
defaults_apart fs (c ∷ cs) h = defaults_apart (fs ++ field (free_name fs [] c.name) c.ty ∷ []) cs (free_behind fs c.name c.ty h)

named_apart : (fs : List Field) (said : List ℕ) (cs : List Field) → IfFew fs → is_taken fs said ≡ false → IfFew (put_named fs said cs)
named_apart fs said [] h free = h
named_apart fs said (c ∷ cs) h free =
    defaults_apart (fs ++ field said c.ty ∷ []) cs (few_behind fs (field said c.ty) h (λ few. free))

put_apart : (text : List ℕ) (fs : List Field) (o : Option Name) (cs gs : List Field) → IfFew fs → put_columns text fs o cs ≡ Ok gs → IfFew gs
put_apart text fs None cs gs h e = subst IfFew (done_is (put_defaults fs cs) gs e) (defaults_apart fs cs h)
put_apart text fs (Some n) cs gs h e = by (is_taken fs (name_said text n)) refl e where
  by : (b : Bool) → is_taken fs (name_said text n) ≡ b → cond b (Err (mistyped (name_place n))) (done (put_named fs (name_said text n) cs)) ≡ Ok gs → IfFew gs
  by true is g = absurd (cc)
  by false is g = subst IfFew (done_is (put_named fs (name_said text n) cs) gs g) (named_apart fs (name_said text n) cs h is)

abbrev IsGathered : Gathering → Type 0
IsGathered g = IfFew g.fields

gathered_apart : (text : List ℕ) (g : Gathering) (o : Option Name) (x : Aggregated) (h : Gathering) → IsGathered g → gathered text g o x ≡ Ok h → IsGathered h
gathered_apart text g o x h is e =
    let put = λ (fs : List Field). let k : Gathering = record { aggregates = g.aggregates ++ x.0 ∷ []; fields = fs } in k in
    let fs = then_ok (put_columns text g.fields o x.1) (λ fs. done (put fs)) h e in
    subst IsGathered (done_is (put fs.0) h fs.2) (put_apart text g.fields o x.1 fs.0 is fs.1)

aggregate_apart : (s : Names) (cs : List Field) (starred : List ℕ) (g : Gathering) (a : AggregateTree) (h : Gathering) → IsGathered g
    → aggregate_made s cs starred g a ≡ Ok h → IsGathered h
aggregate_apart s cs starred g a h is e =
    let put = gathered s.text g a.given in
    let f = then_ok (or_fault (unknown a.function.from) (aggregate_named (piece s.text a.function)))
    (λ f. and_then (all_argued s cs a.arguments) (λ given. and_then (or_fault (mistyped a.function.from) (made f cs starred given)) put)) h e in
    let given = then_ok (all_argued s cs a.arguments) (λ given. and_then (or_fault (mistyped a.function.from) (made f.0 cs starred given)) put) h f.2 in
    let x = then_ok (or_fault (mistyped a.function.from) (made f.0 cs starred given.0)) put h given.2 in
    gathered_apart s.text g a.given x.0 h is x.2

each_apart : (s : Names) (cs : List Field) (starred : List ℕ) (g : Gathering) (more : List AggregateTree) (h : Gathering) → IsGathered g
    → each_made s cs starred g more ≡ Ok h → IsGathered h
each_apart s cs starred g [] h is e = subst IsGathered (done_is g h e) is
each_apart s cs starred g (a ∷ more) h is e =
    let k = then_ok (aggregate_made s cs starred g a) (λ k. each_made s cs starred k more) h e in
    each_apart s cs starred k.0 more h (aggregate_apart s cs starred g a k.0 is k.1) k.2

pub aggregates_apart : (s : Names) (cs keys : List Field) (g : Gathering) (more : List AggregateTree) (h : Gathering) → IfFew g.fields
    → aggregates_made s cs keys g more ≡ Ok h → IfFew h.fields
aggregates_apart s cs keys g more h is e = each_apart s cs (unkeyed 0 cs keys) g more h is e
