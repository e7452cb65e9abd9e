-- What a summarize is bound to has its keys first, and then the columns of its aggregates.
use Rattle.std.proofs.Common.{◌≡◌, ℕ, zero, suc, ◌+◌, ◌^◌, ◌≤◌, Bool, true, false, cond, List, [], ◌∷◌, ◌++◌, All, length, length-append, map, take, Option, Some, None, Ok, Err, refl, sym, ap, ◌∙◌, subst, arith, append_assoc, append-nil}
use Rattle.std.specs.Prelude.{flat_map, slice_get}
use Rattle.std.proofs.lemmas.List.Elements.{All-head, All-tail}
use Rattle.kq_bind_query.specs.kq_bind_operators.Clauses.{summarized_by, grouped}
use Rattle.kq_bind_query.specs.kq_bind_operators.Flows.{Progressing, Flowing, columns, columns_at, following}
use Rattle.kq_bind_query.specs.kq_bind_operators.Scopes.{Scoping, names}
use Rattle.kq_bind_aggregates.specs.Arguments.{Argued, all_argued, unkeyed}
use Rattle.kq_bind_aggregates.specs.declared.function.AggregateFunction.{AggregateFunction}
use Rattle.kq_bind_aggregates.specs.Functions.{aggregate_named}
use Rattle.kq_bind_aggregates.specs.Gathered.{Gathering, no_aggregate, put_defaults, put_named, put_columns, gathered, aggregate_made, each_made, aggregates_made}
use Rattle.kq_bind_aggregates.specs.Made.{Aggregated, made}
use Rattle.kq_bind_columns.specs.Items.{field, nothing_made, items_made}
use Rattle.kq_bind_columns.specs.Naming.{is_taken, free_name}
use Rattle.kq_bind_expressions.specs.Names.{Names}
use Rattle.kq_bind_expressions.specs.Verdicts.{Verdict, and_then, or_fault, mistyped, unknown}
use Rattle.kq_plan_expressions.specs.Terms.{Term}
use Rattle.kq_read_grammar.specs.declared.expression.Name.{Name}
use Rattle.kq_read_grammar.specs.Trees.{AggregateTree, ItemTree}
use Rattle.kq_plan.specs.Plans.{Aggregating, Doing, Stepping, summarized}
use Rattle.kq_read_meanings.specs.Names.{name_said, name_place}
use Rattle.kq_read_meanings.specs.Pieces.{piece}
use Rattle.kq_value.specs.declared.schema.Field.{Field}
use Rattle.kq_bind_query.specs.Suffixes.{IsMadeFree, IsNamed}
use Rattle.kq_bind_query.proofs.Aggregates.{all_argued_typed}
use Rattle.kq_bind_query.proofs.Apart.{not_both}
use Rattle.kq_bind_query.proofs.Columns.{IsNoDynamic as IsKeyColumn, found_ok}
use Rattle.kq_bind_query.proofs.Items.{nothing_is_made, items_good}
use Rattle.kq_bind_query.proofs.Progress.{then_ok, done, done_is}
use Rattle.kq_bind_query.proofs.Suffixed.{named_taken, made_free}
use Rattle.kq_bind_laws.specs.Columns.{Valued, column_of, values_of, columns_of, HasNext}
use Rattle.kq_bind_laws.specs.Items.{AreFew}
use Rattle.kq_bind_laws.specs.Summarized.{IsNarrow, IsColumnName, AreNamed, Gathered, work_of, fields_of, IsAggregate, AreAggregates, IsNoDynamic, IsSummarized}
use Rattle.kq_bind_laws.proofs.Aggregates.{makes}
use Rattle.kq_bind_laws.proofs.Items.{items_are}
use Rattle.kq_bind_laws.proofs.Steps.{next_following}

-- ---- the names of columns

-- each column behind these under its default name, made free
abbrev Freed : List Field → List Field → List Field → Type 0
Freed before [] [] = Unit {0}
Freed before [] (f ∷ fs) = ⊥
Freed before (c ∷ cs) [] = ⊥
Freed before (c ∷ cs) (f ∷ fs) = (f.ty ≡ c.ty) × IsMadeFree before [] c.name f.name × Freed (before ++ f ∷ []) cs fs

freed_length : (before cs fs : List Field) → Freed before cs fs → length fs ≡ length cs
freed_length before [] [] h = refl
freed_length before [] (f ∷ fs) h = absurd h
freed_length before (c ∷ cs) [] h = absurd h
freed_length before (c ∷ cs) (f ∷ fs) h = ap (λ n. suc n) (freed_length (before ++ f ∷ []) cs fs h.2)

-- a column behind these, and what holds of it
record FreedAt (before : List Field) (b f : Field) : Type 0 where
  of_type : f.ty ≡ b.ty
  free : IsMadeFree before [] b.name f.name

freed_at : (before cs fs : List Field) → Freed before cs fs → (j : ℕ) (b f : Field) → slice_get cs j ≡ Some b → slice_get fs j ≡ Some f
    → FreedAt (before ++ take j fs) b f
freed_at before [] fs h j b f e g = absurd (cc)
freed_at before (c ∷ cs) [] h j b f e g = absurd h
freed_at before (c ∷ cs) (d ∷ fs) h zero b f e g =
    let one : c ≡ b = cc in
    let two : d ≡ f = cc in
    let here : FreedAt (before ++ []) c d = subst (λ z. FreedAt z c d) (sym (append-nil before)) (record { of_type = h.0; free = h.1 }) in
    subst (λ (z : Field). FreedAt (before ++ []) b z) two (subst (λ (z : Field). FreedAt (before ++ []) z d) one here)
freed_at before (c ∷ cs) (d ∷ fs) h (suc j) b f e g =
    subst (λ z. FreedAt z b f) (append_assoc before (d ∷ []) (take j fs)) (freed_at (before ++ d ∷ []) cs fs h.2 j b f e g)

-- so many columns have room
abbrev HasRoom : ℕ → Type 0
HasRoom n = n + 2 ≤ 2 ^ 64

record IsBehind (before cs put : List Field) : Type 0 where
  own : List Field
  behind : put ≡ before ++ own
  freed : Freed before cs own

defaults_put : (before cs : List Field) → HasRoom (length before + length cs) → IsBehind before cs (put_defaults before cs)
defaults_put before [] room = record { own = []; behind = sym (append-nil before); freed = tt }
defaults_put before (c ∷ cs) room =
    let f = field (free_name before [] c.name) c.ty in
    let more = defaults_put (before ++ f ∷ []) cs (omega (arith, room, length-append before (f ∷ []))) in
    record {
      own = f ∷ more.own;
      behind = more.behind ∙ append_assoc before (f ∷ []) more.own;
      freed = (refl, made_free before [] c.name (omega (arith, room)), more.freed);
    }

defaults_length : (before cs : List Field) → length (put_defaults before cs) ≡ length before + length cs
defaults_length before [] = omega arith
defaults_length before (c ∷ cs) =
    let f = field (free_name before [] c.name) c.ty in
    let more = defaults_length (before ++ f ∷ []) cs in
    omega (arith, more, length-append before (f ∷ []))

named_length : (before : List Field) (said : List ℕ) (cs : List Field) → length (put_named before said cs) ≡ length before + length cs
named_length before said [] = omega arith
named_length before said (c ∷ cs) =
    let f = field said c.ty in
    let more = defaults_length (before ++ f ∷ []) cs in
    omega (arith, more, length-append before (f ∷ []))

columns_length : (text : List ℕ) (before : List Field) (o : Option Name) (cs put : List Field) → put_columns text before o cs ≡ Ok put
    → length put ≡ length before + length cs
columns_length text before None cs put e = ap length (sym (done_is (put_defaults before cs) put e)) ∙ defaults_length before cs
columns_length text before (Some n) cs put e = by (is_taken before (name_said text n)) e where
  by : (b : Bool) → cond {A = Verdict (List Field)} b (Err (mistyped (name_place n))) (done (put_named before (name_said text n) cs)) ≡ Ok put
      → length put ≡ length before + length cs
  by true k = absurd (cc)
  by false k = ap length (sym (done_is (put_named before (name_said text n) cs) put k)) ∙ named_length before (name_said text n) cs

-- ---- the columns of an aggregate

record ArePut (text : List ℕ) (before : List Field) (o : Option Name) (cs put : List Field) : Type 0 where
  own : List Field
  behind : put ≡ before ++ own
  named : AreNamed text before o cs own

none_new : (text : List ℕ) (before : List Field) (n : Name) → None ≡ Some n → ¬ (IsNamed before (name_said text n))
none_new text before n e h = absurd (cc)

default_put : (text : List ℕ) (before cs : List Field) → HasRoom (length before + length cs) → ArePut text before None cs (put_defaults before cs)
default_put text before cs room =
    let p = defaults_put before cs room in
    record {
      own = p.own;
      behind = p.behind;
      named = record {
        all = freed_length before cs p.own p.freed;
        each = λ j b f e g. let at = freed_at before cs p.own p.freed j b f e g in (at.of_type, at.free);
        new = none_new text before;
      };
    }

said_new : (text : List ℕ) (before : List Field) (n m : Name) → is_taken before (name_said text n) ≡ false → Some n ≡ Some m
    → ¬ (IsNamed before (name_said text m))
said_new text before n m free e h =
    let one : n ≡ m = cc in
    not_both (is_taken before (name_said text n))
    (subst (λ (z : Name). is_taken before (name_said text z) ≡ true) (sym one) (named_taken before (name_said text m) h)) free

said_put : (text : List ℕ) (before : List Field) (n : Name) (cs : List Field) → HasRoom (length before + length cs) → is_taken before (name_said text n) ≡ false
    → ArePut text before (Some n) cs (put_named before (name_said text n) cs)
said_put text before n [] room free = record {
  own = [];
  behind = sym (append-nil before);
  named = record { all = refl; each = λ j b f e g. absurd (cc); new = λ m e. said_new text before n m free e };
}
said_put text before n (c ∷ cs) room free =
    let first = field (name_said text n) c.ty in
    let p = defaults_put (before ++ first ∷ []) cs (omega (arith, room, length-append before (first ∷ []))) in
    record {
      own = first ∷ p.own;
      behind = p.behind ∙ append_assoc before (first ∷ []) p.own;
      named = record {
        all = ap (λ k. suc k) (freed_length (before ++ first ∷ []) cs p.own p.freed);
        each = at p.own p.freed;
        new = λ m e. said_new text before n m free e;
      };
    }
  where
    at : (own : List Field) → Freed (before ++ field (name_said text n) c.ty ∷ []) cs own → (j : ℕ) (b f : Field) → slice_get (c ∷ cs) j ≡ Some b
        → slice_get (field (name_said text n) c.ty ∷ own) j ≡ Some f
        → (f.ty ≡ b.ty) × IsColumnName text (before ++ take j (field (name_said text n) c.ty ∷ own)) (Some n) j b.name f.name
    at own freed zero b f e g =
        let one : c ≡ b = cc in
        let two : field (name_said text n) c.ty ≡ f = cc in
        (sym (ap (λ (z : Field). z.ty) two) ∙ ap (λ (z : Field). z.ty) one, sym (ap (λ (z : Field). z.name) two))
    at own freed (suc j) b f e g =
        let k = freed_at (before ++ field (name_said text n) c.ty ∷ []) cs own freed j b f e g in
        (k.of_type, subst (λ z. IsMadeFree z [] b.name f.name) (append_assoc before (field (name_said text n) c.ty ∷ []) (take j own)) k.free)

columns_put : (text : List ℕ) (before : List Field) (o : Option Name) (cs put : List Field) → HasRoom (length put) → put_columns text before o cs ≡ Ok put
    → ArePut text before o cs put
columns_put text before None cs put room e =
    let long = columns_length text before None cs put e in
    subst (ArePut text before None cs) (done_is (put_defaults before cs) put e) (default_put text before cs (omega (arith, room, long)))
columns_put text before (Some n) cs put room e = by (is_taken before (name_said text n)) refl e where
  long : length put ≡ length before + length cs
  long = columns_length text before (Some n) cs put e

  by : (b : Bool) → is_taken before (name_said text n) ≡ b
      → cond {A = Verdict (List Field)} b (Err (mistyped (name_place n))) (done (put_named before (name_said text n) cs)) ≡ Ok put → ArePut text before (Some n) cs put
  by true is k = absurd (cc)
  by false is k =
      subst (ArePut text before (Some n) cs) (done_is (put_named before (name_said text n) cs) put k)
      (said_put text before n cs (omega (arith, room, long)) is)

-- ---- one aggregate

-- what an aggregate adds: its work, and its columns under their names
record Adds (text : List ℕ) (g : Gathering) (o : Option Name) (x : Aggregated) (h : Gathering) : Type 0 where
  fields : List Field
  put : put_columns text g.fields o x.1 ≡ Ok fields
  works : g.aggregates ++ x.0 ∷ [] ≡ h.aggregates
  after : fields ≡ h.fields

adds : (text : List ℕ) (g : Gathering) (o : Option Name) (x : Aggregated) (h : Gathering) → gathered text g o x ≡ Ok h → Adds text g o x h
adds text g o x h e =
    let put = λ (fields : List Field). let r : Gathering = record { aggregates = g.aggregates ++ x.0 ∷ []; fields = fields } in r in
    let fields = then_ok (put_columns text g.fields o x.1) (λ fields. done (put fields)) h e in
    let is = done_is (put fields.0) h fields.2 in
    record {
      fields = fields.0;
      put = fields.1;
      works = ap (λ (z : Gathering). z.aggregates) is;
      after = ap (λ (z : Gathering). z.fields) is;
    }

record Parts (s : Names) (cs : List Field) (starred : List ℕ) (g : Gathering) (a : AggregateTree) (h : Gathering) : Type 0 where
  function : AggregateFunction
  called : aggregate_named (piece s.text a.function) ≡ Some function
  given : List Argued
  arguments : all_argued s cs a.arguments ≡ Ok given
  x : Aggregated
  making : made function cs starred given ≡ Some x
  adding : Adds s.text g a.given x h

parts : (s : Names) (cs : List Field) (starred : List ℕ) (g : Gathering) (a : AggregateTree) (h : Gathering) → aggregate_made s cs starred g a ≡ Ok h
    → Parts s cs starred g a h
parts s cs starred g a h e =
    let at = a.function.from in
    let last = gathered s.text g a.given in
    let f = then_ok (or_fault (unknown at) (aggregate_named (piece s.text a.function)))
    (λ f. and_then (all_argued s cs a.arguments) (λ given. and_then (or_fault (mistyped at) (made f cs starred given)) last)) h e in
    let given = then_ok (all_argued s cs a.arguments) (λ given. and_then (or_fault (mistyped at) (made f.0 cs starred given)) last) h f.2 in
    let x = then_ok (or_fault (mistyped at) (made f.0 cs starred given.0)) last h given.2 in
    record {
      function = f.0;
      called = found_ok (unknown at) (aggregate_named (piece s.text a.function)) f.0 f.1;
      given = given.0;
      arguments = given.1;
      x = x.0;
      making = found_ok (mistyped at) (made f.0 cs starred given.0) x.0 x.1;
      adding = adds s.text g a.given x.0 h x.2;
    }

one_grows : (s : Names) (cs : List Field) (starred : List ℕ) (g : Gathering) (a : AggregateTree) (h : Gathering) → Parts s cs starred g a h
    → length g.fields ≤ length h.fields
one_grows s cs starred g a h p =
    let long = columns_length s.text g.fields a.given p.x.1 p.adding.fields p.adding.put in
    let same : length p.adding.fields ≡ length h.fields = ap length p.adding.after in
    omega (arith, long, same)

record OneMade (s : Names) (cs keys : List Field) (g : Gathering) (a : AggregateTree) (h : Gathering) : Type 0 where
  x : Gathered
  is : IsAggregate s cs keys g.fields a x
  works : h.aggregates ≡ g.aggregates ++ work_of x ∷ []
  fields : h.fields ≡ g.fields ++ fields_of x

one_made : (s : Names) (cs keys : List Field) (g : Gathering) (a : AggregateTree) (h : Gathering) → HasRoom (length h.fields)
    → Parts s cs (unkeyed 0 cs keys) g a h → OneMade s cs keys g a h
one_made s cs keys g a h room p =
    let few : HasRoom (length p.adding.fields) = subst (λ (z : List Field). HasRoom (length z)) (sym p.adding.after) room in
    let put = columns_put s.text g.fields a.given p.x.1 p.adding.fields few p.adding.put in
    let x : Gathered = (p.x.0, put.own) in
    let is : IsAggregate s cs keys g.fields a x = record {
      function = p.function;
      called = p.called;
      given = p.given;
      arguments = p.arguments;
      base = p.x.1;
      makes = makes p.function s.lets cs keys p.given p.x (all_argued_typed s cs a.arguments p.given p.arguments) p.making;
      named = put.named;
    } in
    record { x = x; is = is; works = sym p.adding.works; fields = sym p.adding.after ∙ put.behind }

-- ---- one after another

each_grows : (s : Names) (cs : List Field) (starred : List ℕ) (g : Gathering) (more : List AggregateTree) (h : Gathering) → each_made s cs starred g more ≡ Ok h
    → length g.fields ≤ length h.fields
each_grows s cs starred g [] h e = let same : length g.fields ≡ length h.fields = ap (λ (z : Gathering). length z.fields) (done_is g h e) in omega (arith, same)
each_grows s cs starred g (a ∷ more) h e =
    let k = then_ok (aggregate_made s cs starred g a) (λ k. each_made s cs starred k more) h e in
    let one = one_grows s cs starred g a k.0 (parts s cs starred g a k.0 k.1) in
    let rest = each_grows s cs starred k.0 more h k.2 in
    omega (arith, one, rest)

abbrev Follow : Names → List Field → List Field → List Field → List AggregateTree → List Gathered → Type 0
Follow s cs keys before [] [] = Unit {0}
Follow s cs keys before [] (x ∷ xs) = ⊥
Follow s cs keys before (a ∷ more) [] = ⊥
Follow s cs keys before (a ∷ more) (x ∷ xs) = IsAggregate s cs keys before a x × Follow s cs keys (before ++ fields_of x) more xs

record AllMade (s : Names) (cs keys : List Field) (g : Gathering) (more : List AggregateTree) (h : Gathering) : Type 0 where
  xs : List Gathered
  follow : Follow s cs keys g.fields more xs
  works : h.aggregates ≡ g.aggregates ++ map work_of xs
  fields : h.fields ≡ g.fields ++ flat_map fields_of xs

all_made : (s : Names) (cs keys : List Field) (g : Gathering) (more : List AggregateTree) (h : Gathering) → HasRoom (length h.fields)
    → each_made s cs (unkeyed 0 cs keys) g more ≡ Ok h → AllMade s cs keys g more h
all_made s cs keys g [] h room e =
    subst (AllMade s cs keys g []) (done_is g h e)
    (record { xs = []; follow = tt; works = sym (append-nil g.aggregates); fields = sym (append-nil g.fields) })
all_made s cs keys g (a ∷ more) h room e =
    let k = then_ok (aggregate_made s cs (unkeyed 0 cs keys) g a) (λ k. each_made s cs (unkeyed 0 cs keys) k more) h e in
    let grows = each_grows s cs (unkeyed 0 cs keys) k.0 more h k.2 in
    let one = one_made s cs keys g a k.0 (omega (arith, room, grows)) (parts s cs (unkeyed 0 cs keys) g a k.0 k.1) in
    let rest = all_made s cs keys k.0 more h room k.2 in
    record {
      xs = one.x ∷ rest.xs;
      follow = (one.is, subst (λ z. Follow s cs keys z more rest.xs) one.fields rest.follow);
      works = rest.works ∙ ap (λ z. z ++ map work_of rest.xs) one.works ∙ append_assoc g.aggregates (work_of one.x ∷ []) (map work_of rest.xs);
      fields = rest.fields ∙ ap (λ z. z ++ flat_map fields_of rest.xs) one.fields ∙ append_assoc g.fields (fields_of one.x) (flat_map fields_of rest.xs);
    }

follow_length : (s : Names) (cs keys before : List Field) (more : List AggregateTree) (xs : List Gathered) → Follow s cs keys before more xs → length xs ≡ length more
follow_length s cs keys before [] [] h = refl
follow_length s cs keys before [] (x ∷ xs) h = absurd h
follow_length s cs keys before (a ∷ more) [] h = absurd h
follow_length s cs keys before (a ∷ more) (x ∷ xs) h = ap (λ n. suc n) (follow_length s cs keys (before ++ fields_of x) more xs h.1)

follows_at : (s : Names) (cs keys before : List Field) (more : List AggregateTree) (xs : List Gathered) → Follow s cs keys before more xs
    → (j : ℕ) (a : AggregateTree) (x : Gathered) → slice_get more j ≡ Some a → slice_get xs j ≡ Some x
    → IsAggregate s cs keys (before ++ flat_map fields_of (take j xs)) a x
follows_at s cs keys before [] xs h j a x e f = absurd (cc)
follows_at s cs keys before (b ∷ more) [] h j a x e f = absurd h
follows_at s cs keys before (b ∷ more) (y ∷ xs) h zero a x e f =
    let one : b ≡ a = cc in
    let two : y ≡ x = cc in
    let here = subst (λ z. IsAggregate s cs keys z b y) (sym (append-nil before)) h.0 in
    subst (λ (z : Gathered). IsAggregate s cs keys (before ++ []) a z) two (subst (λ (z : AggregateTree). IsAggregate s cs keys (before ++ []) z y) one here)
follows_at s cs keys before (b ∷ more) (y ∷ xs) h (suc j) a x e f =
    subst (λ z. IsAggregate s cs keys z a x) (append_assoc before (fields_of y) (flat_map fields_of (take j xs)))
    (follows_at s cs keys (before ++ fields_of y) more xs h.1 j a x e f)

-- ---- all of it

last_columns : (ss : List Stepping) (s : Stepping) → columns_at (ss ++ s ∷ []) (length ss) ≡ s.columns
last_columns [] s = refl
last_columns (t ∷ ss) s = last_columns ss s

columns_after : (p : Progressing) (v : Flowing) (doing : Doing) (cs : List Field) → following p doing cs ≡ v → columns v ≡ cs
columns_after p v doing cs e =
    subst (λ (z : Flowing). columns z ≡ cs) e (last_columns p.steps (record { stage = p.stages + 1; doing = doing; columns = cs }))

all_at : (xs : List Valued) (j : ℕ) (x : Valued) → All IsKeyColumn (columns_of xs) → slice_get xs j ≡ Some x → IsNoDynamic x
all_at [] j x h e = absurd (cc)
all_at (y ∷ xs) zero x h e =
    let one : y ≡ x = cc in subst (λ (z : Valued). IsNoDynamic z) one (All-head IsKeyColumn (column_of y) (columns_of xs) h)
all_at (y ∷ xs) (suc j) x h e = all_at xs j x (All-tail IsKeyColumn (column_of y) (columns_of xs) h) e

pub summarized_so : (s : Scoping) (w v : Flowing) (more : List AggregateTree) (items : List ItemTree) → AreFew items [] → IsNarrow v
    → grouped s w more items ≡ Ok v → IsSummarized s w v more items
summarized_so s w v more items few narrow e =
    let cs = columns w in
    let m = then_ok (items_made (names s) cs [] true nothing_made items)
    (λ m. and_then (aggregates_made (names s) cs m.fields (no_aggregate m.fields) more) (λ h. done (summarized_by w m.terms h))) v e in
    let h = then_ok (aggregates_made (names s) cs m.0.fields (no_aggregate m.0.fields) more) (λ h. done (summarized_by w m.0.terms h)) v m.2 in
    let keys = items_are (names s) cs [] true items m.0 few m.1 in
    let good = items_good (names s) cs [] true nothing_made items m.0 (nothing_is_made s.lets cs true) m.1 in
    let is = done_is (summarized_by w m.0.terms h.0) v h.2 in
    let all = columns_after w.progress v (summarized w.input m.0.terms h.0.aggregates) h.0.fields is in
    let long : length (columns v) ≡ length h.0.fields = ap length all in
    let aggs = all_made (names s) cs m.0.fields (no_aggregate m.0.fields) more h.0 (omega (arith, narrow, long)) h.1 in
    let follow : Follow (names s) cs (columns_of keys.made) (columns_of keys.made) more aggs.xs =
    subst (λ (z : List Field). Follow (names s) cs z z more aggs.xs) keys.fields aggs.follow in
    let next = next_following w.progress v (summarized w.input m.0.terms h.0.aggregates) h.0.fields is in
    let works : HasNext w.progress v (summarized w.input (values_of keys.made) (map work_of aggs.xs)) h.0.fields =
    subst (λ (z : List Aggregating). HasNext w.progress v (summarized w.input (values_of keys.made) z) h.0.fields) aggs.works
    (subst (λ (z : List Term). HasNext w.progress v (summarized w.input z h.0.aggregates) h.0.fields) keys.terms next) in
    let fields : h.0.fields ≡ columns_of keys.made ++ flat_map fields_of aggs.xs =
    aggs.fields ∙ ap (λ (z : List Field). z ++ flat_map fields_of aggs.xs) keys.fields in
    let are : AreAggregates (names s) cs (columns_of keys.made) more aggs.xs = record {
      all = follow_length (names s) cs (columns_of keys.made) (columns_of keys.made) more aggs.xs follow;
      each = follows_at (names s) cs (columns_of keys.made) (columns_of keys.made) more aggs.xs follow;
    } in
    record {
      keys = keys.made;
      are_keys = keys.are;
      no_dynamic = λ j x at. all_at keys.made j x (subst (All IsKeyColumn) keys.fields good.keyed) at;
      aggregates = aggs.xs;
      are = are;
      next = subst (λ (z : List Field). HasNext w.progress v (summarized w.input (values_of keys.made) (map work_of aggs.xs)) z) fields works;
    }
