-- Items make one column each, under different names.
use Rattle.std.proofs.Common.{◌≡◌, ℕ, zero, suc, ◌+◌, ◌^◌, ◌≤◌, Bool, true, false, cond, List, [], ◌∷◌, ◌++◌, length, length-append, take, Option, Some, None, Ok, Err, refl, sym, ap, ◌∙◌, subst, arith, append_assoc, append-nil, add-zero, zero-add}
use Rattle.std.specs.Prelude.{codes, is_none, slice_get}
use Rattle.std.specs.List.{filter}
use Rattle.kq_bind_columns.specs.Defaults.{first_token, default_name}
use Rattle.kq_bind_columns.specs.Items.{field, Making, nothing_made, put, put_default, put_own, put_given, as_key, operand, item_made, items_made}
use Rattle.kq_bind_columns.specs.Naming.{is_taken, free_name, numbered}
use Rattle.kq_bind_columns.specs.Printed.{position_name, item_printed, items_printed, printed}
use Rattle.kq_bind_expressions.specs.Bound.{bound}
use Rattle.kq_bind_expressions.specs.Names.{Names}
use Rattle.kq_bind_expressions.specs.Verdicts.{Verdict, mistyped}
use Rattle.kq_plan_expressions.specs.Terms.{Bound}
use Rattle.kq_read_grammar.specs.declared.expression.Name.{Name}
use Rattle.kq_read_grammar.specs.Trees.{Tree, ItemTree, plain, named}
use Rattle.kq_read_meanings.specs.Names.{name_said, name_place}
use Rattle.kq_value.specs.declared.schema.Field.{Field}
use Rattle.kq_value.specs.declared.ty.Ty.TheVariants as ty
use Rattle.kq_value.specs.Ty.{same_ty}
use Rattle.kq_bind_query.specs.Suffixes.{HaveRoom}
use Rattle.kq_bind_query.proofs.Apart.{Apart, apart_behind, apart_different, not_both}
use Rattle.kq_bind_query.proofs.Progress.{then_ok, done, done_is}
use Rattle.kq_bind_query.proofs.Suffixed.{named_taken, made_free}
use Rattle.kq_bind_laws.specs.Columns.{Valued, value_of, column_of, values_of, columns_of}
use Rattle.kq_bind_laws.specs.Items.{AreFew, is_unnamed, or_numbered, own_name, place_name, expression_of, IsItemName, IsItem, AreItems}
use Rattle.kq_bind_laws.proofs.Names.{unnamed_free, made_apart}

-- ---- expressions

key_is : (keys : Bool) (at : ℕ) (y x : Bound) → as_key keys at y ≡ Ok x → y ≡ x
key_is false at y x e = done_is y x e
key_is true at y x e = by (same_ty y.1 ty.Dynamic) e where
  by : (b : Bool) → cond {A = Verdict Bound} b (Err (mistyped at)) (done y) ≡ Ok x → y ≡ x
  by true g = absurd (cc)
  by false g = done_is y x g

pub operand_bound : (s : Names) (cs : List Field) (keys : Bool) (e : Tree) (x : Bound) → operand s cs keys e ≡ Ok x → bound s cs e ≡ Ok x
operand_bound s cs keys e x is =
    let y = then_ok (bound s cs e) (as_key keys (first_token e)) x is in
    subst (λ (z : Bound). bound s cs e ≡ Ok z) (key_is keys (first_token e) y.0 x y.2) y.1

-- ---- one item

abbrev one_if : Bool → ℕ
one_if true = 1
one_if false = 0

-- what a name is made from, where so many items before had none
abbrev Naming : Type 0
Naming = ℕ → Tree → List ℕ

-- an item's column behind those that are made, and the count afterwards
record IsPut (s : Names) (cs avoided : List Field) (base : List ℕ) (m : Making) (i : ItemTree) (n : Making) : Type 0 where
  made : Valued
  is : IsItem s cs avoided m.fields base i made
  terms : n.terms ≡ m.terms ++ value_of made ∷ []
  fields : n.fields ≡ m.fields ++ column_of made ∷ []

put_free : (s : Names) (cs avoided : List Field) (m : Making) (unnamed : ℕ) (e : Tree) (x : Bound) (base : List ℕ) → HaveRoom m.fields avoided
    → bound s cs e ≡ Ok x → IsPut s cs avoided base m (plain e) (put m unnamed x (free_name m.fields avoided base))
put_free s cs avoided m unnamed e x base room is = record {
  made = (x.0, field (free_name m.fields avoided base) x.1);
  is = record { value = is; name = made_free m.fields avoided base room };
  terms = refl;
  fields = refl;
}

put_said : (s : Names) (cs avoided : List Field) (base : List ℕ) (m : Making) (e : Tree) (x : Bound) (g : Name) (n : Making) → bound s cs e ≡ Ok x
    → put_given s.text m x g ≡ Ok n → IsPut s cs avoided base m (named g e) n × (m.unnamed ≡ n.unnamed)
put_said s cs avoided base m e x g n is k = by (is_taken m.fields (name_said s.text g)) refl k where
  after : Making
  after = put m m.unnamed x (name_said s.text g)

  by : (b : Bool) → is_taken m.fields (name_said s.text g) ≡ b → cond {A = Verdict Making} b (Err (mistyped (name_place g))) (done after) ≡ Ok n
      → IsPut s cs avoided base m (named g e) n × (m.unnamed ≡ n.unnamed)
  by true free k = absurd (cc)
  by false free k =
      let said : IsPut s cs avoided base m (named g e) after = record {
        made = (x.0, field (name_said s.text g) x.1);
        is = record { value = is; name = (refl, λ h. not_both (is_taken m.fields (name_said s.text g)) (named_taken m.fields (name_said s.text g) h) free) };
        terms = refl;
        fields = refl;
      } in
      subst (λ (z : Making). IsPut s cs avoided base m (named g e) z × (m.unnamed ≡ z.unnamed)) (done_is after n k) (said, refl)

-- ---- items, one after another

-- what is behind `before`, where the names are made from a count that goes on from item to item
abbrev Follow : Names → List Field → List Field → Naming → (ℕ → ItemTree → ℕ) → List Field → ℕ → List ItemTree → List Valued → Type 0
Follow s cs avoided naming next before n [] [] = Unit {0}
Follow s cs avoided naming next before n [] (x ∷ xs) = ⊥
Follow s cs avoided naming next before n (i ∷ is) [] = ⊥
Follow s cs avoided naming next before n (i ∷ is) (x ∷ xs) =
    IsItem s cs avoided before (naming n (expression_of i)) i x × Follow s cs avoided naming next (before ++ column_of x ∷ []) (next n i) is xs

record ArePut (s : Names) (cs avoided : List Field) (naming : Naming) (next : ℕ → ItemTree → ℕ) (start : ℕ) (m : Making) (is : List ItemTree) (n : Making) : Type 0 where
  made : List Valued
  follow : Follow s cs avoided naming next m.fields start is made
  terms : n.terms ≡ m.terms ++ values_of made
  fields : n.fields ≡ m.fields ++ columns_of made

none_put : (s : Names) (cs avoided : List Field) (naming : Naming) (next : ℕ → ItemTree → ℕ) (start : ℕ) (m n : Making) → m ≡ n
    → ArePut s cs avoided naming next start m [] n
none_put s cs avoided naming next start m n e = subst (ArePut s cs avoided naming next start m []) e (record {
  made = [];
  follow = tt;
  terms = sym (append-nil m.terms);
  fields = sym (append-nil m.fields);
})

more_put : (s : Names) (cs avoided : List Field) (naming : Naming) (next : ℕ → ItemTree → ℕ) (start : ℕ) (m k : Making) (i : ItemTree) (is : List ItemTree)
    (n : Making) → IsPut s cs avoided (naming start (expression_of i)) m i k → ArePut s cs avoided naming next (next start i) k is n
    → ArePut s cs avoided naming next start m (i ∷ is) n
more_put s cs avoided naming next start m k i is n p rest = record {
  made = p.made ∷ rest.made;
  follow = (p.is, subst (λ fs. Follow s cs avoided naming next fs (next start i) is rest.made) p.fields rest.follow);
  terms = rest.terms ∙ ap (λ z. z ++ values_of rest.made) p.terms ∙ append_assoc m.terms (value_of p.made ∷ []) (values_of rest.made);
  fields = rest.fields ∙ ap (λ z. z ++ columns_of rest.made) p.fields ∙ append_assoc m.fields (column_of p.made ∷ []) (columns_of rest.made);
}

-- ---- items of extend, project and by

abbrev own_naming : List ℕ → List Field → Naming
own_naming text cs n e = or_numbered (default_name text cs e) (n + 1)

abbrev counting : List ℕ → List Field → ℕ → ItemTree → ℕ
counting text cs n i = n + one_if (is_unnamed text cs i)

-- a column more, and the count with it
abbrev IsCounted : Names → List Field → List Field → Making → ItemTree → Making → Type 0
IsCounted s cs avoided m i n = IsPut s cs avoided (own_naming s.text cs m.unnamed (expression_of i)) m i n × (n.unnamed ≡ counting s.text cs m.unnamed i)

own_put : (s : Names) (cs avoided : List Field) (m : Making) (e : Tree) (x : Bound) → HaveRoom m.fields avoided → bound s cs e ≡ Ok x
    → IsCounted s cs avoided m (plain e) (put_own avoided m x (default_name s.text cs e))
own_put s cs avoided m e x room is = by (default_name s.text cs e) where
  by : (o : Option (List ℕ)) → IsPut s cs avoided (or_numbered o (m.unnamed + 1)) m (plain e) (put_own avoided m x o)
      × ((put_own avoided m x o).unnamed ≡ m.unnamed + one_if (is_none o))
  by (Some name) = (put_free s cs avoided m m.unnamed e x name room is, sym (add-zero m.unnamed))
  by None = (put_free s cs avoided m (m.unnamed + 1) e x (numbered (codes "Column") (m.unnamed + 1)) room is, refl)

item_put : (s : Names) (cs avoided : List Field) (keys : Bool) (m : Making) (i : ItemTree) (n : Making) → HaveRoom m.fields avoided
    → item_made s cs avoided keys m i ≡ Ok n → IsCounted s cs avoided m i n
item_put s cs avoided keys m (plain e) n room is =
    let x = then_ok (operand s cs keys e) (λ x. done (put_own avoided m x (default_name s.text cs e))) n is in
    subst (IsCounted s cs avoided m (plain e)) (done_is (put_own avoided m x.0 (default_name s.text cs e)) n x.2)
    (own_put s cs avoided m e x.0 room (operand_bound s cs keys e x.0 x.1))
item_put s cs avoided keys m (named g e) n room is =
    let x = then_ok (operand s cs keys e) (λ x. put_given s.text m x g) n is in
    let p = put_said s cs avoided (own_naming s.text cs m.unnamed e) m e x.0 g n (operand_bound s cs keys e x.0 x.1) x.2 in
    (p.0, sym p.1 ∙ sym (add-zero m.unnamed))

-- so many columns more have room
abbrev HasRoom : ℕ → Making → List Field → Type 0
HasRoom more m avoided = length m.fields + more + length avoided + 2 ≤ 2 ^ 64

room_here : (more : ℕ) (m : Making) (avoided : List Field) → HasRoom (suc more) m avoided → HaveRoom m.fields avoided
room_here more m avoided h = omega (arith, h)

room_after : (more : ℕ) (m n : Making) (f : Field) (avoided : List Field) → n.fields ≡ m.fields ++ f ∷ [] → HasRoom (suc more) m avoided → HasRoom more n avoided
room_after more m n f avoided e h =
    let long : length n.fields ≡ length m.fields + 1 = ap length e ∙ length-append m.fields (f ∷ []) in
    omega (arith, long, h)

items_put : (s : Names) (cs avoided : List Field) (keys : Bool) (m : Making) (is : List ItemTree) (n : Making) → HasRoom (length is) m avoided
    → items_made s cs avoided keys m is ≡ Ok n → ArePut s cs avoided (own_naming s.text cs) (counting s.text cs) m.unnamed m is n
items_put s cs avoided keys m [] n room e = none_put s cs avoided (own_naming s.text cs) (counting s.text cs) m.unnamed m n (done_is m n e)
items_put s cs avoided keys m (i ∷ is) n room e =
    let k = then_ok (item_made s cs avoided keys m i) (λ k. items_made s cs avoided keys k is) n e in
    let p = item_put s cs avoided keys m i k.0 (room_here (length is) m avoided room) k.1 in
    let rest = items_put s cs avoided keys k.0 is n (room_after (length is) m k.0 (column_of p.0.made) avoided p.0.fields room) k.2 in
    more_put s cs avoided (own_naming s.text cs) (counting s.text cs) m.unnamed m k.0 i is n p.0
    (subst (λ start. ArePut s cs avoided (own_naming s.text cs) (counting s.text cs) start k.0 is n) p.1 rest)

-- ---- items of print

abbrev onward : ℕ → ItemTree → ℕ
onward n i = n + 1

printed_put : (s : Names) (start : ℕ) (m : Making) (i : ItemTree) (n : Making) → HaveRoom m.fields [] → item_printed s start m i ≡ Ok n
    → IsPut s [] [] (place_name start (expression_of i)) m i n
printed_put s start m (plain e) n room is =
    let x = then_ok (bound s [] e) (λ x. done (put_default [] m x (position_name start))) n is in
    subst (IsPut s [] [] (place_name start e) m (plain e)) (done_is (put_default [] m x.0 (position_name start)) n x.2)
    (put_free s [] [] m m.unnamed e x.0 (position_name start) room x.1)
printed_put s start m (named g e) n room is =
    let x = then_ok (bound s [] e) (λ x. put_given s.text m x g) n is in
    (put_said s [] [] (place_name start e) m e x.0 g n x.1 x.2).0

all_printed : (s : Names) (start : ℕ) (m : Making) (is : List ItemTree) (n : Making) → HasRoom (length is) m [] → items_printed s start m is ≡ Ok n
    → ArePut s [] [] place_name onward start m is n
all_printed s start m [] n room e = none_put s [] [] place_name onward start m n (done_is m n e)
all_printed s start m (i ∷ is) n room e =
    let k = then_ok (item_printed s start m i) (λ k. items_printed s (start + 1) k is) n e in
    let p = printed_put s start m i k.0 (room_here (length is) m [] room) k.1 in
    let rest = all_printed s (start + 1) k.0 is n (room_after (length is) m k.0 (column_of p.made) [] p.fields room) k.2 in
    more_put s [] [] place_name onward start m k.0 i is n p rest

-- ---- each at its place

abbrev reach : (ℕ → ItemTree → ℕ) → ℕ → List ItemTree → ℕ
reach next n [] = n
reach next n (i ∷ is) = reach next (next n i) is

each_follows : (s : Names) (cs avoided : List Field) (naming : Naming) (next : ℕ → ItemTree → ℕ) (before : List Field) (n : ℕ) (items : List ItemTree) (made : List Valued)
    → Follow s cs avoided naming next before n items made → (j : ℕ) (i : ItemTree) (x : Valued) → slice_get items j ≡ Some i → slice_get made j ≡ Some x
    → IsItem s cs avoided (before ++ columns_of (take j made)) (naming (reach next n (take j items)) (expression_of i)) i x
each_follows s cs avoided naming next before n [] made h j i x e f = absurd (cc)
each_follows s cs avoided naming next before n (y ∷ is) [] h j i x e f = absurd h
each_follows s cs avoided naming next before n (y ∷ is) (z ∷ zs) h zero i x e f =
    let same : y ≡ i = cc in
    let one : z ≡ x = cc in
    let here = subst (λ b. IsItem s cs avoided b (naming n (expression_of y)) y z) (sym (append-nil before)) h.0 in
    subst (λ (a : ItemTree). IsItem s cs avoided (before ++ []) (naming n (expression_of a)) a x) same
    (subst (λ (b : Valued). IsItem s cs avoided (before ++ []) (naming n (expression_of y)) y b) one here)
each_follows s cs avoided naming next before n (y ∷ is) (z ∷ zs) h (suc j) i x e f =
    subst (λ b. IsItem s cs avoided b (naming (reach next (next n y) (take j is)) (expression_of i)) i x)
    (append_assoc before (column_of z ∷ []) (columns_of (take j zs)))
    (each_follows s cs avoided naming next (before ++ column_of z ∷ []) (next n y) is zs h.1 j i x e f)

follow_length : (s : Names) (cs avoided : List Field) (naming : Naming) (next : ℕ → ItemTree → ℕ) (before : List Field) (n : ℕ) (items : List ItemTree) (made : List Valued)
    → Follow s cs avoided naming next before n items made → length made ≡ length items
follow_length s cs avoided naming next before n [] [] h = refl
follow_length s cs avoided naming next before n [] (x ∷ xs) h = absurd h
follow_length s cs avoided naming next before n (i ∷ is) [] h = absurd h
follow_length s cs avoided naming next before n (i ∷ is) (x ∷ xs) h =
    ap (λ k. suc k) (follow_length s cs avoided naming next (before ++ column_of x ∷ []) (next n i) is xs h.1)

-- ---- different names

name_apart : (text : List ℕ) (before avoided : List Field) (base : List ℕ) (i : ItemTree) (name : List ℕ) → IsItemName text before avoided base i name
    → is_taken before name ≡ false
name_apart text before avoided base (plain e) name h = made_apart before avoided base name h
name_apart text before avoided base (named g e) name h = unnamed_free before name h.1

follow_apart : (s : Names) (cs avoided : List Field) (naming : Naming) (next : ℕ → ItemTree → ℕ) (before : List Field) (n : ℕ) (items : List ItemTree) (made : List Valued)
    → Follow s cs avoided naming next before n items made → Apart before → Apart (before ++ columns_of made)
follow_apart s cs avoided naming next before n [] [] h before_apart = subst Apart (sym (append-nil before)) before_apart
follow_apart s cs avoided naming next before n [] (x ∷ xs) h before_apart = absurd h
follow_apart s cs avoided naming next before n (i ∷ is) [] h before_apart = absurd h
follow_apart s cs avoided naming next before n (i ∷ is) (x ∷ xs) h before_apart =
    let new = name_apart s.text before avoided (naming n (expression_of i)) i (column_of x).name h.0.name in
    subst Apart (append_assoc before (column_of x ∷ []) (columns_of xs))
    (follow_apart s cs avoided naming next (before ++ column_of x ∷ []) (next n i) is xs h.1 (apart_behind before (column_of x) before_apart new))

-- ---- all items

pub record MadeItems (s : Names) (cs avoided : List Field) (base : ℕ → Tree → List ℕ) (items : List ItemTree) (n : Making) : Type 0 where
  pub made : List Valued
  pub are : AreItems s cs avoided base items made
  pub apart : Apart (columns_of made)
  pub terms : n.terms ≡ values_of made
  pub fields : n.fields ≡ columns_of made

all_made : (s : Names) (cs avoided : List Field) (naming : Naming) (next : ℕ → ItemTree → ℕ) (base : ℕ → Tree → List ℕ) (items : List ItemTree) (n : Making)
    → ((j : ℕ) (i : ItemTree) → slice_get items j ≡ Some i → naming (reach next 0 (take j items)) (expression_of i) ≡ base j (expression_of i))
    → ArePut s cs avoided naming next 0 nothing_made items n → MadeItems s cs avoided base items n
all_made s cs avoided naming next base items n same p =
    let apart = follow_apart s cs avoided naming next [] 0 items p.made p.follow tt in
    let are : AreItems s cs avoided base items p.made = record {
      all = follow_length s cs avoided naming next [] 0 items p.made p.follow;
      each = λ j i x e f. subst (λ b. IsItem s cs avoided (columns_of (take j p.made)) b i x) (same j i e)
          (each_follows s cs avoided naming next [] 0 items p.made p.follow j i x e f);
      different = apart_different (columns_of p.made) apart;
    } in
    record { made = p.made; are = are; apart = apart; terms = p.terms; fields = p.fields }

reach_counted : (text : List ℕ) (cs : List Field) (n : ℕ) (items : List ItemTree)
    → reach (counting text cs) n items ≡ n + length (filter (is_unnamed text cs) items)
reach_counted text cs n [] = sym (add-zero n)
reach_counted text cs n (i ∷ is) = reach_counted text cs (counting text cs n i) is ∙ by (is_unnamed text cs i) where
  more : List ItemTree
  more = filter (is_unnamed text cs) is

  by : (b : Bool) → n + one_if b + length more ≡ n + length (cond b (i ∷ more) more)
  by true = omega arith
  by false = omega arith

reach_onward : (n : ℕ) (items : List ItemTree) → reach onward n items ≡ n + length items
reach_onward n [] = sym (add-zero n)
reach_onward n (i ∷ is) = let more = reach_onward (n + 1) is in omega (arith, more)

taken_length : (items : List ItemTree) (j : ℕ) (i : ItemTree) → slice_get items j ≡ Some i → length (take j items) ≡ j
taken_length [] j i e = absurd (cc)
taken_length (x ∷ items) zero i e = refl
taken_length (x ∷ items) (suc j) i e = ap (λ k. suc k) (taken_length items j i e)

few_room : (items : List ItemTree) (avoided : List Field) → AreFew items avoided → HasRoom (length items) nothing_made avoided
few_room items avoided few = omega (arith, few)

pub items_are : (s : Names) (cs avoided : List Field) (keys : Bool) (items : List ItemTree) (n : Making) → AreFew items avoided
    → items_made s cs avoided keys nothing_made items ≡ Ok n → MadeItems s cs avoided (own_name s.text cs items) items n
items_are s cs avoided keys items n few e =
    all_made s cs avoided (own_naming s.text cs) (counting s.text cs) (own_name s.text cs items) items n
    (λ j i at. ap (λ k. or_numbered (default_name s.text cs (expression_of i)) (k + 1)) (reach_counted s.text cs 0 (take j items) ∙ zero-add (length (filter (is_unnamed s.text cs) (take j items)))))
    (items_put s cs avoided keys nothing_made items n (few_room items avoided few) e)

pub printed_are : (s : Names) (items : List ItemTree) (n : Making) → AreFew items [] → printed s items ≡ Ok n → MadeItems s [] [] place_name items n
printed_are s items n few e =
    all_made s [] [] place_name onward place_name items n
    (λ j i at. ap (λ k. place_name k (expression_of i)) (reach_onward 0 (take j items) ∙ zero-add (length (take j items)) ∙ taken_length items j i at))
    (all_printed s 0 nothing_made items n (few_room items [] few) e)
