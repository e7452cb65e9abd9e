-- The columns that items make have terms of their types, and keys are no dynamics.
use Rattle.std.proofs.Common.{◌≡◌, ◌≢◌, ℕ, ◌+◌, Bool, true, false, cond, List, [], ◌∷◌, ◌++◌, Option, Some, None, Ok, Err, refl, subst}
use Rattle.std.specs.Prelude.{codes}
use Rattle.std.proofs.lemmas.List.Elements.{All-nil, All-cons, All-append}
use Rattle.kq_bind_columns.specs.Defaults.{first_token, default_name}
use Rattle.kq_bind_columns.specs.Items.{field, Making, nothing_made, put, put_default, put_own, put_given, as_key, operand, item_made, items_made}
use Rattle.kq_bind_columns.specs.Naming.{is_taken, free_name, numbered}
use Rattle.kq_bind_columns.specs.Printed.{position_name, item_printed, items_printed, printed}
use Rattle.kq_bind_expressions.specs.Bound.{bound}
use Rattle.kq_bind_expressions.specs.Names.{Names}
use Rattle.kq_bind_expressions.specs.Verdicts.{Verdict, mistyped}
use Rattle.kq_bind_expressions.proofs.WellTyped.{bound_has, bound_proper}
use Rattle.kq_plan_expressions.specs.Terms.{Bound}
use Rattle.kq_read_grammar.specs.declared.expression.Name.{Name}
use Rattle.kq_read_grammar.specs.Trees.{Tree, ItemTree, plain, named}
use Rattle.kq_plan.specs.Fits.{IsTyped, AreTyped}
use Rattle.kq_read_meanings.specs.Names.{name_said, name_place}
use Rattle.kq_value.specs.declared.schema.Field.{Field}
use Rattle.kq_value.specs.declared.ty.Ty.TheVariants as ty
use Rattle.kq_value.specs.Ty.{same_ty}
use Rattle.kq_bind_query.proofs.Progress.{then_ok, done, done_is}
use Rattle.kq_bind_query.proofs.Columns.{IsNoDynamic, IfKey, IfKeys, differs, typed_behind}

pub bound_typed : (s : Names) (cs : List Field) (e : Tree) (x : Bound) → bound s cs e ≡ Ok x → IsTyped s.lets cs x.0 x.1
bound_typed s cs e x is = (bound_has s cs e x is, bound_proper s cs e x is)

-- ---- keys

keys_behind : (keys : Bool) (fs : List Field) (f : Field) → IfKeys keys fs → IfKey keys f.ty → IfKeys keys (fs ++ f ∷ [])
keys_behind true fs f h is = All-append IsNoDynamic fs (f ∷ []) h (All-cons IsNoDynamic f [] is (All-nil IsNoDynamic))
keys_behind false fs f h is = tt

no_keys : (keys : Bool) → IfKeys keys []
no_keys true = All-nil IsNoDynamic
no_keys false = tt

key_ok : (keys : Bool) (at : ℕ) (y x : Bound) → as_key keys at y ≡ Ok x → (y ≡ x) × IfKey keys x.1
key_ok false at y x e = (done_is y x e, tt)
key_ok true at y x e = by (same_ty y.1 ty.Dynamic) refl e where
  by : (b : Bool) → same_ty y.1 ty.Dynamic ≡ b → cond {A = Verdict Bound} b (Err (mistyped at)) (done y) ≡ Ok x → (y ≡ x) × (x.1 ≢ ty.Dynamic)
  by true same g = absurd (cc)
  by false same g = let is = done_is y x g in (is, subst (λ (z : Bound). z.1 ≢ ty.Dynamic) is (differs y.1 ty.Dynamic same))

pub operand_typed : (s : Names) (cs : List Field) (keys : Bool) (e : Tree) (x : Bound) → operand s cs keys e ≡ Ok x → IsTyped s.lets cs x.0 x.1 × IfKey keys x.1
operand_typed s cs keys e x is =
    let y = then_ok (bound s cs e) (as_key keys (first_token e)) x is in
    let k = key_ok keys (first_token e) y.0 x y.2 in
    (subst (λ (z : Bound). IsTyped s.lets cs z.0 z.1) k.0 (bound_typed s cs e y.0 y.1), k.1)

-- ---- what is made

pub record IsMade (lets from : List Field) (keys : Bool) (m : Making) : Type 0 where
  pub typed : AreTyped lets from m.terms m.fields
  pub keyed : IfKeys keys m.fields

pub nothing_is_made : (lets from : List Field) (keys : Bool) → IsMade lets from keys nothing_made
nothing_is_made lets from keys = record { typed = tt; keyed = no_keys keys }

put_good : (lets from : List Field) (keys : Bool) (m : Making) (unnamed : ℕ) (x : Bound) (name : List ℕ) → IsMade lets from keys m
    → IsTyped lets from x.0 x.1 × IfKey keys x.1 → IsMade lets from keys (put m unnamed x name)
put_good lets from keys m unnamed x name h is = record {
  typed = typed_behind lets from m.terms m.fields x.0 (field name x.1) h.typed is.0;
  keyed = keys_behind keys m.fields (field name x.1) h.keyed is.1;
}

own_good : (lets from : List Field) (keys : Bool) (avoided : List Field) (m : Making) (x : Bound) (o : Option (List ℕ)) → IsMade lets from keys m
    → IsTyped lets from x.0 x.1 × IfKey keys x.1 → IsMade lets from keys (put_own avoided m x o)
own_good lets from keys avoided m x (Some name) h is = put_good lets from keys m m.unnamed x (free_name m.fields avoided name) h is
own_good lets from keys avoided m x None h is =
    put_good lets from keys m (m.unnamed + 1) x (free_name m.fields avoided (numbered (codes "Column") (m.unnamed + 1))) h is

given_good : (lets from : List Field) (keys : Bool) (text : List ℕ) (m : Making) (x : Bound) (g : Name) (n : Making) → IsMade lets from keys m
    → IsTyped lets from x.0 x.1 × IfKey keys x.1 → put_given text m x g ≡ Ok n → IsMade lets from keys n
given_good lets from keys text m x g n h is e = by (is_taken m.fields (name_said text g)) e where
  by : (b : Bool) → cond {A = Verdict Making} b (Err (mistyped (name_place g))) (done (put m m.unnamed x (name_said text g))) ≡ Ok n → IsMade lets from keys n
  by true k = absurd (cc)
  by false k =
      subst (IsMade lets from keys) (done_is (put m m.unnamed x (name_said text g)) n k) (put_good lets from keys m m.unnamed x (name_said text g) h is)

item_good : (s : Names) (cs avoided : List Field) (keys : Bool) (m : Making) (i : ItemTree) (n : Making) → IsMade s.lets cs keys m
    → item_made s cs avoided keys m i ≡ Ok n → IsMade s.lets cs keys n
item_good s cs avoided keys m (plain e) n h is =
    let x = then_ok (operand s cs keys e) (λ x. done (put_own avoided m x (default_name s.text cs e))) n is in
    subst (IsMade s.lets cs keys) (done_is (put_own avoided m x.0 (default_name s.text cs e)) n x.2)
    (own_good s.lets cs keys avoided m x.0 (default_name s.text cs e) h (operand_typed s cs keys e x.0 x.1))
item_good s cs avoided keys m (named g e) n h is =
    let x = then_ok (operand s cs keys e) (λ x. put_given s.text m x g) n is in
    given_good s.lets cs keys s.text m x.0 g n h (operand_typed s cs keys e x.0 x.1) x.2

pub items_good : (s : Names) (cs avoided : List Field) (keys : Bool) (m : Making) (is : List ItemTree) (n : Making) → IsMade s.lets cs keys m
    → items_made s cs avoided keys m is ≡ Ok n → IsMade s.lets cs keys n
items_good s cs avoided keys m [] n h e = subst (IsMade s.lets cs keys) (done_is m n e) h
items_good s cs avoided keys m (i ∷ is) n h e =
    let k = then_ok (item_made s cs avoided keys m i) (λ k. items_made s cs avoided keys k is) n e in
    items_good s cs avoided keys k.0 is n (item_good s cs avoided keys m i k.0 h k.1) k.2

-- ---- what is printed

printed_item : (s : Names) (i : ℕ) (m : Making) (item : ItemTree) (n : Making) → IsMade s.lets [] false m → item_printed s i m item ≡ Ok n
    → IsMade s.lets [] false n
printed_item s i m (plain e) n h is =
    let x = then_ok (bound s [] e) (λ x. done (put_default [] m x (position_name i))) n is in
    subst (IsMade s.lets [] false) (done_is (put_default [] m x.0 (position_name i)) n x.2)
    (put_good s.lets [] false m m.unnamed x.0 (free_name m.fields [] (position_name i)) h (bound_typed s [] e x.0 x.1, tt))
printed_item s i m (named g e) n h is =
    let x = then_ok (bound s [] e) (λ x. put_given s.text m x g) n is in
    given_good s.lets [] false s.text m x.0 g n h (bound_typed s [] e x.0 x.1, tt) x.2

printed_items : (s : Names) (i : ℕ) (m : Making) (is : List ItemTree) (n : Making) → IsMade s.lets [] false m → items_printed s i m is ≡ Ok n
    → IsMade s.lets [] false n
printed_items s i m [] n h e = subst (IsMade s.lets [] false) (done_is m n e) h
printed_items s i m (x ∷ is) n h e =
    let k = then_ok (item_printed s i m x) (λ k. items_printed s (i + 1) k is) n e in
    printed_items s (i + 1) k.0 is n (printed_item s i m x k.0 h k.1) k.2

pub printed_good : (s : Names) (is : List ItemTree) (n : Making) → printed s is ≡ Ok n → IsMade s.lets [] false n
printed_good s is n e = printed_items s 0 nothing_made is n (nothing_is_made s.lets [] false) e
