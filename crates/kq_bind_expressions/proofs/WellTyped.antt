-- What an expression is bound to has the type that is said: each call within has a line of the table as it stands.
use Rattle.std.proofs.Common.{◌≡◌, ℕ, suc, ◌+◌, Bool, true, false, cond, List, [], ◌∷◌, map, Option, Some, None, Ok, Err, refl, sym, ap, ◌∙◌, subst, arith, zero-add, add-zero}
use Rattle.std.specs.Prelude.{nat_eq, option_map}
use Rattle.std.specs.Cmp.Lexicographic.{pointwise}
use Rattle.kq_value.specs.declared.schema.Field.{Field}
use Rattle.kq_value.specs.declared.ty.Ty.{Ty}
use Rattle.kq_value.specs.declared.ty.Ty.TheVariants as ty
use Rattle.kq_value.specs.declared.value.Value.{Value}
use Rattle.kq_plan_functions.specs.declared.function.Function.{Function}
use Rattle.kq_plan_functions.specs.declared.function.Function.TheVariants as f
use Rattle.kq_plan_functions.specs.Table.{typing, given, widened, widens, as_it_is, when_widened}
use Rattle.kq_read_grammar.specs.declared.expression.Name.{Name}
use Rattle.kq_read_meanings.specs.Literals.{literal_value}
use Rattle.kq_read_meanings.specs.Names.{name_said, name_place}
use Rattle.kq_read_meanings.proofs.Proper.{literal_proper}
use Rattle.kq_value.specs.Typed.{IsProper}
use Rattle.kq_read_symbols.specs.declared.kind.Symbol.{Symbol}
use Rattle.kq_bind_expressions.specs.Names.{Names}
use Rattle.kq_read_grammar.specs.Trees.{Precedence, Tree, name, literal, group, call, path, signed, compare, within, between, chain, Trees, no_tree, and_tree, Links, no_link, and_link, OneStep, member, index, Steps, no_step, and_step}
use Rattle.kq_plan_expressions.specs.Terms.{column, cell, call as called, Terms, terms_of, Bound}
use Rattle.kq_bind_expressions.specs.Verdicts.{Fault, unsupported, unknown, Verdict, and_then, or_fault}
use Rattle.kq_bind_expressions.specs.Lookup.{first_named, made, or_else, meant, named}
use Rattle.kq_bind_expressions.specs.Apply.{as_taken, type_of, called_as, applied, apply}
use Rattle.kq_bind_expressions.specs.Bound.{bound, bounds, chained, stepped, walked, function_of, literal_of, member_name, constant_of}
use Rattle.kq_bind_expressions.specs.Operators.{sign, comparison, membership, interval, operation}
use Rattle.kq_plan_expressions.specs.HasType.{IsPlace, Has, Have, HoldsProper, AllHoldProper}

-- ---- what is bound has what it needs

-- the type that is said, and literals that a row may hold
abbrev Good : Names → List Field → Bound → Type 0
Good s cs x = Has s.lets cs x.0 x.1 × HoldsProper x.0

abbrev AllGood : Names → List Field → List Bound → Type 0
AllGood s cs [] = Unit {0}
AllGood s cs (x ∷ xs) = Good s cs x × AllGood s cs xs

then_ok : {A B : Type 0} (v : Verdict A) (k : A → Verdict B) (y : B) → and_then v k ≡ Ok y → (x : A) × (v ≡ Ok x) × (k x ≡ Ok y)
then_ok (Ok x) k y e = (x, refl, e)
then_ok (Err b) k y e = absurd (cc)

-- ---- calls

abbrev Taken : Names → List Field → Terms → List Ty → Type 0
Taken s cs es ts = Have s.lets cs es ts × AllHoldProper es

kept_good : (s : Names) (cs : List Field) (xs : List Bound) → AllGood s cs xs → Taken s cs (terms_of (map (as_taken false) xs)) (map type_of xs)
kept_good s cs [] h = (tt, tt)
kept_good s cs (x ∷ xs) h = let r = kept_good s cs xs h.1 in ((h.0.0, r.0), (h.0.1, r.1))

wide_one : (s : Names) (cs : List Field) (x : Bound) → Good s cs x → Has s.lets cs (as_taken true x) (widened x.1) × HoldsProper (as_taken true x)
wide_one s cs (e, ty.Int) h = ((ty.Int ∷ [], (h.0, tt), refl), (h.1, tt))
wide_one s cs (e, ty.Long) h = h
wide_one s cs (e, ty.Text) h = h
wide_one s cs (e, ty.Bool) h = h
wide_one s cs (e, ty.Moment) h = h
wide_one s cs (e, ty.Span) h = h
wide_one s cs (e, ty.Dynamic) h = h

wide_good : (s : Names) (cs : List Field) (xs : List Bound) → AllGood s cs xs → Taken s cs (terms_of (map (as_taken true) xs)) (map widened (map type_of xs))
wide_good s cs [] h = (tt, tt)
wide_good s cs (x ∷ xs) h = let o = wide_one s cs x h.0 in let r = wide_good s cs xs h.1 in ((o.0, r.0), (o.1, r.1))

-- by what the table says of the arguments as they are, and of them widened
chosen_good : (s : Names) (cs : List Field) (g : Function) (at : ℕ) (xs : List Bound) (x : Bound) (o u : Option Ty) (w : Bool)
    → given (typing g) (map type_of xs) ≡ o → given (typing g) (map widened (map type_of xs)) ≡ u → AllGood s cs xs
    → called_as g at xs (as_it_is o (when_widened w u)) ≡ Ok x → Good s cs x
chosen_good s cs g at xs x (Some t) u w a b h e =
    let is : (called g (terms_of (map (as_taken false) xs)), t) ≡ x = cc in
    subst (Good s cs) is (let t = kept_good s cs xs h in ((map type_of xs, t.0, a), t.1))
chosen_good s cs g at xs x None (Some t) true a b h e =
    let is : (called g (terms_of (map (as_taken true) xs)), t) ≡ x = cc in
    subst (Good s cs) is (let t = wide_good s cs xs h in ((map widened (map type_of xs), t.0, b), t.1))
chosen_good s cs g at xs x None (Some t) false a b h e = absurd (cc)
chosen_good s cs g at xs x None None true a b h e = absurd (cc)
chosen_good s cs g at xs x None None false a b h e = absurd (cc)

applied_good : (s : Names) (cs : List Field) (g : Function) (at : ℕ) (xs : List Bound) (x : Bound) → AllGood s cs xs → applied g at xs ≡ Ok x → Good s cs x
applied_good s cs g at xs x h e = chosen_good s cs g at xs x (given (typing g) (map type_of xs)) (given (typing g) (map widened (map type_of xs))) (widens (typing g)) refl refl h e

-- ---- names

place_is : (j : ℕ) (cs : List Field) (w : List ℕ) (p : ℕ × Ty) → first_named j cs w ≡ Some p → (i : ℕ) × (p.0 ≡ i + j) × IsPlace cs i p.1
place_is j [] w p e = absurd (cc)
place_is j (c ∷ cs) w p e = by (pointwise nat_eq c.name w) (λ g. place_is (suc j) cs w p g) e
  where
    by : (b : Bool) → (first_named (suc j) cs w ≡ Some p → (i : ℕ) × (p.0 ≡ i + suc j) × IsPlace cs i p.1) → cond b (Some (j, c.ty)) (first_named (suc j) cs w) ≡ Some p → (i : ℕ) × (p.0 ≡ i + j) × IsPlace (c ∷ cs) i p.1
    by true more g = let is : (j, c.ty) ≡ p = cc in (0, sym (ap (λ (z : ℕ × Ty). z.0) is) ∙ sym (zero-add j), ap (λ (z : ℕ × Ty). z.1) is)
    by false more g = let r = more g in let n : r.0 + suc j ≡ suc r.0 + j = omega arith in (suc r.0, r.1 ∙ n, r.2)

-- what is found among these is there
found_there : (cs : List Field) (w : List ℕ) (p : ℕ × Ty) → first_named 0 cs w ≡ Some p → IsPlace cs p.0 p.1
found_there cs w p e =
    let r = place_is 0 cs w p e in
    let is : r.0 ≡ p.0 = sym (r.1 ∙ add-zero r.0) in
    subst (λ i. IsPlace cs i p.1) is r.2

-- a column, else a scalar let
meant_good : (s : Names) (cs : List Field) (w : List ℕ) (x : Bound) (o u : Option (ℕ × Ty)) → first_named 0 cs w ≡ o → first_named 0 s.lets w ≡ u
    → or_else (option_map (made column) o) (option_map (made cell) u) ≡ Some x → Good s cs x
meant_good s cs w x (Some p) u a b e = let is : made column p ≡ x = cc in subst (Good s cs) is (found_there cs w p a, tt)
meant_good s cs w x None (Some p) a b e = let is : made cell p ≡ x = cc in subst (Good s cs) is (found_there s.lets w p b, tt)
meant_good s cs w x None None a b e = absurd (cc)

found_ok : {A : Type 0} (g : Fault) (o : Option A) (x : A) → or_fault g o ≡ Ok x → o ≡ Some x
found_ok g (Some y) x e = cc
found_ok g None x e = absurd (cc)

named_good : (s : Names) (cs : List Field) (n : Name) (x : Bound) → named s cs n ≡ Ok x → Good s cs x
named_good s cs n x e =
    let w = name_said s.text n in
    meant_good s cs w x (first_named 0 cs w) (first_named 0 s.lets w) refl refl (found_ok (unknown (name_place n)) (meant s cs w) x e)

-- a literal's value is one of its type
constant_good : (s : Names) (cs : List Field) (o : Option Value) (x : Bound) → ((v : Value) → o ≡ Some v → IsProper v) → option_map constant_of o ≡ Some x → Good s cs x
constant_good s cs (Some v) x h e = let is : constant_of v ≡ x = cc in subst (Good s cs) is (refl, h v refl)
constant_good s cs None x h e = absurd (cc)

literal_good : (s : Names) (cs : List Field) (t : Symbol) (x : Bound) → literal_of s t ≡ Ok x → Good s cs x
literal_good s cs t x e =
    constant_good s cs (literal_value s.text t) x (literal_proper s.text t) (found_ok (unsupported t.from) (option_map constant_of (literal_value s.text t)) x e)

-- ---- operands in their order

one_good : (s : Names) (cs : List Field) (g : Function) (at : ℕ) (v : Verdict Bound) (x : Bound) → ((y : Bound) → v ≡ Ok y → Good s cs y) → apply g at (v ∷ []) ≡ Ok x → Good s cs x
one_good s cs g at (Ok y) x h e = applied_good s cs g at (y ∷ []) x (h y refl, tt) e
one_good s cs g at (Err b) x h e = absurd (cc)

two_good : (s : Names) (cs : List Field) (g : Function) (at : ℕ) (u v : Verdict Bound) (x : Bound) → ((y : Bound) → u ≡ Ok y → Good s cs y) → ((y : Bound) → v ≡ Ok y → Good s cs y) → apply g at (u ∷ v ∷ []) ≡ Ok x → Good s cs x
two_good s cs g at (Ok y) (Ok z) x h k e = applied_good s cs g at (y ∷ z ∷ []) x (h y refl, (k z refl, tt)) e
two_good s cs g at (Err b) v x h k e = absurd (cc)
two_good s cs g at (Ok y) (Err b) x h k e = absurd (cc)

three_good : (s : Names) (cs : List Field) (g : Function) (at : ℕ) (u v w : Verdict Bound) (x : Bound) → ((y : Bound) → u ≡ Ok y → Good s cs y) → ((y : Bound) → v ≡ Ok y → Good s cs y) → ((y : Bound) → w ≡ Ok y → Good s cs y) → apply g at (u ∷ v ∷ w ∷ []) ≡ Ok x → Good s cs x
three_good s cs g at (Ok y) (Ok z) (Ok a) x h k l e = applied_good s cs g at (y ∷ z ∷ a ∷ []) x (h y refl, (k z refl, (l a refl, tt))) e
three_good s cs g at (Err b) v w x h k l e = absurd (cc)
three_good s cs g at (Ok y) (Err b) w x h k l e = absurd (cc)
three_good s cs g at (Ok y) (Ok z) (Err b) x h k l e = absurd (cc)

abbrev bare : {A : Type 0} → A → Verdict A
bare x = Ok x

ok_is : {A : Type 0} (x y : A) → bare x ≡ Ok y → x ≡ y
ok_is x y e = cc

ok_good : (s : Names) (cs : List Field) (x y : Bound) → Good s cs x → bare x ≡ Ok y → Good s cs y
ok_good s cs x y h e = subst (Good s cs) (ok_is x y e) h

mutual
  bound_good : (s : Names) (cs : List Field) (e : Tree) (x : Bound) → bound s cs e ≡ Ok x → Good s cs x
  bound_good s cs (name n) x e = named_good s cs n x e
  bound_good s cs (literal t) x e = literal_good s cs t x e
  bound_good s cs (group t a) x e = bound_good s cs a x e
  bound_good s cs (call t es) x e =
      let g = then_ok (function_of s t) (λ g. and_then (bounds s cs es) (applied g t.from)) x e in
      let xs = then_ok (bounds s cs es) (applied g.0 t.from) x g.2 in
      applied_good s cs g.0 t.from xs.0 x (bounds_good s cs es xs.0 xs.1) xs.2
  bound_good s cs (path a p ps) x e =
      let y = then_ok (bound s cs a) (λ y. and_then (stepped s cs y p) (λ z. walked s cs z ps)) x e in
      let z = then_ok (stepped s cs y.0 p) (λ z. walked s cs z ps) x y.2 in
      walked_good s cs z.0 ps x (stepped_good s cs y.0 p z.0 (bound_good s cs a y.0 y.1) z.1) z.2
  bound_good s cs (signed t a) x e = one_good s cs (sign t.kind) t.from (bound s cs a) x (bound_good s cs a) e
  bound_good s cs (compare a t b) x e = two_good s cs (comparison t.kind) t.from (bound s cs a) (bound s cs b) x (bound_good s cs a) (bound_good s cs b) e
  bound_good s cs (within a t b es) x e =
      let y = then_ok (bound s cs a) (λ y. and_then (bound s cs b) (λ z. and_then (bounds s cs es) (λ zs. applied (membership t.kind) t.from (y ∷ z ∷ zs)))) x e in
      let z = then_ok (bound s cs b) (λ z. and_then (bounds s cs es) (λ zs. applied (membership t.kind) t.from (y.0 ∷ z ∷ zs))) x y.2 in
      let zs = then_ok (bounds s cs es) (λ zs. applied (membership t.kind) t.from (y.0 ∷ z.0 ∷ zs)) x z.2 in
      applied_good s cs (membership t.kind) t.from (y.0 ∷ z.0 ∷ zs.0) x (bound_good s cs a y.0 y.1, (bound_good s cs b z.0 z.1, bounds_good s cs es zs.0 zs.1)) zs.2
  bound_good s cs (between a t b c) x e = three_good s cs (interval t.kind) t.from (bound s cs a) (bound s cs b) (bound s cs c) x (bound_good s cs a) (bound_good s cs b) (bound_good s cs c) e
  bound_good s cs (chain l a t b ls) x e =
      let y = then_ok (apply (operation l t.kind) t.from (bound s cs a ∷ bound s cs b ∷ [])) (λ y. chained s cs l y ls) x e in
      chained_good s cs l y.0 ls x (two_good s cs (operation l t.kind) t.from (bound s cs a) (bound s cs b) y.0 (bound_good s cs a) (bound_good s cs b) y.1) y.2

  bounds_good : (s : Names) (cs : List Field) (es : Trees) (xs : List Bound) → bounds s cs es ≡ Ok xs → AllGood s cs xs
  bounds_good s cs no_tree xs e = let is : [] ≡ xs = cc in subst (AllGood s cs) is tt
  bounds_good s cs (and_tree a es) xs e =
      let y = then_ok (bound s cs a) (λ y. and_then (bounds s cs es) (λ ys. Ok (y ∷ ys))) xs e in
      let ys = then_ok (bounds s cs es) (λ ys. Ok (y.0 ∷ ys)) xs y.2 in
      let is : (y.0 ∷ ys.0) ≡ xs = ok_is _ _ ys.2 in
      subst (AllGood s cs) is (bound_good s cs a y.0 y.1, bounds_good s cs es ys.0 ys.1)

  chained_good : (s : Names) (cs : List Field) (l : Precedence) (y : Bound) (ls : Links) (x : Bound) → Good s cs y → chained s cs l y ls ≡ Ok x → Good s cs x
  chained_good s cs l y no_link x h e = ok_good s cs y x h e
  chained_good s cs l y (and_link t b ls) x h e =
      let z = then_ok (apply (operation l t.kind) t.from (Ok y ∷ bound s cs b ∷ [])) (λ z. chained s cs l z ls) x e in
      chained_good s cs l z.0 ls x (two_good s cs (operation l t.kind) t.from (Ok y) (bound s cs b) z.0 (λ w k. ok_good s cs y w h k) (bound_good s cs b) z.1) z.2

  stepped_good : (s : Names) (cs : List Field) (y : Bound) (p : OneStep) (x : Bound) → Good s cs y → stepped s cs y p ≡ Ok x → Good s cs x
  stepped_good s cs y (member d n) x h e = applied_good s cs f.Member d.from (y ∷ member_name s n ∷ []) x (h, ((refl, tt), tt)) e
  stepped_good s cs y (index d a) x h e = two_good s cs f.Member d.from (Ok y) (bound s cs a) x (λ w k. ok_good s cs y w h k) (bound_good s cs a) e

  walked_good : (s : Names) (cs : List Field) (y : Bound) (ps : Steps) (x : Bound) → Good s cs y → walked s cs y ps ≡ Ok x → Good s cs x
  walked_good s cs y no_step x h e = ok_good s cs y x h e
  walked_good s cs y (and_step p ps) x h e =
      let z = then_ok (stepped s cs y p) (λ z. walked s cs z ps) x e in
      walked_good s cs z.0 ps x (stepped_good s cs y p z.0 h z.1) z.2

-- the type of what an expression is bound to
pub bound_has : (s : Names) (cs : List Field) (e : Tree) (x : Bound) → bound s cs e ≡ Ok x → Has s.lets cs x.0 x.1
bound_has s cs e x is = (bound_good s cs e x is).0

-- each literal in it is one that a row may hold
pub bound_proper : (s : Names) (cs : List Field) (e : Tree) (x : Bound) → bound s cs e ≡ Ok x → HoldsProper x.0
bound_proper s cs e x is = (bound_good s cs e x is).1
