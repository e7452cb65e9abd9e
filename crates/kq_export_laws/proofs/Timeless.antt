-- An expression without a call of now or ago is bound to a term that asks for no moment.
use Rattle.std.proofs.Common.{◌≡◌, ◌||◌, ◌∙◌, ℕ, Bool, true, false, cond, List, [], ◌∷◌, map, drop, Option, Some, None, Ok, refl, sym, ap, subst}
use Rattle.std.specs.Prelude.{codes, nat_eq, option_map}
use Rattle.std.specs.List.{list_any}
use Rattle.std.specs.Cmp.Lexicographic.{pointwise}
use Rattle.std.proofs.lemmas.Slice.Eq.{bytes_eq-Decides}
use Rattle.kq_bind_expressions.specs.Apply.{as_taken, called_as, applied, apply, type_of}
use Rattle.kq_bind_expressions.specs.Bound.{constant_of, literal_of, member_name, function_of, bound, bounds, chained, stepped, walked}
use Rattle.kq_bind_expressions.specs.Lookup.{first_named as first_column, made, or_else}
use Rattle.kq_bind_expressions.specs.Names.{Names}
use Rattle.kq_bind_expressions.specs.Operators.{sign, comparison_sign, find_word, negated_find, comparison, membership, interval, operation}
use Rattle.kq_bind_expressions.specs.Verdicts.{Fault, Verdict, unsupported, unknown, and_then, all_of, or_fault}
use Rattle.kq_view_body.specs.Moments.{or_later, is_moment as names_moment, when, moment_in, moment_among, moment_in_links, moment_at_step, moment_at_steps}
use Rattle.kq_plan_expressions.specs.Terms.{Bound, column, cell, call as called, terms_of}
use Rattle.kq_bind_query.proofs.Progress.{then_ok, done, done_is}
use Rattle.kq_plan_functions.specs.declared.function.Function.{Function}
use Rattle.kq_plan_functions.specs.declared.function.Function.TheVariants as f
use Rattle.kq_plan_functions.specs.Names.{function_names, first_named, function_named}
use Rattle.kq_plan_functions.specs.Table.{chosen, TypedCall}
use Rattle.kq_read_grammar.specs.Trees.{Precedence, disjunction, conjunction, sum, product, Tree, name, literal, group, call, path, signed, compare, within, between, chain, Trees, no_tree, and_tree, Links, no_link, and_link, OneStep, member, index, Steps, no_step, and_step}
use Rattle.kq_policy_moments.specs.kq_catalog_journal.Moments.{is_moment, asks, some_asks}
use Rattle.kq_read_meanings.specs.Literals.{literal_value}
use Rattle.kq_read_meanings.specs.Names.{name_said, name_place}
use Rattle.kq_read_meanings.specs.Pieces.{piece}
use Rattle.kq_read_symbols.specs.declared.kind.Kind.{Kind}
use Rattle.kq_read_symbols.specs.declared.kind.Kind.TheVariants as kind
use Rattle.kq_read_symbols.specs.declared.kind.Symbol.{Symbol}
use Rattle.kq_read_symbols.specs.declared.word.ReservedWord.{ReservedWord}
use Rattle.kq_read_symbols.specs.declared.word.ReservedWord.TheVariants as reserved
use Rattle.kq_read_symbols.specs.declared.word.Word.TheVariants as word
use Rattle.kq_read_tokens.specs.declared.kind.Operator.{Operator}
use Rattle.kq_read_tokens.specs.declared.kind.Operator.TheVariants as operator
use Rattle.kq_read_tokens.specs.declared.kind.WordOperator.{WordOperator}
use Rattle.kq_read_tokens.specs.declared.kind.WordOperator.TheVariants as negated
use Rattle.kq_value.specs.declared.schema.Field.{Field}
use Rattle.kq_value.specs.declared.ty.Ty.{Ty}
use Rattle.kq_value.specs.declared.ty.Ty.TheVariants as ty
use Rattle.kq_value.specs.declared.value.Value.{Value}

-- ---- truth values

pub both_false : (a b : Bool) → a ≡ false → b ≡ false → (a || b) ≡ false
both_false true b p q = p
both_false false b p q = q

pub left_false : (a b : Bool) → (a || b) ≡ false → a ≡ false
left_false true b e = e
left_false false b e = refl

pub right_false : (a b : Bool) → (a || b) ≡ false → b ≡ false
right_false true b e = absurd (cc)
right_false false b e = e

pub neither : (a b : Option ℕ) → or_later a b ≡ None → (a ≡ None) × (b ≡ None)
neither None b e = (refl, e)
neither (Some at) b e = absurd (cc)

not_when : (b : Bool) (at : ℕ) → when b at ≡ None → b ≡ false
not_when true at e = absurd (cc)
not_when false at e = refl

-- ---- functions

sign_timeless : (k : Kind) → is_moment (sign k) ≡ false
sign_timeless (kind.Operator operator.Minus) = refl
sign_timeless _ = refl

sign_compared : (o : Operator) → is_moment (comparison_sign o) ≡ false
sign_compared operator.Less = refl
sign_compared _ = refl

word_compared : (r : ReservedWord) → is_moment (find_word r) ≡ false
word_compared reserved.Has = refl
word_compared _ = refl

negated_compared : (w : WordOperator) → is_moment (negated_find w) ≡ false
negated_compared negated.NotHas = refl
negated_compared _ = refl

comparison_timeless : (k : Kind) → is_moment (comparison k) ≡ false
comparison_timeless (kind.Operator o) = sign_compared o
comparison_timeless (kind.Word (word.Reserved r)) = word_compared r
comparison_timeless (kind.WordOperator w) = negated_compared w
comparison_timeless _ = refl

membership_timeless : (k : Kind) → is_moment (membership k) ≡ false
membership_timeless (kind.WordOperator negated.NotIn) = refl
membership_timeless _ = refl

interval_timeless : (k : Kind) → is_moment (interval k) ≡ false
interval_timeless (kind.WordOperator negated.NotBetween) = refl
interval_timeless _ = refl

operation_timeless : (l : Precedence) (k : Kind) → is_moment (operation l k) ≡ false
operation_timeless disjunction k = refl
operation_timeless conjunction k = refl
operation_timeless sum (kind.Operator operator.Minus) = refl
operation_timeless sum _ = refl
operation_timeless product (kind.Operator operator.Slash) = refl
operation_timeless product _ = refl

abbrev pair_asks : List ℕ × Function → Bool
pair_asks p = is_moment p.1

first_timeless : (ps : List (List ℕ × Function)) (said : List ℕ) (g : Function) → list_any pair_asks ps ≡ false → first_named ps said ≡ Some g → is_moment g ≡ false
first_timeless [] said g none e = absurd (cc)
first_timeless (p ∷ ps) said g none e = by (pointwise nat_eq p.0 said) (first_timeless ps said g (right_false (pair_asks p) (list_any pair_asks ps) none)) e where
  by : (b : Bool) → (first_named ps said ≡ Some g → is_moment g ≡ false) → cond b (Some p.1) (first_named ps said) ≡ Some g → is_moment g ≡ false
  by true more k = let is : p.1 ≡ g = cc in subst (λ (h : Function). is_moment h ≡ false) is (left_false (pair_asks p) (list_any pair_asks ps) none)
  by false more k = more k

-- a name that is neither `now` nor `ago` is that of a function which asks for no moment
named_timeless : (said : List ℕ) (g : Function) → pointwise nat_eq (codes "now") said ≡ false → pointwise nat_eq (codes "ago") said ≡ false
    → function_named said ≡ Some g → is_moment g ≡ false
named_timeless said g now ago e =
    let others = drop 2 function_names in
    let second = λ (b : Bool). cond b (Some f.Ago) (first_named others said) in
    let first = λ (b : Bool). cond b (Some f.Now) (second (pointwise nat_eq (codes "ago") said)) in
    first_timeless others said g refl (sym (ap first now ∙ ap second ago) ∙ e)

turned : (a b : List ℕ) → pointwise nat_eq a b ≡ false → pointwise nat_eq b a ≡ false
turned a b lacks = by (pointwise nat_eq b a) refl where
  by : (t : Bool) → pointwise nat_eq b a ≡ t → t ≡ false
  by false e = refl
  by true e =
      let same : a ≡ b = sym ((bytes_eq-Decides b a).0 e) in
      let yes : pointwise nat_eq a b ≡ true = (bytes_eq-Decides a b).1 same in
      absurd (cc)

function_timeless : (s : Names) (t : Symbol) (g : Function) → when (names_moment s.text t) t.from ≡ None → function_of s t ≡ Ok g → is_moment g ≡ false
function_timeless s t g lacks e = by (function_named (piece s.text t)) refl e where
  said : List ℕ
  said = piece s.text t

  none : (pointwise nat_eq said (codes "now") || pointwise nat_eq said (codes "ago")) ≡ false
  none = not_when (names_moment s.text t) t.from lacks

  by : (o : Option Function) → function_named said ≡ o → or_fault (unknown t.from) o ≡ Ok g → is_moment g ≡ false
  by None is k = absurd (cc)
  by (Some h) is k =
      let same : h ≡ g = done_is h g k in
      subst (λ (x : Function). is_moment x ≡ false) same (named_timeless said h
      (turned said (codes "now") (left_false (pointwise nat_eq said (codes "now")) (pointwise nat_eq said (codes "ago")) none))
      (turned said (codes "ago") (right_false (pointwise nat_eq said (codes "now")) (pointwise nat_eq said (codes "ago")) none)) is)

-- ---- calls

-- what is bound asks for no moment
abbrev pub IsTimeless : Bound → Type 0
IsTimeless x = asks x.0 ≡ false

abbrev pub AreTimeless : List Bound → Type 0
AreTimeless [] = Unit {0}
AreTimeless (x ∷ xs) = IsTimeless x × AreTimeless xs

-- so does what this may come to
abbrev MayBeTimeless : Verdict Bound → Type 0
MayBeTimeless v = (x : Bound) → v ≡ Ok x → IsTimeless x

abbrev MayAllBeTimeless : List (Verdict Bound) → Type 0
MayAllBeTimeless [] = Unit {0}
MayAllBeTimeless (v ∷ vs) = MayBeTimeless v × MayAllBeTimeless vs

pub taken_timeless : (w : Bool) (x : Bound) → IsTimeless x → asks (as_taken w x) ≡ false
taken_timeless false x h = h
taken_timeless true (e, ty.Int) h = both_false (asks e) false h refl
taken_timeless true (e, ty.Long) h = h
taken_timeless true (e, ty.Text) h = h
taken_timeless true (e, ty.Bool) h = h
taken_timeless true (e, ty.Moment) h = h
taken_timeless true (e, ty.Span) h = h
taken_timeless true (e, ty.Dynamic) h = h

given_timeless : (w : Bool) (xs : List Bound) → AreTimeless xs → some_asks (terms_of (map (as_taken w) xs)) ≡ false
given_timeless w [] h = refl
given_timeless w (x ∷ xs) h = both_false (asks (as_taken w x)) (some_asks (terms_of (map (as_taken w) xs))) (taken_timeless w x h.0) (given_timeless w xs h.1)

applied_timeless : (g : Function) (at : ℕ) (xs : List Bound) (y : Bound) → is_moment g ≡ false → AreTimeless xs → applied g at xs ≡ Ok y → IsTimeless y
applied_timeless g at xs y lacks h e = by (chosen g (map type_of xs)) e where
  by : (o : Option TypedCall) → called_as g at xs o ≡ Ok y → IsTimeless y
  by None k = absurd (cc)
  by (Some c) k =
      let given = terms_of (map (as_taken c.0) xs) in
      subst IsTimeless (done_is (called g given, c.1) y k) (both_false (is_moment g) (some_asks given) lacks (given_timeless c.0 xs h))

all_timeless : (vs : List (Verdict Bound)) (xs : List Bound) → MayAllBeTimeless vs → all_of vs ≡ Ok xs → AreTimeless xs
all_timeless [] xs h e = subst AreTimeless (done_is [] xs e) tt
all_timeless (v ∷ vs) xs h e =
    let x = then_ok v (λ x. and_then (all_of vs) (λ ys. done (x ∷ ys))) xs e in
    let ys = then_ok (all_of vs) (λ ys. done (x.0 ∷ ys)) xs x.2 in
    subst AreTimeless (done_is (x.0 ∷ ys.0) xs ys.2) (h.0 x.0 x.1, all_timeless vs ys.0 h.1 ys.1)

apply_timeless : (g : Function) (at : ℕ) (vs : List (Verdict Bound)) (y : Bound) → is_moment g ≡ false → MayAllBeTimeless vs → apply g at vs ≡ Ok y → IsTimeless y
apply_timeless g at vs y lacks h e =
    let xs = then_ok (all_of vs) (applied g at) y e in
    applied_timeless g at xs.0 y lacks (all_timeless vs xs.0 h xs.1) xs.2

-- ---- names and literals

literal_timeless : (s : Names) (t : Symbol) (x : Bound) → literal_of s t ≡ Ok x → IsTimeless x
literal_timeless s t x e = by (literal_value s.text t) e where
  by : (o : Option Value) → or_fault (unsupported t.from) (option_map constant_of o) ≡ Ok x → IsTimeless x
  by None k = absurd (cc)
  by (Some v) k = subst IsTimeless (done_is (constant_of v) x k) refl

meant_timeless : (n : Fault) (a b : Option (ℕ × Ty)) (x : Bound) → or_fault n (or_else (option_map (made column) a) (option_map (made cell) b)) ≡ Ok x → IsTimeless x
meant_timeless n (Some p) b x e = subst IsTimeless (done_is (made column p) x e) refl
meant_timeless n None (Some p) x e = subst IsTimeless (done_is (made cell p) x e) refl
meant_timeless n None None x e = absurd (cc)

-- ---- expressions

mutual
  pub bound_timeless : (s : Names) (cs : List Field) (e : Tree) (x : Bound) → moment_in s.text e ≡ None → bound s cs e ≡ Ok x → IsTimeless x
  bound_timeless s cs (name n) x lacks is =
      meant_timeless (unknown (name_place n)) (first_column 0 cs (name_said s.text n)) (first_column 0 s.lets (name_said s.text n)) x is
  bound_timeless s cs (literal t) x lacks is = literal_timeless s t x is
  bound_timeless s cs (group t e) x lacks is = bound_timeless s cs e x lacks is
  bound_timeless s cs (call t es) x lacks is =
      let parts = neither (when (names_moment s.text t) t.from) (moment_among s.text es) lacks in
      let g = then_ok (function_of s t) (λ g. and_then (bounds s cs es) (applied g t.from)) x is in
      let xs = then_ok (bounds s cs es) (applied g.0 t.from) x g.2 in
      applied_timeless g.0 t.from xs.0 x (function_timeless s t g.0 parts.0 g.1) (bounds_timeless s cs es xs.0 parts.1 xs.1) xs.2
  bound_timeless s cs (path e p ps) x lacks is =
      let parts = neither (moment_in s.text e) (or_later (moment_at_step s.text p) (moment_at_steps s.text ps)) lacks in
      let steps = neither (moment_at_step s.text p) (moment_at_steps s.text ps) parts.1 in
      let y = then_ok (bound s cs e) (λ y. and_then (stepped s cs y p) (λ z. walked s cs z ps)) x is in
      let z = then_ok (stepped s cs y.0 p) (λ z. walked s cs z ps) x y.2 in
      walked_timeless s cs z.0 ps x steps.1 (stepped_timeless s cs y.0 p z.0 steps.0 (bound_timeless s cs e y.0 parts.0 y.1) z.1) z.2
  bound_timeless s cs (signed t e) x lacks is =
      apply_timeless (sign t.kind) t.from (bound s cs e ∷ []) x (sign_timeless t.kind) ((λ y is. bound_timeless s cs e y lacks is), tt) is
  bound_timeless s cs (compare a t b) x lacks is =
      let parts = neither (moment_in s.text a) (moment_in s.text b) lacks in
      apply_timeless (comparison t.kind) t.from (bound s cs a ∷ bound s cs b ∷ []) x (comparison_timeless t.kind)
      ((λ y is. bound_timeless s cs a y parts.0 is), ((λ y is. bound_timeless s cs b y parts.1 is), tt)) is
  bound_timeless s cs (within a t e es) x lacks is =
      let parts = neither (moment_in s.text a) (or_later (moment_in s.text e) (moment_among s.text es)) lacks in
      let others = neither (moment_in s.text e) (moment_among s.text es) parts.1 in
      let y = then_ok (bound s cs a) (λ y. and_then (bound s cs e) (λ z. and_then (bounds s cs es) (λ zs. applied (membership t.kind) t.from (y ∷ z ∷ zs)))) x is in
      let z = then_ok (bound s cs e) (λ z. and_then (bounds s cs es) (λ zs. applied (membership t.kind) t.from (y.0 ∷ z ∷ zs))) x y.2 in
      let zs = then_ok (bounds s cs es) (λ zs. applied (membership t.kind) t.from (y.0 ∷ z.0 ∷ zs)) x z.2 in
      applied_timeless (membership t.kind) t.from (y.0 ∷ z.0 ∷ zs.0) x (membership_timeless t.kind)
      (bound_timeless s cs a y.0 parts.0 y.1, (bound_timeless s cs e z.0 others.0 z.1, bounds_timeless s cs es zs.0 others.1 zs.1)) zs.2
  bound_timeless s cs (between a t b c) x lacks is =
      let parts = neither (moment_in s.text a) (or_later (moment_in s.text b) (moment_in s.text c)) lacks in
      let ends = neither (moment_in s.text b) (moment_in s.text c) parts.1 in
      apply_timeless (interval t.kind) t.from (bound s cs a ∷ bound s cs b ∷ bound s cs c ∷ []) x (interval_timeless t.kind)
      ((λ y is. bound_timeless s cs a y parts.0 is), ((λ y is. bound_timeless s cs b y ends.0 is), ((λ y is. bound_timeless s cs c y ends.1 is), tt))) is
  bound_timeless s cs (chain l a t b ls) x lacks is =
      let parts = neither (moment_in s.text a) (or_later (moment_in s.text b) (moment_in_links s.text ls)) lacks in
      let others = neither (moment_in s.text b) (moment_in_links s.text ls) parts.1 in
      let y = then_ok (apply (operation l t.kind) t.from (bound s cs a ∷ bound s cs b ∷ [])) (λ y. chained s cs l y ls) x is in
      let first = apply_timeless (operation l t.kind) t.from (bound s cs a ∷ bound s cs b ∷ []) y.0 (operation_timeless l t.kind)
      ((λ y is. bound_timeless s cs a y parts.0 is), ((λ y is. bound_timeless s cs b y others.0 is), tt)) y.1 in
      chained_timeless s cs l y.0 ls x others.1 first y.2

  bounds_timeless : (s : Names) (cs : List Field) (es : Trees) (xs : List Bound) → moment_among s.text es ≡ None → bounds s cs es ≡ Ok xs → AreTimeless xs
  bounds_timeless s cs no_tree xs lacks is = subst AreTimeless (done_is [] xs is) tt
  bounds_timeless s cs (and_tree e es) xs lacks is =
      let parts = neither (moment_in s.text e) (moment_among s.text es) lacks in
      let x = then_ok (bound s cs e) (λ x. and_then (bounds s cs es) (λ ys. done (x ∷ ys))) xs is in
      let ys = then_ok (bounds s cs es) (λ ys. done (x.0 ∷ ys)) xs x.2 in
      subst AreTimeless (done_is (x.0 ∷ ys.0) xs ys.2) (bound_timeless s cs e x.0 parts.0 x.1, bounds_timeless s cs es ys.0 parts.1 ys.1)

  chained_timeless : (s : Names) (cs : List Field) (l : Precedence) (x : Bound) (ls : Links) (y : Bound) → moment_in_links s.text ls ≡ None → IsTimeless x
      → chained s cs l x ls ≡ Ok y → IsTimeless y
  chained_timeless s cs l x no_link y lacks h is = subst IsTimeless (done_is x y is) h
  chained_timeless s cs l x (and_link t e ls) y lacks h is =
      let parts = neither (moment_in s.text e) (moment_in_links s.text ls) lacks in
      let z = then_ok (apply (operation l t.kind) t.from (done x ∷ bound s cs e ∷ [])) (λ z. chained s cs l z ls) y is in
      chained_timeless s cs l z.0 ls y parts.1
      (apply_timeless (operation l t.kind) t.from (done x ∷ bound s cs e ∷ []) z.0 (operation_timeless l t.kind)
      ((λ w same. subst IsTimeless (done_is x w same) h), ((λ y is. bound_timeless s cs e y parts.0 is), tt)) z.1) z.2

  stepped_timeless : (s : Names) (cs : List Field) (x : Bound) (p : OneStep) (y : Bound) → moment_at_step s.text p ≡ None → IsTimeless x
      → stepped s cs x p ≡ Ok y → IsTimeless y
  stepped_timeless s cs x (member d n) y lacks h is = applied_timeless f.Member d.from (x ∷ member_name s n ∷ []) y refl (h, (refl, tt)) is
  stepped_timeless s cs x (index d e) y lacks h is =
      apply_timeless f.Member d.from (done x ∷ bound s cs e ∷ []) y refl ((λ w same. subst IsTimeless (done_is x w same) h), ((λ y is. bound_timeless s cs e y lacks is), tt)) is

  walked_timeless : (s : Names) (cs : List Field) (x : Bound) (ps : Steps) (y : Bound) → moment_at_steps s.text ps ≡ None → IsTimeless x
      → walked s cs x ps ≡ Ok y → IsTimeless y
  walked_timeless s cs x no_step y lacks h is = subst IsTimeless (done_is x y is) h
  walked_timeless s cs x (and_step p ps) y lacks h is =
      let parts = neither (moment_at_step s.text p) (moment_at_steps s.text ps) lacks in
      let z = then_ok (stepped s cs x p) (λ z. walked s cs z ps) y is in
      walked_timeless s cs z.0 ps y parts.1 (stepped_timeless s cs x p z.0 parts.0 h z.1) z.2
