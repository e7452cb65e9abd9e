-- A tree all of whose literals are supported has no fault that says otherwise.
use Rattle.std.proofs.Common.{◌≡◌, ℕ, List, [], ◌∷◌, map, Option, Some, None, Ok, Err, refl, ap}
use Rattle.std.specs.Prelude.{option_map}
use Rattle.kq_bind_expressions.specs.Apply.{type_of, called_as, applied, apply}
use Rattle.kq_bind_expressions.specs.Bound.{bound, bounds, chained, stepped, walked, function_of, member_name, constant_of}
use Rattle.kq_bind_expressions.specs.Lookup.{meant}
use Rattle.kq_bind_expressions.specs.Names.{Names}
use Rattle.kq_bind_expressions.specs.Operators.{sign, comparison, membership, interval, operation}
use Rattle.kq_bind_expressions.specs.Unsupported.{or_later, unless_some, unsupported_in, unsupported_among, unsupported_links, unsupported_step, unsupported_steps}
use Rattle.kq_bind_expressions.specs.Verdicts.{Fault, unsupported, unknown, Verdict, and_then, all_of, or_fault}
use Rattle.kq_plan_expressions.specs.Terms.{Bound}
use Rattle.kq_plan_functions.specs.declared.function.Function.{Function}
use Rattle.kq_plan_functions.specs.declared.function.Function.TheVariants as f
use Rattle.kq_plan_functions.specs.Names.{function_named}
use Rattle.kq_plan_functions.specs.Table.{chosen, TypedCall}
use Rattle.kq_read_grammar.specs.Trees.{Precedence, Tree, name, literal, group, call, path, signed, compare, within, between, chain, Trees, no_tree, and_tree, Links, no_link, and_link, OneStep, member, index, Steps, no_step, and_step}
use Rattle.kq_read_meanings.specs.Literals.{literal_value}
use Rattle.kq_read_meanings.specs.Names.{name_said, name_place}
use Rattle.kq_read_meanings.specs.Pieces.{piece}
use Rattle.kq_value.specs.declared.schema.Field.{Field}
use Rattle.kq_value.specs.declared.value.Value.{Value}

abbrev pub IsSupported : {A : Type 0} → Verdict A → Type 0
IsSupported v = (at : ℕ) → v ≡ Err (unsupported at) → ⊥

abbrev AreSupported : List (Verdict Bound) → Type 0
AreSupported [] = Unit {0}
AreSupported (v ∷ vs) = IsSupported v × AreSupported vs

-- ---- verdicts

fine : {A : Type 0} (x : A) → IsSupported (Ok x)
fine x at e = cc

then_fine : {A B : Type 0} (v : Verdict A) (k : A → Verdict B) → IsSupported v → ((x : A) → IsSupported (k x)) → IsSupported (and_then v k)
then_fine (Ok x) k h g at e = g x at e
then_fine (Err b) k h g at e = let is : b ≡ unsupported at = cc in h at (ap (λ (c : Fault). Err c) is)

all_fine : (vs : List (Verdict Bound)) → AreSupported vs → IsSupported (all_of vs)
all_fine [] h = fine []
all_fine (v ∷ vs) h = then_fine v (λ x. and_then (all_of vs) (λ xs. Ok (x ∷ xs))) h.0 (λ x. then_fine (all_of vs) (λ xs. Ok (x ∷ xs)) (all_fine vs h.1) (λ xs. fine (x ∷ xs)))

called_fine : (g : Function) (at : ℕ) (xs : List Bound) (o : Option TypedCall) → IsSupported (called_as g at xs o)
called_fine g at xs (Some c) place e = cc
called_fine g at xs None place e = cc

applied_fine : (g : Function) (at : ℕ) (xs : List Bound) → IsSupported (applied g at xs)
applied_fine g at xs = called_fine g at xs (chosen g (map type_of xs))

apply_fine : (g : Function) (at : ℕ) (vs : List (Verdict Bound)) → AreSupported vs → IsSupported (apply g at vs)
apply_fine g at vs h = then_fine (all_of vs) (applied g at) (all_fine vs h) (applied_fine g at)

known_fine : {A : Type 0} (at : ℕ) (o : Option A) → IsSupported (or_fault (unknown at) o)
known_fine at (Some x) place e = cc
known_fine at None place e = cc

valued_fine : (at : ℕ) (o : Option Value) → unless_some at o ≡ None → IsSupported (or_fault (unsupported at) (option_map constant_of o))
valued_fine at (Some v) h place e = cc
valued_fine at None h place e = cc

both_none : (a b : Option ℕ) → or_later a b ≡ None → (a ≡ None) × (b ≡ None)
both_none None b h = (refl, h)
both_none (Some place) b h = absurd (cc)

-- ---- trees

mutual
  pub bound_supported : (s : Names) (cs : List Field) (e : Tree) → unsupported_in s.text e ≡ None → IsSupported (bound s cs e)
  bound_supported s cs (name n) h = known_fine (name_place n) (meant s cs (name_said s.text n))
  bound_supported s cs (literal t) h = valued_fine t.from (literal_value s.text t) h
  bound_supported s cs (group t a) h = bound_supported s cs a h
  bound_supported s cs (call t es) h =
      then_fine (function_of s t) (λ g. and_then (bounds s cs es) (applied g t.from)) (known_fine t.from (function_named (piece s.text t)))
      (λ g. then_fine (bounds s cs es) (applied g t.from) (bounds_supported s cs es h) (applied_fine g t.from))
  bound_supported s cs (path a p ps) h =
      let q = both_none (unsupported_in s.text a) (or_later (unsupported_step s.text p) (unsupported_steps s.text ps)) h in
      let r = both_none (unsupported_step s.text p) (unsupported_steps s.text ps) q.1 in
      then_fine (bound s cs a) (λ x. and_then (stepped s cs x p) (λ y. walked s cs y ps)) (bound_supported s cs a q.0)
      (λ x. then_fine (stepped s cs x p) (λ y. walked s cs y ps) (stepped_supported s cs x p r.0) (λ y. walked_supported s cs y ps r.1))
  bound_supported s cs (signed t a) h = apply_fine (sign t.kind) t.from (bound s cs a ∷ []) (bound_supported s cs a h, tt)
  bound_supported s cs (compare a t b) h =
      let q = both_none (unsupported_in s.text a) (unsupported_in s.text b) h in
      apply_fine (comparison t.kind) t.from (bound s cs a ∷ bound s cs b ∷ []) (bound_supported s cs a q.0, (bound_supported s cs b q.1, tt))
  bound_supported s cs (within a t b es) h =
      let q = both_none (unsupported_in s.text a) (or_later (unsupported_in s.text b) (unsupported_among s.text es)) h in
      let r = both_none (unsupported_in s.text b) (unsupported_among s.text es) q.1 in
      then_fine (bound s cs a) (λ x. and_then (bound s cs b) (λ y. and_then (bounds s cs es) (λ zs. applied (membership t.kind) t.from (x ∷ y ∷ zs)))) (bound_supported s cs a q.0)
      (λ x. then_fine (bound s cs b) (λ y. and_then (bounds s cs es) (λ zs. applied (membership t.kind) t.from (x ∷ y ∷ zs))) (bound_supported s cs b r.0)
      (λ y. then_fine (bounds s cs es) (λ zs. applied (membership t.kind) t.from (x ∷ y ∷ zs)) (bounds_supported s cs es r.1) (λ zs. applied_fine (membership t.kind) t.from (x ∷ y ∷ zs))))
  bound_supported s cs (between a t b c) h =
      let q = both_none (unsupported_in s.text a) (or_later (unsupported_in s.text b) (unsupported_in s.text c)) h in
      let r = both_none (unsupported_in s.text b) (unsupported_in s.text c) q.1 in
      apply_fine (interval t.kind) t.from (bound s cs a ∷ bound s cs b ∷ bound s cs c ∷ []) (bound_supported s cs a q.0, (bound_supported s cs b r.0, (bound_supported s cs c r.1, tt)))
  bound_supported s cs (chain l a t b ls) h =
      let q = both_none (unsupported_in s.text a) (or_later (unsupported_in s.text b) (unsupported_links s.text ls)) h in
      let r = both_none (unsupported_in s.text b) (unsupported_links s.text ls) q.1 in
      then_fine (apply (operation l t.kind) t.from (bound s cs a ∷ bound s cs b ∷ [])) (λ x. chained s cs l x ls)
      (apply_fine (operation l t.kind) t.from (bound s cs a ∷ bound s cs b ∷ []) (bound_supported s cs a q.0, (bound_supported s cs b r.0, tt)))
      (λ x. chained_supported s cs l x ls r.1)

  bounds_supported : (s : Names) (cs : List Field) (es : Trees) → unsupported_among s.text es ≡ None → IsSupported (bounds s cs es)
  bounds_supported s cs no_tree h = fine []
  bounds_supported s cs (and_tree a es) h =
      let q = both_none (unsupported_in s.text a) (unsupported_among s.text es) h in
      then_fine (bound s cs a) (λ x. and_then (bounds s cs es) (λ xs. Ok (x ∷ xs))) (bound_supported s cs a q.0)
      (λ x. then_fine (bounds s cs es) (λ xs. Ok (x ∷ xs)) (bounds_supported s cs es q.1) (λ xs. fine (x ∷ xs)))

  chained_supported : (s : Names) (cs : List Field) (l : Precedence) (x : Bound) (ls : Links) → unsupported_links s.text ls ≡ None → IsSupported (chained s cs l x ls)
  chained_supported s cs l x no_link h = fine x
  chained_supported s cs l x (and_link t b ls) h =
      let q = both_none (unsupported_in s.text b) (unsupported_links s.text ls) h in
      then_fine (apply (operation l t.kind) t.from (Ok x ∷ bound s cs b ∷ [])) (λ y. chained s cs l y ls)
      (apply_fine (operation l t.kind) t.from (Ok x ∷ bound s cs b ∷ []) (fine x, (bound_supported s cs b q.0, tt)))
      (λ y. chained_supported s cs l y ls q.1)

  stepped_supported : (s : Names) (cs : List Field) (x : Bound) (p : OneStep) → unsupported_step s.text p ≡ None → IsSupported (stepped s cs x p)
  stepped_supported s cs x (member d n) h = applied_fine f.Member d.from (x ∷ member_name s n ∷ [])
  stepped_supported s cs x (index d a) h = apply_fine f.Member d.from (Ok x ∷ bound s cs a ∷ []) (fine x, (bound_supported s cs a h, tt))

  walked_supported : (s : Names) (cs : List Field) (x : Bound) (ps : Steps) → unsupported_steps s.text ps ≡ None → IsSupported (walked s cs x ps)
  walked_supported s cs x no_step h = fine x
  walked_supported s cs x (and_step p ps) h =
      let q = both_none (unsupported_step s.text p) (unsupported_steps s.text ps) h in
      then_fine (stepped s cs x p) (λ y. walked s cs y ps) (stepped_supported s cs x p q.0) (λ y. walked_supported s cs y ps q.1)
