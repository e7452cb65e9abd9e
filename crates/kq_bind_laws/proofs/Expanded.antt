-- The column of an expansion stands in the place of that of its name, or behind.
use Rattle.std.proofs.Common.{◌≡◌, ℕ, Bool, true, false, cond, List, [], ◌∷◌, ◌++◌, length, Option, Some, None, Ok, Err, refl, sym, ap, ◌∙◌, subst}
use Rattle.std.specs.Prelude.{slice_set}
use Rattle.kq_bind_query.specs.kq_bind_operators.Clauses.{part_type, or_dynamic, item_name, item_value, if_dynamic, expanded_at, expanded_as, bind_mv_expand}
use Rattle.kq_bind_query.specs.kq_bind_operators.Flows.{Flowing, columns}
use Rattle.kq_bind_query.specs.kq_bind_operators.Scopes.{Scoping, names}
use Rattle.kq_bind_clauses.specs.Tables.{word_type}
use Rattle.kq_bind_columns.specs.Defaults.{first_token}
use Rattle.kq_bind_columns.specs.Items.{field}
use Rattle.kq_bind_columns.specs.Naming.{is_taken}
use Rattle.kq_bind_expressions.specs.Bound.{bound}
use Rattle.kq_bind_expressions.specs.Lookup.{first_named}
use Rattle.kq_bind_expressions.specs.Verdicts.{Verdict, and_then, mistyped, unsupported}
use Rattle.kq_plan_expressions.specs.Terms.{Bound}
use Rattle.kq_read_grammar.specs.Trees.{ItemTree, plain, named}
use Rattle.kq_plan.specs.Plans.{expanded}
use Rattle.kq_read_meanings.specs.Pieces.{piece}
use Rattle.kq_read_meanings.specs.Types.{ty_of}
use Rattle.kq_read_symbols.specs.declared.kind.Symbol.{Symbol}
use Rattle.kq_value.specs.declared.schema.Field.{Field}
use Rattle.kq_value.specs.declared.ty.Ty.{Ty}
use Rattle.kq_value.specs.declared.ty.Ty.TheVariants as ty
use Rattle.kq_value.specs.Ty.{same_ty}
use Rattle.kq_bind_query.specs.Different.{AreDifferent}
use Rattle.kq_bind_query.proofs.Apart.{not_both, there_taken, found_named, unfound}
use Rattle.kq_bind_query.proofs.Columns.{same_is, found_ok}
use Rattle.kq_bind_query.proofs.Progress.{then_ok, done, done_is}
use Rattle.kq_bind_laws.specs.Columns.{HasNext}
use Rattle.kq_bind_laws.specs.Expanded.{SaysType, IsPart, IsStood, IsExpanded}
use Rattle.kq_bind_laws.specs.Items.{expression_of}
use Rattle.kq_bind_laws.proofs.Picked.{named_there, same_place}
use Rattle.kq_bind_laws.proofs.Steps.{next_following}

-- ---- what is expanded, and to which type

same_expression : (i : ItemTree) → item_value i ≡ expression_of i
same_expression (plain e) = refl
same_expression (named n e) = refl

dynamic_is : (at : ℕ) (y x : Bound) → if_dynamic at y ≡ Ok x → (y ≡ x) × (y.1 ≡ ty.Dynamic)
dynamic_is at y x e = by (same_ty y.1 ty.Dynamic) refl e where
  by : (b : Bool) → same_ty y.1 ty.Dynamic ≡ b → cond {A = Verdict Bound} b (done y) (Err (mistyped at)) ≡ Ok x → (y ≡ x) × (y.1 ≡ ty.Dynamic)
  by true same g = (done_is y x g, same_is y.1 ty.Dynamic same)
  by false same g = absurd (cc)

type_said : (s : Scoping) (t : Option Symbol) (o : Option Ty) → part_type s t ≡ Ok o → SaysType s.text t o
type_said s None o e = sym (done_is None o e)
type_said s (Some t) o e =
    let u = then_ok (word_type s.text t) (λ u. done (Some u)) o e in
    (u.0, found_ok (unsupported t.from) (ty_of (piece s.text t)) u.0 u.1, sym (done_is (Some u.0) o u.2))

part_is : (o : Option Ty) → IsPart o (or_dynamic o)
part_is (Some t) = refl
part_is None = refl

-- ---- where its column stands

-- the column in its place, and the step
record Stood (w v : Flowing) (x : Bound) (f : Field) (o : Option Ty) : Type 0 where
  place : ℕ
  out : List Field
  stands : IsStood (columns w) f place out
  next : HasNext w.progress v (expanded w.input x.0 place o) out

stood : (w v : Flowing) (x : Bound) (name : List ℕ) (o : Option Ty) → AreDifferent (columns w) → expanded_as w x name o ≡ v
    → Stood w v x (field name (or_dynamic o)) o
stood w v x name o different e = by (first_named 0 (columns w) name) refl e where
  cs : List Field
  cs = columns w

  f : Field
  f = field name (or_dynamic o)

  by : (found : Option (ℕ × Ty)) → first_named 0 cs name ≡ found → expanded_at w x name o found ≡ v → Stood w v x f o
  by (Some k) is g =
      let at = found_named cs name k is in
      let there = named_there cs k.0 name at in
      record {
        place = k.0;
        out = slice_set cs k.0 f;
        stands = record {
          replaced = λ j c here same. let one : k.0 ≡ j = same_place cs k.0 j name c different at here same in (one, ap (λ n. slice_set cs n f) one);
          added = λ none. absurd (none (record { number = k.0; column = there.0; there = there.1; so = there.2 }));
        };
        next = next_following w.progress v (expanded w.input x.0 k.0 o) (slice_set cs k.0 f) g;
      }
  by None is g =
      let free = unfound cs name is in
      record {
        place = length cs;
        out = cs ++ f ∷ [];
        stands = record {
          replaced = λ j c here same. absurd (not_both (is_taken cs name) (subst (λ n. is_taken cs n ≡ true) same (there_taken cs j c here)) free);
          added = λ none. (refl, refl);
        };
        next = next_following w.progress v (expanded w.input x.0 (length cs) o) (cs ++ f ∷ []) g;
      }

-- under whatever name
expanded_so : (s : Scoping) (w v : Flowing) (i : ItemTree) (t : Option Symbol) (name : Bound → List ℕ) → AreDifferent (columns w)
    → and_then (and_then (bound (names s) (columns w) (item_value i)) (if_dynamic (first_token (item_value i))))
    (λ x. and_then (part_type s t) (λ u. done (expanded_as w x (name x) u))) ≡ Ok v → IsExpanded s w v i t
expanded_so s w v i t name different e =
    let at = first_token (item_value i) in
    let x = then_ok (and_then (bound (names s) (columns w) (item_value i)) (if_dynamic at))
    (λ x. and_then (part_type s t) (λ u. done (expanded_as w x (name x) u))) v e in
    let u = then_ok (part_type s t) (λ u. done (expanded_as w x.0 (name x.0) u)) v x.2 in
    let y = then_ok (bound (names s) (columns w) (item_value i)) (if_dynamic at) x.0 x.1 in
    let d = dynamic_is at y.0 x.0 y.2 in
    let same : y.0 ≡ (x.0.0, ty.Dynamic) =
    ap (λ (z : Ty). let b : Bound = (y.0.0, z) in b) d.1 ∙ ap (λ (z : Bound). let b : Bound = (z.0, ty.Dynamic) in b) d.0 in
    let put = stood w v x.0 (name x.0) u.0 different (done_is (expanded_as w x.0 (name x.0) u.0) v u.2) in
    record {
      value = x.0.0;
      is_dynamic = ap (bound (names s) (columns w)) (sym (same_expression i)) ∙ y.1 ∙ ap (λ (z : Bound). let r : Verdict Bound = Ok z in r) same;
      to = u.0;
      said = type_said s t u.0 u.1;
      column = field (name x.0) (or_dynamic u.0);
      of_type = part_is u.0;
      place = put.place;
      out = put.out;
      stands = put.stands;
      next = put.next;
    }

pub parts_so : (s : Scoping) (w v : Flowing) (i : ItemTree) (t : Option Symbol) → AreDifferent (columns w) → bind_mv_expand s w i t ≡ Ok v → IsExpanded s w v i t
parts_so s w v i t different e = expanded_so s w v i t (λ x. item_name s (columns w) i) different e
