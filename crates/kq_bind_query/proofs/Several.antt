-- What joins and unions add is a step that fits, where the rows that they take are given.
use Rattle.std.proofs.Common.{◌≡◌, ℕ, Bool, true, false, not, ◌&&◌, cond, List, [], ◌∷◌, ◌++◌, map, All, Option, Some, None, Ok, Err, refl, sym, ap, ◌∙◌, subst, append_assoc, append-nil}
use Rattle.std.proofs.lemmas.List.{map-append}
use Rattle.std.proofs.lemmas.List.Elements.{All-nil, All-cons, All-head, All-tail}
use Rattle.kq_bind_query.specs.kq_bind_operators.Clauses.{joined_on, arms_with, all_together}
use Rattle.kq_bind_query.specs.kq_bind_operators.Flows.{Progressing, Flowing, columns, columns_at, added}
use Rattle.kq_bind_query.specs.kq_bind_operators.Scopes.{Scoping}
use Rattle.kq_bind_clauses.specs.Joins.{is_key, matched, on_key, on_keys, beside, join_columns}
use Rattle.kq_bind_clauses.specs.Unions.{is_inner, is_mixed, typed_name, names_made, union_columns, of_type, filling, arms_filled, columns_in, union_sources, keep_names}
use Rattle.kq_bind_columns.specs.Chosen.{place_in}
use Rattle.kq_bind_columns.specs.Items.{field}
use Rattle.kq_bind_columns.specs.Naming.{free_name}
use Rattle.kq_bind_expressions.specs.Lookup.{first_named}
use Rattle.kq_bind_expressions.specs.Verdicts.{Verdict, and_then, mistyped}
use Rattle.kq_read_grammar.specs.declared.clause.JoinKey.{JoinKey}
use Rattle.kq_read_grammar.specs.declared.clause.JoinKey.TheVariants as key
use Rattle.kq_plan.specs.declared.work.JoinKind.{JoinKind}
use Rattle.kq_plan.specs.declared.work.JoinKind.TheVariants as join
use Rattle.kq_plan.specs.Fits.{type_at, ty_of, Match, join_types, IsFilled, AreFilled, FitsArm}
use Rattle.kq_plan.specs.Plans.{Stepping, joined, united}
use Rattle.kq_read_meanings.specs.Names.{name_place}
use Rattle.kq_read_symbols.specs.declared.kind.Symbol.{Symbol}
use Rattle.kq_value.specs.declared.schema.Field.{Field}
use Rattle.kq_value.specs.declared.ty.Ty.{Ty}
use Rattle.kq_value.specs.declared.ty.Ty.TheVariants as ty
use Rattle.kq_value.specs.Ty.{same_ty}
use Rattle.kq_bind_query.proofs.Progress.{then_ok, done, done_is, IsGiven, Kept, Holds, Goes, goes_on}
use Rattle.kq_bind_query.proofs.Columns.{same_is, differs, found_type, place_found}

-- ---- the keys of a join

both : (a b : Bool) → (a && not b) ≡ true → (a ≡ true) × (b ≡ false)
both true false e = (refl, refl)
both true true e = absurd (cc)
both false b e = absurd (cc)

matched_types : (ls rs : List Field) (at : ℕ) (p q : ℕ × Ty) (x : ℕ × ℕ) → type_at ls p.0 ≡ Some p.1 → type_at rs q.0 ≡ Some q.1 → matched at p q ≡ Ok x
    → Match ls rs x
matched_types ls rs at p q x left right e = by (is_key p.1 q.1) refl e where
  by : (b : Bool) → is_key p.1 q.1 ≡ b → cond {A = Verdict (ℕ × ℕ)} b (done (p.0, q.0)) (Err (mistyped at)) ≡ Ok x → Match ls rs x
  by true same g =
      let k = both (same_ty p.1 q.1) (same_ty p.1 ty.Dynamic) same in
      let right : type_at rs q.0 ≡ Some p.1 = right ∙ ap (λ (t : Ty). Some t) (sym (same_is p.1 q.1 k.0)) in
      subst (Match ls rs) (done_is (p.0, q.0) x g) (p.1, left, right, differs p.1 ty.Dynamic k.1)
  by false same g = absurd (cc)

key_matches : (text : List ℕ) (ls rs : List Field) (k : JoinKey) (x : ℕ × ℕ) → on_key text ls rs k ≡ Ok x → Match ls rs x
key_matches text ls rs (key.Both n) x e =
    let p = then_ok (place_in text ls n) (λ p. and_then (place_in text rs n) (matched (name_place n) p)) x e in
    let q = then_ok (place_in text rs n) (matched (name_place n) p.0) x p.2 in
    matched_types ls rs (name_place n) p.0 q.0 x (place_found text ls n p.0 p.1) (place_found text rs n q.0 q.1) q.2
key_matches text ls rs (key.LeftRight a t b) x e =
    let p = then_ok (place_in text ls a) (λ p. and_then (place_in text rs b) (matched t.from p)) x e in
    let q = then_ok (place_in text rs b) (matched t.from p.0) x p.2 in
    matched_types ls rs t.from p.0 q.0 x (place_found text ls a p.0 p.1) (place_found text rs b q.0 q.1) q.2
key_matches text ls rs (key.RightLeft b t a) x e =
    let q = then_ok (place_in text rs b) (λ q. and_then (place_in text ls a) (λ p. matched t.from p q)) x e in
    let p = then_ok (place_in text ls a) (λ p. matched t.from p q.0) x q.2 in
    matched_types ls rs t.from p.0 q.0 x (place_found text ls a p.0 p.1) (place_found text rs b q.0 q.1) p.2

keys_match : (text : List ℕ) (ls rs : List Field) (ks : List JoinKey) (xs : List (ℕ × ℕ)) → on_keys text ls rs ks ≡ Ok xs → All (Match ls rs) xs
keys_match text ls rs [] xs e = subst (All (Match ls rs)) (done_is [] xs e) (All-nil (Match ls rs))
keys_match text ls rs (k ∷ ks) xs e =
    let x = then_ok (on_key text ls rs k) (λ x. and_then (on_keys text ls rs ks) (λ more. done (x ∷ more))) xs e in
    let more = then_ok (on_keys text ls rs ks) (λ more. done (x.0 ∷ more)) xs x.2 in
    subst (All (Match ls rs)) (done_is (x.0 ∷ more.0) xs more.2)
    (All-cons (Match ls rs) x.0 more.0 (key_matches text ls rs k x.0 x.1) (keys_match text ls rs ks more.0 more.1))

-- ---- the columns of a join

beside_types : (ls rs : List Field) → map ty_of (beside ls rs) ≡ map ty_of ls ++ map ty_of rs
beside_types ls [] = sym (append-nil (map ty_of ls))
beside_types ls (c ∷ cs) =
    let f = field (free_name ls [] c.name) c.ty in
    beside_types (ls ++ f ∷ []) cs ∙ ap (λ (ts : List Ty). ts ++ map ty_of cs) (map-append ty_of ls (f ∷ []))
    ∙ append_assoc (map ty_of ls) (c.ty ∷ []) (map ty_of cs)

joined_types : (k : JoinKind) (ls rs : List Field) → map ty_of (join_columns k ls rs) ≡ join_types k ls rs
joined_types join.LeftSemi ls rs = refl
joined_types join.LeftAnti ls rs = refl
joined_types join.RightSemi ls rs = refl
joined_types join.RightAnti ls rs = refl
joined_types join.InnerUnique ls rs = beside_types ls rs
joined_types join.Inner ls rs = beside_types ls rs
joined_types join.LeftOuter ls rs = beside_types ls rs
joined_types join.RightOuter ls rs = beside_types ls rs
joined_types join.FullOuter ls rs = beside_types ls rs

pub joined_goes : (s : Scoping) (ss : List Stepping) (stage left : ℕ) (k : JoinKind) (r v : Flowing) (ks : List JoinKey) → Goes s ss r
    → IsGiven r.progress.steps left → joined_on s stage left k r ks ≡ Ok v → Goes s ss v
joined_goes s ss stage left k r v ks g given e =
    let ls = columns_at r.progress.steps left in
    let put = λ (on : List (ℕ × ℕ)). added r.progress stage (joined k left r.input on) (join_columns k ls (columns r)) in
    let on = then_ok (on_keys s.text ls (columns r) ks) (λ on. done (put on)) v e in
    subst (Goes s ss) (done_is (put on.0) v on.2)
    (goes_on s ss r.progress stage (joined k left r.input on.0) (join_columns k ls (columns r)) g.holds g.kept
    (ls, columns r, given, g.rows, keys_match s.text ls (columns r) ks on.0 on.1, joined_types k ls (columns r)) refl refl)

-- ---- what fills the columns of a union

filled_from : (from : List Field) (t : Ty) (o : Option (ℕ × Ty)) (f : Field) → ((p : ℕ × Ty) → o ≡ Some p → type_at from p.0 ≡ Some p.1) → f.ty ≡ t
    → IsFilled from (of_type t o) f
filled_from from t None f h is = tt
filled_from from t (Some p) f h is = by (same_ty p.1 t) refl where
  by : (b : Bool) → same_ty p.1 t ≡ b → IsFilled from (cond b (Some p.0) None) f
  by true same = h p refl ∙ ap (λ (u : Ty). Some u) (same_is p.1 t same ∙ sym is)
  by false same = tt

are_filled : (from all taken sources : List Field) → AreFilled from (filling from sources) (names_made all taken sources)
are_filled from all taken [] = tt
are_filled from all taken (f ∷ fs) =
    by (is_mixed all f) (are_filled from all taken fs) (are_filled from all (taken ++ field (typed_name taken f) f.ty ∷ []) fs) where
      here : (g : Field) → g.ty ≡ f.ty → IsFilled from (of_type f.ty (first_named 0 from f.name)) g
      here g is = filled_from from f.ty (first_named 0 from f.name) g (λ p e. found_type from f.name p e) is

      by : (b : Bool) → AreFilled from (filling from fs) (names_made all taken fs)
          → AreFilled from (filling from fs) (names_made all (taken ++ field (typed_name taken f) f.ty ∷ []) fs) → AreFilled from (filling from (f ∷ fs))
          (cond b (field (typed_name taken f) f.ty ∷ names_made all (taken ++ field (typed_name taken f) f.ty ∷ []) fs) (f ∷ names_made all taken fs))
      by true h k = (here (field (typed_name taken f) f.ty) refl, k)
      by false h k = (here f refl, h)

arms_fit : (ss : List Stepping) (is : List ℕ) (sources : List Field) → All (IsGiven ss) is
    → All (FitsArm ss (union_columns sources)) (arms_filled (arms_with ss is) sources)
arms_fit ss [] sources h = All-nil (FitsArm ss (union_columns sources))
arms_fit ss (i ∷ is) sources h =
    let from = columns_at ss i in
    let given = All-head (IsGiven ss) i is h in
    All-cons (FitsArm ss (union_columns sources)) (i, filling from sources) (arms_filled (arms_with ss is) sources)
    (from, given, are_filled from sources (keep_names sources) sources) (arms_fit ss is sources (All-tail (IsGiven ss) i is h))

pub together_goes : (s : Scoping) (ss : List Stepping) (stage : ℕ) (k : Option Symbol) (p : Progressing) (is : List ℕ) → Holds s p.steps → Kept ss p.steps
    → All (IsGiven p.steps) is → Goes s ss (all_together stage k p is)
together_goes s ss stage k p is h kept given =
    let arms = arms_with p.steps is in
    let sources = union_sources (is_inner k) (map columns_in arms) in
    goes_on s ss p stage (united (arms_filled arms sources)) (union_columns sources) h kept (arms_fit p.steps is sources given) refl refl
