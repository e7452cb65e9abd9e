-- The states of an aggregate as rows come.
use Rattle.std.proofs.Common.{◌≡◌, ◌<◌, ◌≤◌, ◌+◌, inl, inr, ℕ, List, [], ◌∷◌, ◌++◌, length, map, get_or, set, take, refl, sym, ap, ◌∙◌, subst, arith}
use Rattle.std.proofs.lemmas.Bool.{cases_eq}
use Rattle.kq_run_aggregates.specs.Holds.{Kept, Holds}
use Rattle.kq_run_aggregates.specs.Steps.{kept_at, of_group, Grows, TakesIn}
use Rattle.kq_run_aggregates.specs.Tables.{Numbered, SameShape}
use Rattle.kq_run_aggregates.specs.declared.kind.Kind.{Kind}
use Rattle.kq_value.specs.declared.value.Value.{Value}
use Rattle.std.proofs.lemmas.List.{get_or-map, get_or-set_other, get_or-set_same, map-append, take_more}
use Rattle.std.proofs.lemmas.Option.{get_or_from_slice_get, slice_get_read}
use Rattle.kq_run_groups.specs.Grouped.{AggregateShape}
use Rattle.kq_run_groups.specs.Arguments.{rows_given, rows_in}
use Rattle.kq_run_groups.specs.declared.argument.Argument.{Argument}
use Rattle.kq_run_groups.specs.Groups.{Gathers, HasNoRows, Lengthens, args_at, nothing, shape_of, state_at}

-- a fact on what an aggregate keeps, of another of its kind
moved : (k l : Kind) (rows : List (List Value)) (a b : Kept) → k ≡ l → a ≡ b → Holds k rows b → Holds l rows a
moved k l rows a b same is h = subst (λ (m : Kind). Holds m rows a) same (subst (Holds k rows) (sym is) h)

-- one group more
pub Lengthens-more : (s m t : Numbered) → Lengthens (length m.kept) s m → length s.kept ≤ length m.kept → SameShape m t → Grows m.kind m.kept t.kept → Lengthens (length t.kept) s t
Lengthens-more s m t l longer shape g = record {
  shape = (shape.0 ∙ l.shape.0, shape.1 ∙ l.shape.1);
  count_is = refl;
  others = λ h below. g.others h (omega (arith, below, longer)) ∙ l.others h below;
  fresh = λ h past within. elim (cases_eq h (length m.kept)) [
    | inl last ↦ subst (λ (i : ℕ). Holds s.kind [] (kept_at t.kept i)) (sym last) (moved m.kind s.kind [] (kept_at t.kept (length m.kept)) _ l.shape.0 refl g.fresh)
    | inr other ↦
        let below : h < length m.kept = let n = g.count in omega (arith, n, within, other) in
        moved s.kind s.kind [] (kept_at t.kept h) (kept_at m.kept h) refl (g.others h below) (l.fresh h past below)
  ];
}

-- and then rows
pub Gathers-rows : (s m t : Numbered) (count : ℕ) (ns : List ℕ) (rows : List (List Value)) → Lengthens count s m → length s.kept ≤ count → SameShape m t → TakesIn m.kind ns rows m.kept t.kept → Gathers ns rows count s t
Gathers-rows s m t count ns rows l longer shape takes = record {
  shape = (shape.0 ∙ l.shape.0, shape.1 ∙ l.shape.1);
  count_is = takes.count ∙ l.count_is;
  more = λ h before below holds.
      subst (λ (k : Kind). Holds k (before ++ of_group h ns rows) (kept_at t.kept h)) l.shape.0
      (takes.more h before (let n = l.count_is in omega (arith, n, below, longer)) (moved s.kind m.kind before (kept_at m.kept h) (kept_at s.kept h) (sym l.shape.0) (l.others h below) holds));
  fresh = λ h past within.
      subst (λ (k : Kind). Holds k (of_group h ns rows) (kept_at t.kept h)) l.shape.0
      (takes.more h [] (let n = l.count_is in omega (arith, n, within)) (moved s.kind m.kind [] (kept_at m.kept h) _ (sym l.shape.0) refl (l.fresh h past within)));
}

pub HasNoRows-new : (s t : Numbered) (count : ℕ) → s.kept ≡ [] → Lengthens count s t → HasNoRows count t
HasNoRows-new s t count none l = record {
  count_is = l.count_is;
  fresh = λ h within. subst (λ (k : Kind). Holds k [] (kept_at t.kept h)) (sym l.shape.0) (l.fresh h (let n = ap length none in omega (arith, n)) within);
}

-- the states of one aggregate more
pub shapes_more : (states : List Numbered) (s : Numbered) (aggregates : List AggregateShape) (i : ℕ) (a : AggregateShape) → i < length aggregates → a ≡ get_or aggregates i a → shape_of s ≡ a → map shape_of states ≡ take i aggregates
    → map shape_of (states ++ s ∷ []) ≡ take (i + 1) aggregates
shapes_more states s aggregates i a h is same before =
    map-append shape_of states (s ∷ []) ∙ ap (λ (others : List AggregateShape). others ++ shape_of s ∷ []) before ∙ ap (λ (b : AggregateShape). take i aggregates ++ b ∷ []) (same ∙ is) ∙ sym (take_more aggregates i a h)

-- the rows of arguments of one aggregate
pub given_at : (n : ℕ) (args : List Argument) (i : ℕ) (a : Argument) → i < length args → a ≡ get_or args i a → args_at (rows_given n args) i ≡ rows_in n a
given_at n args i a h at = get_or-map (rows_in n) args i a [] h ∙ ap (rows_in n) (sym at)

at_place : (states : List Numbered) (i : ℕ) (s : Numbered) → i < length states → s ≡ get_or states i s → state_at states i ≡ s
at_place states i s h at = get_or_from_slice_get states i s nothing (slice_get_read states (length states) i s refl h at)

-- the states of one aggregate more
pub gathered_more : (ns : List ℕ) (given : List (List (List Value))) (count : ℕ) (olds states : List Numbered) (i : ℕ) (rows : List (List Value)) (s t : Numbered) → i < length states → s ≡ get_or states i s → args_at given i ≡ rows
    → Gathers ns rows count s t → ((a : ℕ) → a < i → Gathers ns (args_at given a) count (state_at olds a) (state_at states a)) → ((a : ℕ) → i ≤ a → state_at states a ≡ state_at olds a)
    → (a : ℕ) → a < i + 1 → Gathers ns (args_at given a) count (state_at olds a) (state_at (set states i t) a)
gathered_more ns given count olds states i rows s t within at is gathers done rest a h = elim (cases_eq a i) [
  | inl same ↦
      let old : s ≡ state_at olds i = sym (at_place states i s within at) ∙ rest i (omega arith) in
      let new : t ≡ state_at (set states i t) i = sym (get_or-set_same states i t nothing within) in
      let here : Gathers ns (args_at given i) count (state_at olds i) (state_at (set states i t) i) =
      subst (λ (r : List (List Value)). Gathers ns r count (state_at olds i) (state_at (set states i t) i)) (sym is)
      (subst (λ (u : Numbered). Gathers ns rows count u (state_at (set states i t) i)) old (subst (λ (u : Numbered). Gathers ns rows count s u) new gathers)) in
      subst (λ (b : ℕ). Gathers ns (args_at given b) count (state_at olds b) (state_at (set states i t) b)) (sym same) here
  | inr other ↦
      subst (λ (u : Numbered). Gathers ns (args_at given a) count (state_at olds a) u) (sym (get_or-set_other states i a t nothing other)) (done a (omega (arith, h, other)))
]

pub rest_more : (olds states : List Numbered) (i : ℕ) (t : Numbered) → ((a : ℕ) → i ≤ a → state_at states a ≡ state_at olds a) → (a : ℕ) → i + 1 ≤ a → state_at (set states i t) a ≡ state_at olds a
rest_more olds states i t rest a h = get_or-set_other states i a t nothing (λ e. absurd (omega (arith, h, e))) ∙ rest a (omega (arith, h))
