-- `seat split` and `seat join` keep the rule.
use Rattle.std.proofs.Common.{◌≡◌, ◌≢◌, ◌⊎◌, ◌≤◌, ◌+◌, ℕ, Bool, true, false, true≢false, List, [], ◌∷◌, ◌++◌, length, set, sym, ap, ◌∙◌, refl, subst, inl, inr, ⊎_elim, arith, cond, add-zero}
use Rattle.std.specs.Prelude.{Option, All, nat_lt, if◌then◌else◌, sum_by, count_by}
use Rattle.std.proofs.lemmas.List.Elements.{All-nil, All-cons, All-append}
use Rattle.std.proofs.lemmas.List.Sums.{sum_by-append, sum_by-cons}
use mathlib.Core.Option.{some, some-injective}
use mathlib.Core.List.{IsPrefix}
use lib.ListN.{get_elem?}
use Rattle.atomic_table.specs.Table.{State, Splits, Joins}
use Rattle.atomic_table.proofs.Lists.{at_snoc, at_longer, set_else}
use Rattle.kq_lock.specs.declared.view.View.{View}
use Rattle.kq_lock.specs.Histories.{IsLongerOf}
use Rattle.kq_lock.specs.Views.{left_view, right_view, joined_view, spent_view}
use Rattle.kq_lock.specs.Rule.{EachView, IsLive, IsSpent, Knows, IsHome, IsOut, Kept}
use Rattle.kq_lock.proofs.Beginnings.{IsPrefix-refl, longer_of}
use Rattle.kq_lock.proofs.Sums.{sum_by-set_at}
use Rattle.kq_lock.proofs.Seats.{each_set, knows_set, spent_set}

module _ {S E : Type 0} (history : S → List E) (fixed : S → List ℕ) (passes : ℕ) (fx : List ℕ) where
  abbrev K : State (Option S) (View E) → Type 0
  K = Kept history fixed passes fx

  abbrev Home : List E → State (Option S) (View E) → Type 0
  Home = IsHome history fixed passes fx

  abbrev Out : List E → State (Option S) (View E) → Type 0
  Out = IsOut history fixed passes fx

  -- the seat that holds the value is another than one that doesn't
  apart_from : (h : List E) (s : State (Option S) (View E)) (id : ℕ) (v : View E) → get_elem? s.views id ≡ some v → v.holds ≡ false → (out : Out h s) → out.seat ≢ id
  apart_from h s id v at idle out same = true≢false (sym out.holds ∙ ap (λ (u : View E). u.holds) (some-injective out.holder v (sym out.there ∙ ap (get_elem? s.views) same ∙ at)) ∙ idle)

  -- of each view, where one more seat has the view w
  each_snoc : (P : ℕ → View E → Type 0) (views : List (View E)) (w : View E) → EachView views P → ((j : ℕ) → P j w) → EachView (views ++ w ∷ []) P
  each_snoc P views w old mine j v e = ⊎_elim (λ was. old j v was) (λ (same : w ≡ v). subst (P j) same (mine j)) (at_snoc views w v j e)

  -- the views after a split, of which a term is shared out between the two
  sum_split : (f : View E → ℕ) (views : List (View E)) (id total : ℕ) (v : View E) → get_elem? views id ≡ some v → f (left_view v) + f (right_view v) ≡ f v
      → sum_by f views ≡ total → sum_by f (set views id (left_view v) ++ right_view v ∷ []) ≡ total
  sum_split f views id total v at shared all =
      let set_at = sum_by-set_at f views id v (left_view v) at in
      let more = sum_by-append f (set views id (left_view v)) (right_view v ∷ []) in
      let last = sum_by-cons f (right_view v) [] in
      let none : sum_by f [] ≡ 0 = refl in
      omega (arith, set_at, more, last, none, shared, all)

  sum_join : (f : View E → ℕ) (views : List (View E)) (id other total : ℕ) (v w : View E) → get_elem? views id ≡ some v → get_elem? (set views id (joined_view v w)) other ≡ some w
      → f (joined_view v w) ≡ f v + f w → f spent_view ≡ 0 → sum_by f views ≡ total → sum_by f (set (set views id (joined_view v w)) other spent_view) ≡ total
  sum_join f views id other total v w at there both nothing all =
      let first = sum_by-set_at f views id v (joined_view v w) at in
      let second = sum_by-set_at f (set views id (joined_view v w)) other w spent_view there in
      omega (arith, first, second, both, nothing, all)

  pub splits : (id : ℕ) (v : View E) → v.holds ≡ false → 2 ≤ v.worth → Splits K id v (left_view v) (right_view v)
  splits id v idle two s kept at = record {
    h = kept.h;
    place = go kept.place;
    knows = each_snoc (λ _ u. IsLive u → Knows passes fx kept.h u) (set s.views id (left_view v)) (right_view v)
        (knows_set passes fx kept.h kept.h s.views id (left_view v) kept.knows (IsPrefix-refl kept.h) (λ _. record { seen = f.seen; olds = f.olds; passes_is = f.passes_is; fixed_is = f.fixed_is }))
        (λ _ _. record { seen = f.seen; olds = All-nil (λ old. IsPrefix old kept.h); passes_is = f.passes_is; fixed_is = f.fixed_is });
    worths = sum_split (λ u. u.worth) s.views id passes v at (omega (arith, two)) kept.worths;
    adds = λ test. sum_split (λ u. count_by test u.added) s.views id (count_by test kept.h) v at (add-zero (count_by test v.added)) (kept.adds test);
    spent = each_snoc (λ _ u. IsSpent u → u.added ≡ []) (set s.views id (left_view v)) (right_view v)
        (spent_set s.views id (left_view v) kept.spent (λ gone. absurd (omega (arith, gone, two))))
        (λ _ _. refl);
  }
    where
      f : Knows passes fx kept.h v
      f = kept.knows id v at (omega (arith, two))

      go : Home kept.h s ⊎ Out kept.h s → Home kept.h (record { words = s.words; homes = s.homes; views = set s.views id (left_view v) ++ right_view v ∷ [] }) ⊎ Out kept.h (record { words = s.words; homes = s.homes; views = set s.views id (left_view v) ++ right_view v ∷ [] })
      go (inl home) = inl (record {
        value = home.value;
        words = home.words;
        homes = home.homes;
        history_is = home.history_is;
        fixed_is = home.fixed_is;
        nobody = each_snoc (λ _ u. u.holds ≡ false) (set s.views id (left_view v)) (right_view v)
            (each_set (λ _ u. u.holds ≡ false) s.views id (left_view v) idle (λ j u _ e. home.nobody j u e))
            (λ _. refl);
      })
      go (inr out) = inr (record {
        seat = out.seat;
        holder = out.holder;
        words = out.words;
        homes = out.homes;
        there = at_longer (set s.views id (left_view v)) (right_view v ∷ []) out.seat out.holder
            (set_else s.views id out.seat (left_view v) (apart_from kept.h s id v at idle out) ∙ out.there);
        holds = out.holds;
        live = out.live;
        base = out.base;
        alone = each_snoc (λ other u. u.holds ≡ true → other ≡ out.seat) (set s.views id (left_view v)) (right_view v)
            (each_set (λ other u. u.holds ≡ true → other ≡ out.seat) s.views id (left_view v) (λ held. absurd (true≢false (sym held ∙ idle))) (λ j u _ e held. out.alone j u e held))
            (λ _ held. absurd (true≢false (sym held)));
      })

  pub joins : (id : ℕ) (v : View E) (other : ℕ) (w : View E) → v.holds ≡ false → w.holds ≡ false → IsLive v → IsLive w → Joins K id v other w (joined_view v w) spent_view
  joins id v other w idle idle' live live' s kept at apart there = record {
    h = kept.h;
    place = go kept.place;
    knows = knows_set passes fx kept.h kept.h (set s.views id (joined_view v w)) other spent_view
        (knows_set passes fx kept.h kept.h s.views id (joined_view v w) kept.knows (IsPrefix-refl kept.h) (λ _. record { seen = seen (nat_lt (length v.seen) (length w.seen)); olds = olds; passes_is = f.passes_is; fixed_is = f.fixed_is }))
        (IsPrefix-refl kept.h)
        (λ alive. absurd (omega (arith, alive)));
    worths = sum_join (λ u. u.worth) s.views id other passes v w at there refl refl kept.worths;
    adds = λ test. sum_join (λ u. count_by test u.added) s.views id other (count_by test kept.h) v w at there (sum_by-append (λ x. cond (test x) 1 0) v.added w.added) refl (kept.adds test);
    spent = spent_set (set s.views id (joined_view v w)) other spent_view
        (spent_set s.views id (joined_view v w) kept.spent (λ gone. absurd (omega (arith, gone, live))))
        (λ _. refl);
  }
    where
      was : get_elem? s.views other ≡ some w
      was = sym (set_else s.views id other (joined_view v w) apart) ∙ there

      f : Knows passes fx kept.h v
      f = kept.knows id v at live

      k : Knows passes fx kept.h w
      k = kept.knows other w was live'

      seen : (t : Bool) → IsPrefix (if t then w.seen else v.seen) kept.h
      seen true = k.seen
      seen false = f.seen

      olds : All (λ old. IsPrefix old kept.h) (v.seen ∷ w.seen ∷ (v.olds ++ w.olds))
      olds = let P : List E → Type 0 = λ old. IsPrefix old kept.h in
          All-cons P v.seen (w.seen ∷ (v.olds ++ w.olds)) f.seen (All-cons P w.seen (v.olds ++ w.olds) k.seen (All-append P v.olds w.olds f.olds k.olds))

      -- of each view that is left, where it is so of those that don't hold
      each_left : (P : ℕ → View E → Type 0) → EachView s.views P → ((j : ℕ) (u : View E) → u.holds ≡ false → P j u) → EachView (set (set s.views id (joined_view v w)) other spent_view) P
      each_left P old free = each_set P (set s.views id (joined_view v w)) other spent_view (free other spent_view refl)
          (λ j u _ e. each_set P s.views id (joined_view v w) (free id (joined_view v w) idle) (λ i x _ d. old i x d) j u e)

      go : Home kept.h s ⊎ Out kept.h s → Home kept.h (record { words = s.words; homes = s.homes; views = set (set s.views id (joined_view v w)) other spent_view }) ⊎ Out kept.h (record { words = s.words; homes = s.homes; views = set (set s.views id (joined_view v w)) other spent_view })
      go (inl home) = inl (record {
        value = home.value;
        words = home.words;
        homes = home.homes;
        history_is = home.history_is;
        fixed_is = home.fixed_is;
        nobody = each_left (λ _ u. u.holds ≡ false) home.nobody (λ _ _ free. free);
      })
      go (inr out) = inr (record {
        seat = out.seat;
        holder = out.holder;
        words = out.words;
        homes = out.homes;
        there = set_else (set s.views id (joined_view v w)) other out.seat spent_view (apart_from kept.h s other w was idle' out)
            ∙ set_else s.views id out.seat (joined_view v w) (apart_from kept.h s id v at idle out) ∙ out.there;
        holds = out.holds;
        live = out.live;
        base = out.base;
        alone = each_left (λ j u. u.holds ≡ true → j ≡ out.seat) out.alone (λ _ _ free held. absurd (true≢false (sym held ∙ free)));
      })

module _ {E : Type 0} where
  -- what was seen after a join, where all that both had seen begins one history
  pub joined_seen : (v w : View E) (g h both all : List E) → v.seen ≡ g → w.seen ≡ h → both ≡ (joined_view v w).seen
      → All (λ old. IsPrefix old all) (joined_view v w).olds → IsLongerOf g h both
  joined_seen v w g h both all first second is olds =
      let longest : IsLongerOf v.seen w.seen (joined_view v w).seen = longer_of v.seen w.seen all (olds 0 [] (omega arith)) (olds 1 [] (omega arith)) in
      subst (λ x. IsLongerOf x h both) first (subst (λ y. IsLongerOf v.seen y both) second (subst (IsLongerOf v.seen w.seen) (sym is) longest))
