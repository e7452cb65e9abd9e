-- A view with all the worth is the only live one, so the value is at home, and each entry was added through that view.
use Rattle.std.proofs.Common.{◌≡◌, ◌≢◌, ◌⊎◌, ◌==◌, ℕ, Bool, true, false, true≢false, List, Some, sym, ap, ◌∙◌, subst, inl, inr, refl, arith}
use Rattle.std.specs.Prelude.{Option, MatchOption, sum_by, count_by}
use Rattle.std.proofs.lemmas.Bool.Decides.{nat_tests}
use mathlib.Core.Option.{some, some-injective}
use mathlib.Core.List.{IsPrefix}
use lib.ListN.{get_elem?}
use Rattle.atomic_table.specs.Seated.{TableId}
use Rattle.atomic_table.specs.Table.{State, Final, Seen}
use Rattle.kq_lock.specs.declared.view.View.{View}
use Rattle.kq_lock.specs.Passes.{Known, known, IsIdle}
use Rattle.kq_lock.specs.Rule.{EachView, IsLive, IsSpent, Knows, IsHome, IsOut, Kept}
use Rattle.kq_lock.proofs.Sums.{two-le-sum_by, sum_by-alone}

module _ {S E : Type 0} (history : S → List E) (fixed : S → List ℕ) where
  -- what a pass with all the worth learns of the value
  pub record IsWhole (p : Known E) (x : S) : Type 0 where
    pub seen : IsPrefix p.seen (history x)
    pub added : (test : E → Bool) → count_by test (history x) ≡ count_by test p.added
    pub fixed_is : fixed x ≡ p.of.fixed

  -- there is a value, and it is whole
  abbrev pub HasWhole : Known E → Option S → Type 0
  HasWhole p found = MatchOption found ⊥ (IsWhole p)

module _ {S E : Type 0} (history : S → List E) (fixed : S → List ℕ) (passes : ℕ) (fx : List ℕ) where
  abbrev K : State (Option S) (View E) → Type 0
  K = Kept history fixed passes fx

  at_home : (table : TableId) (id : ℕ) (v : View E) (words : List ℕ) (slots : List (Option S)) (found : Option S) → v.holds ≡ false → v.worth ≡ v.passes → IsLive v
      → Final (Seen K id v) words slots → get_elem? slots 0 ≡ some found → HasWhole history fixed (known table v) found
  at_home table id v words slots found idle whole live last there = go kept.place
    where
      kept : K last.0
      kept = last.1.0

      at : get_elem? last.0.views id ≡ some v
      at = last.1.1

      f : Knows passes fx kept.h v
      f = kept.knows id v at live

      others : EachView last.0.views (λ j w. j ≢ id → IsSpent w)
      others j w e apart = let two = two-le-sum_by (λ u. u.worth) last.0.views j id w v e at apart in omega (arith, two, kept.worths, whole, f.passes_is)

      go : IsHome history fixed passes fx kept.h last.0 ⊎ IsOut history fixed passes fx kept.h last.0 → HasWhole history fixed (known table v) found
      go (inl home) =
          let here = last.4 0 (Some home.value) (ap (λ hs. get_elem? hs 0) home.homes) in
          let all : (test : E → Bool) → sum_by (λ u. count_by test u.added) last.0.views ≡ count_by test v.added = λ test. sum_by-alone (λ u. count_by test u.added) last.0.views id v at (λ j w e apart. ap (count_by test) (kept.spent j w e (others j w e apart))) in
          subst (HasWhole history fixed (known table v)) (sym (some-injective found (Some home.value) (sym there ∙ here))) (record {
            seen = subst (IsPrefix v.seen) (sym home.history_is) f.seen;
            added = λ test. ap (count_by test) home.history_is ∙ sym (kept.adds test) ∙ all test;
            fixed_is = home.fixed_is ∙ sym f.fixed_is;
          })
      go (inr out) = absurd (by_seat (out.seat == id) refl)
        where
          by_seat : (b : Bool) → (out.seat == id) ≡ b → ⊥
          by_seat true e =
              let same : out.seat ≡ id = grind (arith, nat_tests) in
              true≢false (sym out.holds ∙ ap (λ (u : View E). u.holds) (some-injective out.holder v (sym out.there ∙ ap (get_elem? last.0.views) same ∙ at)) ∙ idle)
          by_seat false e =
              let apart : out.seat ≢ id = grind (arith, nat_tests) in
              let gone = others out.seat out.holder out.there apart in
              let live' = out.live in
              omega (arith, gone, live')

  pub closes : (table : TableId) (id : ℕ) (v : View E) (p : Known E) (words : List ℕ) (slots : List (Option S)) (found : Option S) → known table v ≡ p → IsIdle p → p.worth ≡ p.of.passes → IsLive v
      → Final (Seen K id v) words slots → get_elem? slots 0 ≡ some found → HasWhole history fixed p found
  closes table id v p words slots found is idle whole live last there =
      subst (λ (q : Known E). IsIdle q → q.worth ≡ q.of.passes → HasWhole history fixed q found) is
      (λ idle' whole'. at_home table id v words slots found idle' whole' live last there) idle whole
