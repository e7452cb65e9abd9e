-- The first pass keeps the rule.
use Rattle.std.proofs.Common.{◌≡◌, ◌≤◌, ℕ, zero, suc, false, List, [], ◌∷◌, length, map, Some, sym, ap, ◌∙◌, refl, subst, inl, arith}
use Rattle.std.specs.Prelude.{Option, sum_by, count_by}
use Rattle.std.proofs.lemmas.List.Elements.{All-nil}
use Rattle.std.proofs.lemmas.List.Sums.{sum_by-cons}
use mathlib.Core.Option.{some, some-injective, some-ne-none}
use mathlib.Core.List.{IsPrefix}
use Rattle.atomic_table.specs.Table.{opening}
use Rattle.kq_lock.specs.declared.view.View.{View}
use Rattle.kq_lock.specs.Views.{first_view}
use Rattle.kq_lock.specs.Rule.{EachView, IsLive, IsSpent, Knows, Kept}
use Rattle.kq_lock.proofs.Beginnings.{IsPrefix-refl}

module _ {E : Type 0} where
  each_one : (P : ℕ → View E → Type 0) (w : View E) → P 0 w → EachView (w ∷ []) P
  each_one P w mine zero v e = subst (P 0) (some-injective w v e) mine
  each_one P w mine (suc j) v e = absurd (some-ne-none v (sym e))

  one_sum : (f : View E → ℕ) (w : View E) → sum_by f (w ∷ []) ≡ f w
  one_sum f w =
      let cons = sum_by-cons f w [] in
      let none : sum_by f [] ≡ 0 = refl in
      omega (arith, cons, none)

module _ {S E : Type 0} (history : S → List E) (fixed : S → List ℕ) where
  -- y is the value x that is put behind the lock, as it was when the table was told of it
  pub starts : (passes count : ℕ) (x y : S) (items : List (Option S)) → 1 ≤ passes → count ≡ length (history x) → y ≡ x → items ≡ Some x ∷ []
      → Kept history fixed passes (fixed y) (opening (0 ∷ count ∷ []) items (first_view history fixed passes y))
  starts passes count x y items some_passes is same held =
      let w : View E = first_view history fixed passes y in
      record {
        h = history y;
        place = inl (record {
          value = x;
          words = ap (λ n. 0 ∷ n ∷ []) (is ∙ ap (λ z. length (history z)) (sym same));
          homes = ap (map some) held;
          history_is = ap history (sym same);
          fixed_is = ap fixed (sym same);
          nobody = each_one (λ _ v. v.holds ≡ false) w refl;
        });
        knows = each_one (λ _ v. IsLive v → Knows passes (fixed y) (history y) v) w
            (λ _. record { seen = IsPrefix-refl (history y); olds = All-nil (λ old. IsPrefix old (history y)); passes_is = refl; fixed_is = refl });
        worths = one_sum (λ v. v.worth) w;
        adds = λ test. one_sum (λ v. count_by test v.added) w;
        spent = each_one (λ _ v. IsSpent v → v.added ≡ []) w (λ gone. absurd (omega (arith, gone, some_passes)));
      }
