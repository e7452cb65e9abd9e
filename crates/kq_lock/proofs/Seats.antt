-- What is so of each view stays so where one seat's view changes.
use Rattle.std.proofs.Common.{◌≡◌, ◌≢◌, ℕ, List, [], set, sym, subst, ⊎_elim}
use mathlib.Core.Option.{some}
use mathlib.Core.List.{IsPrefix}
use lib.ListN.{get_elem?}
use Rattle.atomic_table.proofs.Lists.{at_set}
use Rattle.kq_lock.specs.declared.view.View.{View}
use Rattle.kq_lock.specs.Rule.{EachView, IsLive, IsSpent, Knows}
use Rattle.kq_lock.proofs.Beginnings.{IsPrefix-trans, All-longer}

module _ {E : Type 0} where
  -- of each view, where the seat i has the view w
  pub each_set : (P : ℕ → View E → Type 0) (views : List (View E)) (i : ℕ) (w : View E) → P i w
      → ((j : ℕ) (v : View E) → j ≢ i → get_elem? views j ≡ some v → P j v) → EachView (set views i w) P
  each_set P views i w mine others j v e = ⊎_elim
      (λ (x : (j ≡ i) × (w ≡ v)). subst (λ k. P k v) (sym x.0) (subst (P i) x.1 mine))
      (λ (x : (j ≢ i) × (get_elem? views j ≡ some v)). others j v x.0 x.1)
      (at_set views i j w v e)

module _ {E : Type 0} (passes : ℕ) (fx : List ℕ) where
  -- a live view knows as much of a longer history
  pub Knows-longer : (g h : List E) (v : View E) → IsPrefix g h → Knows passes fx g v → Knows passes fx h v
  Knows-longer g h v longer k = record { seen = IsPrefix-trans v.seen g h k.seen longer; olds = All-longer v.olds g h k.olds longer; passes_is = k.passes_is; fixed_is = k.fixed_is }

  pub knows_set : (g h : List E) (views : List (View E)) (i : ℕ) (w : View E) → EachView views (λ _ v. IsLive v → Knows passes fx g v)
      → IsPrefix g h → (IsLive w → Knows passes fx h w) → EachView (set views i w) (λ _ v. IsLive v → Knows passes fx h v)
  knows_set g h views i w old longer mine = each_set (λ _ v. IsLive v → Knows passes fx h v) views i w mine (λ j v _ e live. Knows-longer g h v longer (old j v e live))

module _ {E : Type 0} where
  pub spent_set : (views : List (View E)) (i : ℕ) (w : View E) → EachView views (λ _ v. IsSpent v → v.added ≡ []) → (IsSpent w → w.added ≡ [])
      → EachView (set views i w) (λ _ v. IsSpent v → v.added ≡ [])
  spent_set views i w old mine = each_set (λ _ v. IsSpent v → v.added ≡ []) views i w mine (λ j v _ e. old j v e)
