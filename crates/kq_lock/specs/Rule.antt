-- The rule of the lock: two words, `turn` and `count`, one slot, and a view for each pass.
use Rattle.std.specs.Prelude.{◌≡◌, ◌⊎◌, ◌<◌, ℕ, Bool, true, false, List, [], ◌∷◌, length, Option, Some, All, sum_by, count_by}
use mathlib.Core.Option.{some, none}
use mathlib.Core.List.{IsPrefix}
use lib.ListN.{get_elem?}
use Rattle.atomic_table.specs.Table.{State}
use Rattle.kq_lock.specs.declared.view.View.{View}

module _ {E : Type 0} where
  -- a view is live until its pass was joined into another; its worth is then 0
  abbrev pub IsLive : View E → Type 0
  IsLive v = 0 < v.worth

  abbrev pub IsSpent : View E → Type 0
  IsSpent v = v.worth ≡ 0

  -- each view, with the number of its seat
  abbrev pub EachView : List (View E) → (ℕ → View E → Type 0) → Type 0
  EachView views P = (seat : ℕ) (v : View E) → get_elem? views seat ≡ some v → P seat v

  -- what a live view knows is so: h is the history
  pub record Knows (passes : ℕ) (fx : List ℕ) (h : List E) (v : View E) : Type 0 where
    pub seen : IsPrefix v.seen h
    pub olds : All (λ old. IsPrefix old h) v.olds
    pub passes_is : v.passes ≡ passes
    pub fixed_is : v.fixed ≡ fx

module _ {S E : Type 0} (history : S → List E) (fixed : S → List ℕ) (passes : ℕ) (fx : List ℕ) where
  -- `turn` is 0, no view holds, and the slot is home with a value, whose history is h
  pub record IsHome (h : List E) (s : State (Option S) (View E)) : Type 0 where
    pub value : S
    pub words : s.words ≡ 0 ∷ length h ∷ []
    pub homes : s.homes ≡ some (Some value) ∷ []
    pub history_is : history value ≡ h
    pub fixed_is : fixed value ≡ fx
    pub nobody : EachView s.views (λ _ v. v.holds ≡ false)

  -- `turn` is 1, exactly one view holds, which is live and has the base h, and the slot is out with its seat
  pub record IsOut (h : List E) (s : State (Option S) (View E)) : Type 0 where
    pub seat : ℕ
    pub holder : View E
    pub words : s.words ≡ 1 ∷ length h ∷ []
    pub homes : s.homes ≡ none ∷ []
    pub there : get_elem? s.views seat ≡ some holder
    pub holds : holder.holds ≡ true
    pub live : IsLive holder
    pub base : holder.base ≡ h
    pub alone : EachView s.views (λ other v. v.holds ≡ true → other ≡ seat)

  -- all of it, with h the history
  pub record Kept (s : State (Option S) (View E)) : Type 0 where
    pub h : List E
    pub place : IsHome h s ⊎ IsOut h s
    pub knows : EachView s.views (λ _ v. IsLive v → Knows passes fx h v)
    pub worths : sum_by (λ v. v.worth) s.views ≡ passes
    pub adds : (test : E → Bool) → sum_by (λ v. count_by test v.added) s.views ≡ count_by test h
    pub spent : EachView s.views (λ _ v. IsSpent v → v.added ≡ [])
