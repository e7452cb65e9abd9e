-- One state of a table changes.
use Rattle.std.proofs.Common.{◌≡◌, ◌<◌, ℕ, List, Result, length, map, get_or, sym, ap, ◌∙◌, subst}
use Rattle.std.specs.Prelude.{OnOk, OnErr}
use Rattle.std.proofs.Math.Seq.{map-set_same}
use Rattle.std.proofs.Math.ListN.{set}
use Rattle.std.proofs.lemmas.List.{get_or-map, get_or-set_same, get_or-set_other, map-set, length-set, length-map}
use Rattle.std.proofs.lemmas.Result.{on_ok_weaker, on_err_weaker}
use Rattle.kq_run_aggregates.specs.Holds.{Kept, counted}
use Rattle.kq_run_aggregates.specs.Steps.{ChangesAt, kept_at}

module _ {X : Type 0} (f : X → Kept) (R : Kept → Kept → Type 0) (xs : List X) (g : ℕ) (x y : X) where
  pub ChangesAt-set : g < length xs → x ≡ get_or xs g x → R (f x) (f y) → ChangesAt g R (map f xs) (map f (set xs g y))
  ChangesAt-set h at r = record {
    changes =
        let old : kept_at (map f xs) g ≡ f x = get_or-map f xs g x (counted 0) h ∙ ap f (sym at) in
        let new : kept_at (map f (set xs g y)) g ≡ f y = get_or-map f (set xs g y) g y (counted 0) (rw (length-set xs g y) h) ∙ ap f (get_or-set_same xs g y y h) in
        rw (old, new) r;
    others = λ k ne. ap (λ zs. get_or zs k (counted 0)) (map-set f xs g y) ∙ get_or-set_other (map f xs) g k (f y) (counted 0) ne;
    count = length-map (set xs g y) f ∙ length-set xs g y ∙ sym (length-map xs f);
  }

  -- where it changes as it should if all went well
  pub ChangesAt-ok : {T E Q : Type 0} (r : Result T E) → g < length (map f xs) → x ≡ get_or xs g x → OnOk r Q → (Q → R (f x) (f y)) → OnOk r (ChangesAt g R (map f xs) (map f (set xs g y)))
  ChangesAt-ok r h at q change = on_ok_weaker r (λ k. ChangesAt-set (rw (length-map xs f) at h) at (change k)) q

-- what is kept of a group is that of its state
pub kept_at-map : {X : Type 0} (f : X → Kept) (xs : List X) (g : ℕ) (x : X) → g < length (map f xs) → x ≡ get_or xs g x → kept_at (map f xs) g ≡ f x
kept_at-map f xs g x h at = get_or-map f xs g x (counted 0) (rw (length-map xs f) at h) ∙ ap f (sym at)

-- where the state is as it was if it was refused
pub Unchanged-err : {X T E P : Type 0} (f : X → Kept) (May : Kept → Type 0) (xs : List X) (g : ℕ) (x y : X) (r : Result T E) → g < length (map f xs) → x ≡ get_or xs g x
    → OnErr r P → (P → (y ≡ x) × May (f x)) → OnErr r ((map f (set xs g y) ≡ map f xs) × May (kept_at (map f xs) g))
Unchanged-err f May xs g x y r h at q why = on_err_weaker r
    (λ p. (map-set_same f xs g y x (ap f ((why p).0 ∙ at)), subst May (sym (kept_at-map f xs g x h at)) (why p).1))
    q
