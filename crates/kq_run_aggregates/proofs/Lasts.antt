-- The last of several in an order, with others.
use Rattle.std.proofs.Common.{◌≡◌, Bool, true, false, cond, List, [], ◌∷◌, ◌++◌, Option, Some, None, refl, sym, ap, ◌∙◌, subst, append-nil}
use Rattle.std.specs.declared.cmp.Ordering.{Ordering}
use Rattle.std.specs.declared.cmp.Ordering.TheVariants.{Less, Equal, Greater}
use Rattle.std.specs.Ordering.{is_gt, ordering_reverse}
use Rattle.std.specs.Cmp.{IsTotalOrder, bool_cmp_total}
use Rattle.std.proofs.lemmas.Cmp.{upto, tied_itself, on_total, back_total}
use Rattle.std.specs.Cmp.Lexicographic.{options_total}
use Rattle.std.proofs.lemmas.List.Elements.{All-nil, All-cons, All-append, All-weaker, Contains-append_left, Contains-append_right, Contains-push}
use Rattle.kq_value.proofs.Totals.{value_cmp_total}
use Rattle.kq_run_aggregates.specs.Ranks.{side_cmp, key_of, is_hollow, choice_cmp, IsLast}
use Rattle.kq_run_aggregates.specs.Steps.{with_one, with_any}
use Rattle.kq_run_aggregates.specs.declared.kind.Side.{Side}
use Rattle.kq_run_aggregates.specs.declared.kind.Side.TheVariants as side
use Rattle.kq_run_aggregates.specs.declared.kind.Choice.{Choice}
use Rattle.kq_run_aggregates.specs.declared.kind.Choice.TheVariants as choice

pub side_total : (s : Side) → IsTotalOrder (side_cmp s)
side_total side.Greatest = value_cmp_total
side_total side.Least = back_total value_cmp_total

pub choice_total : (c : Choice) → IsTotalOrder (choice_cmp c)
choice_total (choice.By s) = on_total key_of (options_total (side_total s))
choice_total choice.Any = back_total (on_total is_hollow bool_cmp_total)

reversed : (o : Ordering) → is_gt o ≡ true → is_gt (ordering_reverse o) ≡ false
reversed Less h = absurd cc
reversed Equal h = absurd cc
reversed Greater h = refl

module _ {X : Type 0} {R : X → X → Ordering} (o : IsTotalOrder R) where
  -- the later of two last ones
  later : (xs ys : List X) (x y : X) (b : Bool) → is_gt (R y x) ≡ b → IsLast R xs (Some x) → IsLast R ys (Some y) → IsLast R (xs ++ ys) (cond b (Some y) (Some x))
  later xs ys x y true e h k =
      let back : is_gt (R x y) ≡ false = ap is_gt (o.antisymm x y) ∙ reversed (R y x) e in
      (Contains-append_right xs ys y k.0, All-append (λ z. is_gt (R z y) ≡ false) xs ys (All-weaker (λ z. is_gt (R z x) ≡ false) (λ z. is_gt (R z y) ≡ false) (λ z l. upto o z x y l back) xs h.1) k.1)
  later xs ys x y false e h k =
      (Contains-append_left xs ys x h.0, All-append (λ z. is_gt (R z x) ≡ false) xs ys h.1 (All-weaker (λ z. is_gt (R z y) ≡ false) (λ z. is_gt (R z x) ≡ false) (λ z l. upto o z y x l e) ys k.1))

  pub IsLast-with_any : (xs ys : List X) (p q : Option X) → IsLast R xs p → IsLast R ys q → IsLast R (xs ++ ys) (with_any R p q)
  IsLast-with_any xs ys None None h k = rw (h, k) refl
  IsLast-with_any xs ys None (Some y) h k = subst (λ (zs : List X). IsLast R (zs ++ ys) (Some y)) (sym h) k
  IsLast-with_any xs ys (Some x) None h k = subst (λ (zs : List X). IsLast R (xs ++ zs) (Some x)) (sym k) (rw append-nil h)
  IsLast-with_any xs ys (Some x) (Some y) h k = later xs ys x y (is_gt (R y x)) refl h k

  alone : (y : X) → IsLast R (y ∷ []) (Some y)
  alone y = (Contains-push [] y, All-cons (λ z. is_gt (R z y) ≡ false) y [] (ap is_gt (tied_itself o y)) (All-nil _))

  pub IsLast-with_one : (xs : List X) (p : Option X) (y : X) → IsLast R xs p → IsLast R (xs ++ y ∷ []) (with_one R p y)
  IsLast-with_one xs p y h = IsLast-with_any xs (y ∷ []) p (Some y) h (alone y)
