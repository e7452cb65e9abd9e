-- A property whose name stands before it, by the properties before each place.
use Rattle.std.proofs.Common.{◌≡◌, ℕ, suc, ◌+◌, ◌<◌, ◌≤◌, List, [], ◌∷◌, ◌++◌, length, take, drop, get_or, Option, Some, None, sym, ap, ◌∙◌, arith, drop-cons}
use Rattle.std.proofs.lemmas.List.{take_more, drop_all}
use Rattle.kq_read_commands.specs.Ingestions.{first_named, place_if, repeated_behind}
use Rattle.kq_read_commands.specs.Meanings.{piece}
use Rattle.kq_read_commands.specs.Unsupported.{or_later}
use Rattle.kq_read_control.specs.declared.tree.Property.{Property}

module _ (text : List ℕ) (first : Property) (others : List Property) where
  -- what is left to look through
  abbrev pub repeated_from : ℕ → Option ℕ
  repeated_from i = repeated_behind text (first ∷ take i others) (drop i others)

  drop-next : (i : ℕ) (x : Property) → i < length others → x ≡ get_or others i x → drop i others ≡ x ∷ drop (i + 1) others
  drop-next i x within is =
      let more : suc i ≡ i + 1 = omega arith in
      drop-cons others i x within ∙ ap (λ y. y ∷ drop (suc i) others) (sym is) ∙ ap (λ k. x ∷ drop k others) more

  -- the properties before it, and it
  before-next : (i : ℕ) (x : Property) → i < length others → x ≡ get_or others i x → (first ∷ take i others) ++ x ∷ [] ≡ first ∷ take (i + 1) others
  before-next i x within is = ap (λ ys. first ∷ ys) (ap (λ y. take i others ++ y ∷ []) is ∙ sym (take_more others i x within))

  at-next : (i : ℕ) (x : Property) → i < length others → x ≡ get_or others i x
      → repeated_from i ≡ or_later (place_if (first_named text (piece text x.name) (first ∷ take i others)) x.name.from) (repeated_from (i + 1))
  at-next i x within is =
      ap (repeated_behind text (first ∷ take i others)) (drop-next i x within is)
      ∙ ap (λ ys. or_later (place_if (first_named text (piece text x.name) (first ∷ take i others)) x.name.from) (repeated_behind text ys (drop (i + 1) others))) (before-next i x within is)

  pub repeated-here : (i : ℕ) (x q : Property) → i < length others → x ≡ get_or others i x → first_named text (piece text x.name) (first ∷ take i others) ≡ Some q → repeated_from i ≡ Some x.name.from
  repeated-here i x q within is found = at-next i x within is ∙ ap (λ o. or_later (place_if o x.name.from) (repeated_from (i + 1))) found

  pub repeated-later : (i : ℕ) (x : Property) → i < length others → x ≡ get_or others i x → first_named text (piece text x.name) (first ∷ take i others) ≡ None → repeated_from i ≡ repeated_from (i + 1)
  repeated-later i x within is none = at-next i x within is ∙ ap (λ o. or_later (place_if o x.name.from) (repeated_from (i + 1))) none

  pub repeated-none : (i : ℕ) → length others ≤ i → repeated_from i ≡ None
  repeated-none i all = ap (repeated_behind text (first ∷ take i others)) (drop_all i others all)
