-- Laws of the three values of truth.
use Rattle.std.proofs.Common.{◌≡◌, ℕ, suc, ◌+◌, ◌<◌, List, [], ◌∷◌, length, get_or, drop, drop-cons, add-one, ap, Bool, true, false, ◌||◌, ◌&&◌, refl, sym, ◌∙◌}
use Rattle.std.specs.Prelude.{if◌then◌else◌}
use Rattle.kq_value.specs.declared.ty.Ty.TheVariants as ty
use Rattle.kq_value.specs.declared.value.Value.{Value}
use Rattle.kq_value.specs.declared.value.Value.TheVariants.{Null, Bool as Truth}
use Rattle.kq_value_arithmetic.specs.Logic.{is_yes, is_no, disjunction, in_list}

-- the `or` of two sides, by what is yes and what is no among them
abbrev or_by : Bool → Bool → Bool → Bool → Value
or_by ya na yb nb = if ya || yb then Truth true else (if na && nb then Truth false else Null ty.Bool)

joined_by : (ya na yb nb yc nc : Bool)
    → or_by (is_yes (or_by ya na yb nb)) (is_no (or_by ya na yb nb)) yc nc ≡ or_by ya na (is_yes (or_by yb nb yc nc)) (is_no (or_by yb nb yc nc))
joined_by true na yb nb yc nc = refl
joined_by false na true nb yc nc = refl
joined_by false true false true true nc = refl
joined_by false true false true false true = refl
joined_by false true false true false false = refl
joined_by false true false false true nc = refl
joined_by false true false false false nc = refl
joined_by false false false true true nc = refl
joined_by false false false true false true = refl
joined_by false false false true false false = refl
joined_by false false false false true nc = refl
joined_by false false false false false nc = refl

pub disjunction_assoc : (a b c : Value) → disjunction (disjunction a b) c ≡ disjunction a (disjunction b c)
disjunction_assoc a b c = joined_by (is_yes a) (is_no a) (is_yes b) (is_no b) (is_yes c) (is_no c)

settled_by : (ya na yb nb : Bool) → or_by (is_yes (or_by ya na yb nb)) (is_no (or_by ya na yb nb)) false true ≡ or_by ya na yb nb
settled_by true na yb nb = refl
settled_by false na true nb = refl
settled_by false true false true = refl
settled_by false true false false = refl
settled_by false false false nb = refl

-- one false more changes nothing
pub disjunction_false : (a b : Value) → disjunction (disjunction a b) (Truth false) ≡ disjunction a b
disjunction_false a b = settled_by (is_yes a) (is_no a) (is_yes b) (is_no b)

-- a yes settles it
pub disjunction_yes : (a b : Value) → is_yes a ≡ true → disjunction a b ≡ Truth true
disjunction_yes a b h = rw h refl

pub disjunction_itself : (a : Value) → disjunction a (Truth false) ≡ a → is_yes a ≡ true → a ≡ Truth true
disjunction_itself a e h = sym e ∙ disjunction_yes a (Truth false) h

-- one false before changes nothing either
false_settled : (ya na yb nb : Bool) → or_by false true (is_yes (or_by ya na yb nb)) (is_no (or_by ya na yb nb)) ≡ or_by ya na yb nb
false_settled true na yb nb = refl
false_settled false na true nb = refl
false_settled false true false true = refl
false_settled false true false false = refl
false_settled false false false nb = refl

pub false_in_list : (equality : Value → Value → Value) (x : Value) (vs : List Value) → in_list equality x vs ≡ disjunction (Truth false) (in_list equality x vs)
false_in_list equality x [] = refl
false_in_list equality x (v ∷ vs) = let e = equality x v in let r = in_list equality x vs in sym (false_settled (is_yes e) (is_no e) (is_yes r) (is_no r))

-- one value more
pub more_in_list : (equality : Value → Value → Value) (x found v whole : Value) (vs : List Value) (i : ℕ) → i < length vs → v ≡ get_or vs i v
    → whole ≡ disjunction found (in_list equality x (drop i vs)) → whole ≡ disjunction (disjunction found (equality x v)) (in_list equality x (drop (i + 1) vs))
more_in_list equality x found v whole vs i within is so_far =
    let next : drop i vs ≡ v ∷ drop (suc i) vs = drop-cons vs i v within ∙ ap (λ y. y ∷ drop (suc i) vs) (sym is) in
    let all : whole ≡ disjunction found (in_list equality x (v ∷ drop (suc i) vs)) = so_far ∙ ap (λ ws. disjunction found (in_list equality x ws)) next in
    rw (add-one i) (all ∙ sym (disjunction_assoc found (equality x v) (in_list equality x (drop (suc i) vs))))
