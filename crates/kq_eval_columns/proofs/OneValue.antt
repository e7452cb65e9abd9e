-- A column beside one value.
use Rattle.std.proofs.Common.{◌≡◌, ℕ, zero, suc, ℤ, Bool, List, [], ◌∷◌, map, length, Option, Some, None, Result, Ok, Err, subst, refl, sym, ap, ◌∙◌, arith}
use Rattle.std.proofs.Math.ListN.{replicate}
use Rattle.std.specs.Prelude.{slice_get, IfOk, IfSome}
use Rattle.kq_value.specs.declared.value.Value.{Value}
use Rattle.kq_value.specs.declared.value.Value.TheVariants.{Null, Long, Int, Text, Bool as Truth, Moment, Span, Dynamic}
use Rattle.kq_value.specs.declared.dynamic.Dyn.TheVariants as dyn
use Rattle.kq_value.specs.Computed.{Computed, Is, and_then, each}
use Rattle.kq_eval_kernels.specs.Pairs.{each_two}
use Rattle.kq_eval_row.specs.Val.{cell_of}
use Rattle.kq_plan_functions.specs.declared.function.Function.{Function}
use Rattle.kq_plan_functions.specs.declared.function.Function.TheVariants as f
use Rattle.kq_eval_row.specs.Applied.{applied}
use Rattle.kq_store_column_view.specs.declared.vector.Vector.{Vector}
use Rattle.kq_store_column_view.specs.Vectors.{cells_of, member_at}
use Rattle.kq_eval_columns.specs.Seen.{beside_one, paired, truths_of}

-- computed values in order, or an overflow where one is
abbrev pub in_turn : {A : Type 0} → List (Computed A) → Computed (List A)
in_turn [] = Is []
in_turn (o ∷ os) = and_then o (λ z. and_then (in_turn os) (λ zs. Is (z ∷ zs)))

each-in_turn : {A B : Type 0} (f : A → Computed B) (xs : List A) → each f xs ≡ in_turn (map f xs)
each-in_turn f [] = refl
each-in_turn f (x ∷ xs) = ap (λ c. and_then (f x) (λ z. and_then c (λ zs. Is (z ∷ zs)))) (each-in_turn f xs)

in_turn-is : {A : Type 0} (zs : List A) → in_turn (map Is zs) ≡ Is zs
in_turn-is [] = refl
in_turn-is (z ∷ zs) = rw (in_turn-is zs) refl

-- where each has a value, these are the values of all
pub all_are : {A B : Type 0} (f : A → Computed B) (xs : List A) (zs : List B) → map f xs ≡ map Is zs → each f xs ≡ Is zs
all_are f xs zs e = each-in_turn f xs ∙ ap in_turn e ∙ in_turn-is zs

-- beside a column of one value
pub two-same : {A B C : Type 0} (g : A → B → Computed C) (xs : List A) (n : ℕ) (y : B) → length xs ≡ n → each_two g xs (replicate n y) ≡ each (λ x. g x y) xs
two-same g [] zero y h = refl
two-same g [] (suc n) y h = absurd (omega arith)
two-same g (x ∷ xs) zero y h = absurd (omega arith)
two-same g (x ∷ xs) (suc n) y h = ap (λ c. and_then (g x y) (λ z. and_then c (λ zs. Is (z ∷ zs)))) (two-same g xs n y (omega arith))

length-same : {A : Type 0} (n : ℕ) (y : A) → length (replicate n y) ≡ n
length-same zero y = refl
length-same (suc n) y = omega (arith, length-same n y)

pub map-twice : {A B C : Type 0} (f : B → C) (g : A → B) (xs : List A) → map f (map g xs) ≡ map (λ x. f (g x)) xs
map-twice f g [] = refl
map-twice f g (x ∷ xs) = ap (λ ys. f (g x) ∷ ys) (map-twice f g xs)

pub truths-are : (ts : List Bool) → truths_of ts ≡ map Is (map Truth ts)
truths-are [] = refl
truths-are (t ∷ ts) = ap (λ os. Is (Truth t) ∷ os) (truths-are ts)

-- what is told of a word, is told of each of its codes
word-is : (f : Value → Computed Value) (words : List Value) (ts : List Bool) (c : ℕ) (u : Bool) → map f words ≡ truths_of ts → slice_get ts c ≡ Some u → f (cell_of words c) ≡ Is (Truth u)
word-is f [] [] zero u e s = absurd (cc)
word-is f [] [] (suc c) u e s = absurd (cc)
word-is f [] (t ∷ ts) c u e s = absurd (cc)
word-is f (x ∷ words) [] c u e s = absurd (cc)
word-is f (x ∷ words) (t ∷ ts) zero u e s = let first : f x ≡ Is (Truth t) = cc in let same : t ≡ u = cc in first ∙ ap (λ b. Is (Truth b)) same
word-is f (x ∷ words) (t ∷ ts) (suc c) u e s = let rest : map f words ≡ truths_of ts = cc in word-is f words ts c u rest s

pub by_codes : (f : Value → Computed Value) (words : List Value) (ts : List Bool) (codes : List ℕ) (us : List Bool) → map f words ≡ truths_of ts → map Some us ≡ map (slice_get ts) codes → map f (map (cell_of words) codes) ≡ truths_of us
by_codes f words ts [] [] e s = refl
by_codes f words ts [] (u ∷ us) e s = absurd (cc)
by_codes f words ts (c ∷ codes) [] e s = absurd (cc)
by_codes f words ts (c ∷ codes) (u ∷ us) e s =
    let first : slice_get ts c ≡ Some u = cc in
    let rest : map Some us ≡ map (slice_get ts) codes = cc in
    λ j. word-is f words ts c u e first j ∷ by_codes f words ts codes us e rest j

member-is : (key : List ℕ) (v : Value) → paired f.Member v (Text key) ≡ Is (member_at key v)
member-is key (Dynamic dyn.Null) = refl
member-is key (Dynamic (dyn.Bool b)) = refl
member-is key (Dynamic (dyn.Long z)) = refl
member-is key (Dynamic (dyn.Text s)) = refl
member-is key (Dynamic (dyn.List ts)) = refl
member-is key (Dynamic (dyn.Bag es)) = refl
member-is key (Null t) = refl
member-is key (Long z) = refl
member-is key (Int z) = refl
member-is key (Text s) = refl
member-is key (Truth b) = refl
member-is key (Moment z) = refl
member-is key (Span z) = refl

members-are : (key : List ℕ) (vs : List Value) → beside_one f.Member (Text key) vs ≡ map Is (map (member_at key) vs)
members-are key [] = refl
members-are key (v ∷ vs) = λ j. member-is key v j ∷ members-are key vs j

-- what gives values alone, over cells made of items
is-twice : {A B : Type 0} (v : A → B) (g : B → Value) (xs : List A) → map (λ x. Is (g x)) (map v xs) ≡ map Is (map (λ z. g (v z)) xs)
is-twice v g [] = refl
is-twice v g (x ∷ xs) = ap (λ os. Is (g (v x)) ∷ os) (is-twice v g xs)

is-map : {A : Type 0} (g : A → Value) (xs : List A) → map (λ x. Is (g x)) xs ≡ map Is (map g xs)
is-map g [] = refl
is-map g (x ∷ xs) = ap (λ os. Is (g x) ∷ os) (is-map g xs)

pub tests-are : {A : Type 0} (v : A → Value) (g : Value → Value) (xs : List A) (ts : List Bool) → map (λ z. g (v z)) xs ≡ map Truth ts → map (λ x. Is (g x)) (map v xs) ≡ truths_of ts
tests-are v g xs ts e = is-twice v g xs ∙ ap (map Is) e ∙ sym (truths-are ts)

-- ---- what a kernel found, where it found something

module _ {E : Type 0} where
  -- what is known of a function by name, is known of the function
  pub by_function : {B : Type 0} (function g : Function) (y : Value) (xs : List Value) (out : B → List (Computed Value)) (r : Result (Option B) E) → function ≡ g
      → IfOk r (λ o. IfSome o (λ b. beside_one g y xs ≡ out b)) → IfOk r (λ o. IfSome o (λ b. beside_one function y xs ≡ out b))
  by_function function g y xs out r is h = subst (λ (k : Function). IfOk r (λ o. IfSome o (λ b. beside_one k y xs ≡ out b))) (sym is) h

  pub of_words : {B : Type 0} (items : B → List Bool) (f : Value → Computed Value) (words : List Value) (ts : List Bool) (codes : List ℕ) (r : Result (Option B) E) → map f words ≡ truths_of ts
      → IfOk r (λ o. IfSome o (λ b. map Some (items b) ≡ map (slice_get ts) codes)) → IfOk r (λ o. IfSome o (λ b. map f (map (cell_of words) codes) ≡ truths_of (items b)))
  of_words items f words ts codes (Err e) told h = h
  of_words items f words ts codes (Ok None) told h = h
  of_words items f words ts codes (Ok (Some b)) told h = by_codes f words ts codes (items b) told h

  pub at_key : (key : List ℕ) (xs : List Value) (y : Value) (r : Result (Option Vector) E) → y ≡ Text key
      → IfOk r (λ o. IfSome o (λ c. cells_of c ≡ map (member_at key) xs)) → IfOk r (λ o. IfSome o (λ c. beside_one f.Member y xs ≡ map Is (cells_of c)))
  at_key key xs y (Err e) is h = h
  at_key key xs y (Ok None) is h = h
  at_key key xs y (Ok (Some c)) is h = ap (λ (k : Value). beside_one f.Member k xs) is ∙ members-are key xs ∙ ap (map Is) (sym h)

  pub of_same : (function : Function) (xs ys : List Value) (n : ℕ) (y : Value) (r : Result (Option Vector) E) → ys ≡ replicate n y → length xs ≡ length ys
      → IfOk r (λ o. IfSome o (λ c. beside_one function y xs ≡ map Is (cells_of c))) → IfOk r (λ o. IfSome o (λ c. each_two (paired function) xs ys ≡ Is (cells_of c)))
  of_same function xs ys n y (Err e) is long h = h
  of_same function xs ys n y (Ok None) is long h = h
  of_same function xs ys n y (Ok (Some c)) is long h =
      ap (each_two (paired function) xs) is ∙ two-same (paired function) xs n y (long ∙ ap length is ∙ length-same n y) ∙ all_are (λ x. paired function x y) xs (cells_of c) h

  pub of_conversion : (function g : Function) (now : ℤ) (conversion : Value → Value) (xs ys : List Value) (r : Result (Option Vector) E) → function ≡ g → ((x : Value) → applied g now (x ∷ []) ≡ Is (conversion x)) → ys ≡ xs
      → IfOk r (λ o. IfSome o (λ c. map conversion xs ≡ cells_of c)) → IfOk r (λ o. IfSome o (λ c. map (λ x. applied function now (x ∷ [])) ys ≡ map Is (cells_of c)))
  of_conversion function g now conversion xs ys (Err e) is gives same h = h
  of_conversion function g now conversion xs ys (Ok None) is gives same h = h
  of_conversion function g now conversion xs ys (Ok (Some c)) is gives same h =
      (λ j. map (λ x. applied (is j) now (x ∷ [])) (same j)) ∙ all-give xs ∙ is-map conversion xs ∙ ap (map Is) h
    where
      all-give : (vs : List Value) → map (λ x. applied g now (x ∷ [])) vs ≡ map (λ x. Is (conversion x)) vs
      all-give [] = refl
      all-give (v ∷ vs) = λ j. gives v j ∷ all-give vs j
