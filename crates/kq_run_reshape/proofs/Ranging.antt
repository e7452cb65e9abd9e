-- The numbers of a range.
use Rattle.std.proofs.Common.{◌≡◌, ◌≢◌, ◌<◌, ◌≤◌, ◌+◌, ◌*◌, ◌/◌, ◌^◌, ℕ, zero, suc, Bool, true, false, cond, ℤ, pos, negsuc, ◌+ℤ◌, ◌-ℤ◌, ◌*ℤ◌, ◌≤ℤ◌, ◌⊎◌, inl, inr, List, [], ◌∷◌, ◌++◌, length, map, refl, sym, ap, ◌∙◌, subst, arith, to_z, of_z, w64, lit<}
use Rattle.std.specs.Prelude.{int_le, unsigned_abs}
use Rattle.std.specs.Int.{w128}
use Rattle.std.specs.List.{All, range_with_len}
use Rattle.std.proofs.Math.Facts.{sfits_widen}
use Rattle.std.proofs.Math.Nat.{le-div_iff_mul-le}
use Rattle.std.proofs.lemmas.Bool.Decides.{nat_tests}
use Rattle.std.proofs.lemmas.Int.{ints, to_z-of_z, to_z_pos, fits_signed_mul}
use Rattle.std.proofs.lemmas.List.Elements.{All-push}
use Rattle.std.proofs.lemmas.List.FromFn.{map-range_with_len_more, length-map-range_with_len}
use Rattle.std.specs.Int.Signed.{nat_abs-le}
use mir.Val.{SFits}
use Rattle.kq_store_rows.specs.Chunks.{HasWidth}
use Rattle.kq_value.specs.declared.ty.Ty.{Ty}
use Rattle.kq_value.specs.declared.ty.Ty.TheVariants as ty
use Rattle.kq_value.specs.declared.value.Value.{Value}
use Rattle.kq_value.specs.declared.value.Value.TheVariants.{Long, Moment, Span}
use Rattle.kq_run_reshape.specs.Range.{how_many, number_at, number_as, numbers_as, row_at_place}

-- ---- in 128 bits

wider : (z : ℤ) → SFits w64 z → SFits w128 z
wider z f = sfits_widen tt f

product_fits : (i : ℕ) (s : ℤ) → i < 1048576 → SFits w64 s → SFits w128 (pos i *ℤ s)
product_fits i s few f = fits_signed_mul w128 (pos i) s 1048576 (2 ^ 63) (omega arith) (nat_abs-le s f.sfits) (lit< tt)

narrow : (x a : ℤ) → x ≡ to_z w64 (of_z w64 a) → SFits w64 a → to_z w128 (of_z w128 x) ≡ a
narrow x a e f = ap (λ (z : ℤ). to_z w128 (of_z w128 z)) (e ∙ to_z-of_z w64 a f) ∙ to_z-of_z w128 a (wider a f)

-- what the code computes
pub number_is : (x y a s : ℤ) (i : ℕ) → x ≡ to_z w64 (of_z w64 a) → y ≡ to_z w64 (of_z w64 s) → i < 1048576 → SFits w64 a → SFits w64 s → SFits w64 (number_at a s i)
    → to_z w128 (of_z w128 (to_z w128 (of_z w128 x) +ℤ to_z w128 (of_z w128 (to_z w128 i *ℤ to_z w128 (of_z w128 y))))) ≡ number_at a s i
number_is x y a s i e f few fa fs fits =
    let place : to_z w128 i ≡ pos i = to_z_pos w128 i (omega arith) in
    let further : to_z w128 (of_z w128 (to_z w128 i *ℤ to_z w128 (of_z w128 y))) ≡ pos i *ℤ s =
    (λ j. to_z w128 (of_z w128 (place j *ℤ narrow y s f fs j))) ∙ to_z-of_z w128 (pos i *ℤ s) (product_fits i s few fs) in
    (λ j. to_z w128 (of_z w128 (narrow x a e fa j +ℤ further j))) ∙ to_z-of_z w128 (number_at a s i) (wider (number_at a s i) fits)

-- the same, as it is put into a value
pub number_back : (x y a s : ℤ) (i : ℕ) → x ≡ to_z w64 (of_z w64 a) → y ≡ to_z w64 (of_z w64 s) → i < 1048576 → SFits w64 a → SFits w64 s → SFits w64 (number_at a s i)
    → to_z w64 (of_z w64 (to_z w128 (of_z w128 (to_z w128 (of_z w128 x) +ℤ to_z w128 (of_z w128 (to_z w128 i *ℤ to_z w128 (of_z w128 y))))))) ≡ number_at a s i
number_back x y a s i e f few fa fs fits = ap (λ (z : ℤ). to_z w64 (of_z w64 z)) (number_is x y a s i e f few fa fs fits) ∙ to_z-of_z w64 (number_at a s i) fits

-- ---- between the first number and the end

size : (z : ℤ) → pos 0 ≤ℤ z → pos (unsigned_abs z) ≡ z
size (pos n) h = refl
size (negsuc n) h = absurd (omega (arith, ints))

turned_size : (z : ℤ) → z ≤ℤ pos 0 → pos (unsigned_abs z) ≡ pos 0 -ℤ z
turned_size (pos zero) h = refl
turned_size (pos (suc n)) h = absurd (omega (arith, ints))
turned_size (negsuc n) h = omega (arith, ints)

ahead : (a b : ℤ) → a ≤ℤ b → b ≡ a +ℤ pos (unsigned_abs (b -ℤ a))
ahead a b h = let k : pos (unsigned_abs (b -ℤ a)) ≡ b -ℤ a = size (b -ℤ a) (omega (arith, ints)) in omega (arith, ints, k)

behind : (a b : ℤ) → b ≤ℤ a → a ≡ b +ℤ pos (unsigned_abs (b -ℤ a))
behind a b h = let k : pos (unsigned_abs (b -ℤ a)) ≡ pos 0 -ℤ (b -ℤ a) = turned_size (b -ℤ a) (omega (arith, ints)) in omega (arith, ints, k)

below : (d k i : ℕ) → i < d / suc k + 1 → i * suc k ≤ d
below d k i h = (le-div_iff_mul-le {k = suc k} {x = i} {y = d} (omega arith)).0 (omega arith)

int_le-true : (a b : ℤ) → int_le a b ≡ true → a ≤ℤ b
int_le-true a b h = grind (arith, nat_tests)

-- a number of a range lies between the first and the end
abbrev pub LiesBetween : ℤ → ℤ → ℤ → Type 0
LiesBetween a z b = ((a ≤ℤ z) × (z ≤ℤ b)) ⊎ ((b ≤ℤ z) × (z ≤ℤ a))

counted : (n i : ℕ) (t : Bool) → i < cond t n 0 → (t ≡ true) × (i < n)
counted n i true h = (refl, h)
counted n i false h = absurd (omega arith)

pub lies_between : (a b s : ℤ) (i : ℕ) → i < how_many a b s → LiesBetween a (number_at a s i) b
lies_between a b (pos zero) i h = absurd (omega arith)
lies_between a b (pos (suc k)) i h =
    let d = unsigned_abs (b -ℤ a) in
    let c = counted (d / suc k + 1) i (int_le a b) h in
    let up : a ≤ℤ b = int_le-true a b c.0 in
    let end : b ≡ a +ℤ pos d = ahead a b up in
    let within : i * suc k ≤ d = below d k i c.1 in
    inl (omega (arith, ints), omega (arith, ints, end))
lies_between a b (negsuc k) i h =
    let d = unsigned_abs (b -ℤ a) in
    let c = counted (d / suc k + 1) i (int_le b a) h in
    let down : b ≤ℤ a = int_le-true b a c.0 in
    let end : a ≡ b +ℤ pos d = behind a b down in
    let within : i * suc k ≤ d = below d k i c.1 in
    inr (omega (arith, ints, end), omega (arith, ints))

fits_between : (a z b : ℤ) → LiesBetween a z b → SFits w64 a → SFits w64 b → SFits w64 z
fits_between a z b (inl h) fa fb = omega (arith, ints)
fits_between a z b (inr h) fa fb = omega (arith, ints)

pub number_fits : (a b s : ℤ) (n : ℕ) → n ≡ how_many a b s → SFits w64 a → SFits w64 b → (i : ℕ) → i < n → SFits w64 (number_at a s i)
number_fits a b s n is fa fb i h = fits_between a (number_at a s i) b (lies_between a b s i (omega (arith, is))) fa fb

-- ---- rows

pub more_rows : (t : Ty) (a s : ℤ) (i : ℕ) (rows more : List (List Value)) (row : List Value) (v : Value) → rows ≡ map (row_at_place t a s) (range_with_len 0 i) → All (HasWidth 1) rows
    → v ≡ number_as t (number_at a s i) → row ≡ v ∷ [] → more ≡ rows ++ row ∷ [] → (more ≡ map (row_at_place t a s) (range_with_len 0 (i + 1))) × All (HasWidth 1) more
more_rows t a s i rows more row v so_far wide is alone pushed =
    let made : row ≡ row_at_place t a s i = alone ∙ ap (λ (w : Value). w ∷ []) is in (
      pushed ∙ (λ j. so_far j ++ made j ∷ []) ∙ sym (map-range_with_len_more (row_at_place t a s) 0 i i (omega arith)),
      subst (All (HasWidth 1)) (sym pushed) (All-push (HasWidth 1) rows row wide (ap length alone)),
    )

pub length-numbers_as : (t : Ty) (a b s : ℤ) → length (numbers_as t a b s) ≡ how_many a b s
length-numbers_as t a b s = length-map-range_with_len (row_at_place t a s) 0 (how_many a b s)

pub number_as-moment : (t : Ty) (x z : ℤ) → t ≡ ty.Moment → x ≡ z → Moment x ≡ number_as t z
number_as-moment t x z is e = ap Moment e ∙ (λ j. number_as (sym is j) z)

pub number_as-span : (t : Ty) (x z : ℤ) → t ≡ ty.Span → x ≡ z → Span x ≡ number_as t z
number_as-span t x z is e = ap Span e ∙ (λ j. number_as (sym is j) z)

pub number_as-long : (t : Ty) (x z : ℤ) → t ≢ ty.Moment → t ≢ ty.Span → x ≡ z → Long x ≡ number_as t z
number_as-long ty.Moment x z m s e = absurd (m refl)
number_as-long ty.Span x z m s e = absurd (s refl)
number_as-long t x z m s e = ap Long e
