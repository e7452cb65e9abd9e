-- Cells of numbers stand in the order of the numbers.
use Rattle.std.proofs.Common.{◌≡◌, ℤ, pos, Bool, true, false, cond, Some, int_lt, FitsSigned, w32, inl, inr, refl, arith}
use Rattle.std.proofs.lemmas.Int.{ints}
use Rattle.std.specs.Int.{int_min, int_max}
use Rattle.std.specs.declared.cmp.Ordering.{Ordering}
use Rattle.std.specs.declared.cmp.Ordering.TheVariants.{Less, Equal, Greater}
use Rattle.std.specs.Ordering.{is_le, int_cmp, ordering_then}
use Rattle.kq_value.specs.declared.ty.Ty.{Ty}
use Rattle.kq_value.specs.declared.ty.Ty.TheVariants as ty
use Rattle.kq_value.specs.declared.value.Value.TheVariants.{Null, Bool as Truth}
use Rattle.kq_value.specs.Typed.{is_null}
use Rattle.kq_store_column.specs.Bounds.{IsLesser, IsGreater}
use Rattle.kq_store_column.specs.Cells.{IsAtMost}
use Rattle.kq_store_column_view.specs.Numbers.{number_cell, IsOfNumbers}
use Rattle.kq_store_column.proofs.Order.{IsAtMost-self}

le_then : (o p : Ordering) → is_le o ≡ true → is_le p ≡ true → is_le (ordering_then o p) ≡ true
le_then Less p a b = refl
le_then Equal p a b = b
le_then Greater p a b = cc

le_of : (a b : Bool) → b ≡ false → is_le (cond a Less (cond b Greater Equal)) ≡ true
le_of true b h = refl
le_of false true h = cc
le_of false false h = refl

ordered : (x y : ℤ) → int_lt y x ≡ false → is_le (int_cmp x y) ≡ true
ordered x y h = le_of (int_lt x y) (int_lt y x) h

turned : (x y : ℤ) → int_lt y x ≡ true → int_lt x y ≡ false
turned x y h = by (int_lt x y) refl
  where
    by : (b : Bool) → int_lt x y ≡ b → b ≡ false
    by true e = absurd (omega (arith, ints))
    by false e = refl

above : (x y : ℤ) → int_lt y x ≡ false → int_lt (pos 0) x ≡ true → int_lt (pos 0) y ≡ true
above x y h p = by (int_lt (pos 0) y) refl
  where
    by : (b : Bool) → int_lt (pos 0) y ≡ b → b ≡ true
    by true e = refl
    by false e = absurd (omega (arith, ints))

truths_ordered : (a b : Bool) → (a ≡ true → b ≡ true) → IsAtMost (Truth a) (Truth b)
truths_ordered true true h = refl
truths_ordered true false h = let e = h refl in cc
truths_ordered false true h = refl
truths_ordered false false h = refl

cells_ordered : (t : Ty) (x y : ℤ) → int_lt y x ≡ false → IsAtMost (number_cell t (Some x)) (number_cell t (Some y))
cells_ordered ty.Long x y h = le_then (int_cmp x y) _ (ordered x y h) refl
cells_ordered ty.Int x y h = le_then (int_cmp x y) _ (ordered x y h) refl
cells_ordered ty.Text x y h = IsAtMost-self (Null ty.Text)
cells_ordered ty.Bool x y h = truths_ordered (int_lt (pos 0) x) (int_lt (pos 0) y) (above x y h)
cells_ordered ty.Moment x y h = le_then (int_cmp x y) _ (ordered x y h) refl
cells_ordered ty.Span x y h = le_then (int_cmp x y) _ (ordered x y h) refl
cells_ordered ty.Dynamic x y h = IsAtMost-self (Null ty.Dynamic)

pub lesser_number : (t : Ty) (x y : ℤ) → IsLesser IsAtMost (number_cell t (Some x)) (number_cell t (Some y)) (number_cell t (Some (int_min x y)))
lesser_number t x y = by (int_lt y x) refl
  where
    by : (b : Bool) → int_lt y x ≡ b → IsLesser IsAtMost (number_cell t (Some x)) (number_cell t (Some y)) (number_cell t (Some (cond b y x)))
    by true e = record { either = inr refl; first = cells_ordered t y x (turned x y e); second = IsAtMost-self (number_cell t (Some y)) }
    by false e = record { either = inl refl; first = IsAtMost-self (number_cell t (Some x)); second = cells_ordered t x y e }

pub greater_number : (t : Ty) (x y : ℤ) → IsGreater IsAtMost (number_cell t (Some x)) (number_cell t (Some y)) (number_cell t (Some (int_max x y)))
greater_number t x y = by (int_lt y x) refl
  where
    by : (b : Bool) → int_lt y x ≡ b → IsGreater IsAtMost (number_cell t (Some x)) (number_cell t (Some y)) (number_cell t (Some (cond b x y)))
    by true e = record { either = inl refl; first = IsAtMost-self (number_cell t (Some x)); second = cells_ordered t y x (turned x y e) }
    by false e = record { either = inr refl; first = cells_ordered t x y e; second = IsAtMost-self (number_cell t (Some y)) }

fits_either : (b : Bool) (x y : ℤ) → FitsSigned w32 x → FitsSigned w32 y → FitsSigned w32 (cond b x y)
fits_either true x y p q = p
fits_either false x y p q = q

pub fits_min : (x y : ℤ) → FitsSigned w32 x → FitsSigned w32 y → FitsSigned w32 (int_min x y)
fits_min x y p q = fits_either (int_lt y x) y x q p

pub fits_max : (x y : ℤ) → FitsSigned w32 x → FitsSigned w32 y → FitsSigned w32 (int_max x y)
fits_max x y p q = fits_either (int_lt y x) x y p q

-- a number stands for no null
pub present_cell : (t : Ty) (z : ℤ) → IsOfNumbers t → is_null (number_cell t (Some z)) ≡ false
present_cell ty.Long z of = refl
present_cell ty.Int z of = refl
present_cell ty.Text z of = absurd (of.no_text refl)
present_cell ty.Bool z of = refl
present_cell ty.Moment z of = refl
present_cell ty.Span z of = refl
present_cell ty.Dynamic z of = absurd (of.no_dynamic refl)
