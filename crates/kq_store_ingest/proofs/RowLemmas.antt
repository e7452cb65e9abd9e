-- Rows: their types, and their cells one by one.
use Rattle.std.proofs.Common.{◌≡◌, ◌<◌, ℕ, zero, suc, ◌+◌, ◌*◌, ℤ, pos, negsuc, ◌+ℤ◌, ◌-ℤ◌, Bool, true, false, cond, List, [], ◌∷◌, ◌++◌, append_assoc, length, get_or, take, drop, map, Option, Some, None, refl, ◌∙◌, subst, arith}
use Rattle.std.specs.Prelude.{if◌then◌else◌, option_and_then, option_map, unwrap_or}
use Rattle.std.specs.List.{All}
use Rattle.std.specs.Str.{bytes_eq}
use Rattle.std.proofs.lemmas.Bool.Decides.{nat_tests}
use Rattle.std.proofs.lemmas.List.Elements.{All-map}
use Rattle.std.proofs.lemmas.Option.{cond_some}
use Rattle.csv.specs.Records.{field_at}
use Rattle.kq_value_formats.specs.Cells.{cell_of, is_blank, trimmed}
use Rattle.kq_value_formats.specs.Civil.{days_of_year_0}
use Rattle.kq_value_formats.specs.Datetimes.{after_date, date_days, datetime_of, is_moment, ticks_per_day}
use Rattle.kq_value_formats.specs.Numerals.{bool_of, int_of, long_of}
use Rattle.kq_value_formats.specs.Timespans.{timespan_of}
use Rattle.kq_value.specs.Typed.{HasType, HasTypes, IsMoment, missing_of}
use Rattle.kq_value.specs.declared.schema.Field.{Field}
use Rattle.kq_value.specs.declared.ty.Ty.{Ty}
use Rattle.kq_value.specs.declared.ty.Ty.TheVariants as ty
use Rattle.kq_value.specs.declared.value.Value.{Value}
use Rattle.kq_value.specs.declared.value.Value.TheVariants.{Null, Long, Int, Bool as Truth, Moment, Span}
use Rattle.kq_store_ingest.specs.Ingestion.{cell_in, row_of}

-- ---- the types of cells

pub missing_typed : (t : Ty) → HasType t (missing_of t)
missing_typed ty.Long = (refl, ((λ e. cc), (λ e. cc)))
missing_typed ty.Int = (refl, ((λ e. cc), (λ e. cc)))
missing_typed ty.Text = (refl, tt)
missing_typed ty.Bool = (refl, ((λ e. cc), (λ e. cc)))
missing_typed ty.Moment = (refl, ((λ e. cc), (λ e. cc)))
missing_typed ty.Span = (refl, ((λ e. cc), (λ e. cc)))
missing_typed ty.Dynamic = (refl, tt)

-- what was read, or null
read_typed : {A : Type 0} (t : Ty) (made : A → Value) (missing : Value) (o : Option A) → ((x : A) → o ≡ Some x → HasType t (made x)) → HasType t missing → HasType t (unwrap_or (option_map made o) missing)
read_typed t made missing (Some x) h k = h x refl
read_typed t made missing None h k = k

in_range : (z : ℤ) → is_moment z ≡ true → IsMoment z
in_range (pos n) h = grind (arith, nat_tests)
in_range (negsuc n) h = grind (arith, nat_tests)

passed : (days : Option ℕ) (ticks : Option ℤ) (at : ℕ → ℤ → ℤ) (z : ℤ)
    → option_and_then (λ d. option_and_then (λ t. if is_moment (at d t) then Some (at d t) else None) ticks) days ≡ Some z → is_moment z ≡ true
passed None ticks at z e = cc
passed (Some d) None at z e = cc
passed (Some d) (Some t) at z e = let p = cond_some (is_moment (at d t)) (at d t) z e in subst (λ x. is_moment x ≡ true) p.1 p.0

-- a datetime that is read is in range
moment_read : (text : List ℕ) (z : ℤ) → datetime_of text ≡ Some z → IsMoment z
unfolding datetime_of
moment_read text z e = in_range z (passed (date_days (take 10 text)) (after_date (drop 10 text)) (λ days ticks. (pos (days * ticks_per_day) -ℤ pos (days_of_year_0 * ticks_per_day)) +ℤ ticks) z e)

either_typed : (t : Ty) (b : Bool) (x y : Value) → HasType t x → HasType t y → HasType t (cond b x y)
either_typed t true x y h k = h
either_typed t false x y h k = k

pub cell_of-typed : (t : Ty) (text : List ℕ) → HasType t (cell_of t text)
cell_of-typed ty.Long text = read_typed ty.Long Long (Null ty.Long) (long_of (trimmed is_blank text)) (λ x e. (refl, tt)) (missing_typed ty.Long)
cell_of-typed ty.Int text = read_typed ty.Int Int (Null ty.Int) (int_of (trimmed is_blank text)) (λ x e. (refl, tt)) (missing_typed ty.Int)
cell_of-typed ty.Text text = (refl, tt)
cell_of-typed ty.Bool text = read_typed ty.Bool Truth (Null ty.Bool) (bool_of (trimmed is_blank text)) (λ x e. (refl, tt)) (missing_typed ty.Bool)
cell_of-typed ty.Moment text =
    read_typed ty.Moment Moment (Null ty.Moment) (datetime_of (trimmed is_blank text)) (λ x e. (refl, moment_read (trimmed is_blank text) x e)) (missing_typed ty.Moment)
cell_of-typed ty.Span text = read_typed ty.Span Span (Null ty.Span) (timespan_of (trimmed is_blank text)) (λ x e. (refl, tt)) (missing_typed ty.Span)
cell_of-typed ty.Dynamic text = either_typed ty.Dynamic (bytes_eq text []) _ _ (refl, tt) (refl, tt)

pub cell_typed : (t : Ty) (text : Option (List ℕ)) → HasType t (cell_in t text)
cell_typed t (Some text) = cell_of-typed t text
cell_typed t None = missing_typed t

pub row_typed : (schema : List Field) (texts : List (List ℕ)) → HasTypes schema (row_of schema texts)
row_typed [] texts = tt
row_typed (f ∷ fs) [] = (cell_typed f.ty None, row_typed fs [])
row_typed (f ∷ fs) (text ∷ texts) = (cell_typed f.ty (Some text), row_typed fs texts)

pub rows_typed : (schema : List Field) (records : List (List (List ℕ))) → All (HasTypes schema) (map (row_of schema) records)
rows_typed schema records = All-map (HasTypes schema) (row_of schema) records (λ k d lt. row_typed schema (get_or records k d))

-- ---- a row, cell by cell

nothing_left : (i : ℕ) (none : List (List ℕ)) → none ≡ [] → drop i none ≡ []
nothing_left zero none e = e
nothing_left (suc i) none e = rw e refl

next_cell : (schema : List Field) (texts : List (List ℕ)) (i : ℕ) (d : Field) → i < length schema
    → row_of (drop i schema) (drop i texts) ≡ cell_in (get_or schema i d).ty (field_at texts i) ∷ row_of (drop (suc i) schema) (drop (suc i) texts)
unfolding field_at
next_cell [] texts i d lt = absurd (omega arith)
next_cell (f ∷ fs) [] zero d lt = refl
next_cell (f ∷ fs) (text ∷ texts) zero d lt = refl
next_cell (f ∷ fs) [] (suc i) d lt = rw (nothing_left i [] refl) at (next_cell fs [] i d (omega arith))
next_cell (f ∷ fs) (text ∷ texts) (suc i) d lt = next_cell fs texts i d (omega arith)

-- what is left of a row, and its next cell
pub row_of-next : (schema : List Field) (texts : List (List ℕ)) (i : ℕ) (d : Field) → i < length schema
    → row_of (drop i schema) (drop i texts) ≡ cell_in (get_or schema i d).ty (field_at texts i) ∷ row_of (drop (i + 1) schema) (drop (i + 1) texts)
row_of-next schema texts i d lt = let next : i + 1 ≡ suc i = omega arith in rw next (next_cell schema texts i d lt)

-- one more cell
pub row-pushed : (row more left rest whole : List Value) (cell : Value) → more ≡ row ++ cell ∷ [] → left ≡ cell ∷ rest → row ++ left ≡ whole → more ++ rest ≡ whole
row-pushed row more left rest whole cell e f h = rw e (append_assoc row (cell ∷ []) rest ∙ rw f at h)
