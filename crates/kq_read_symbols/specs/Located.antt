-- A form with the first and the last token of its text.
use Rattle.std.specs.Prelude.{◌≡◌, ◌-◌, List, length, take, slice_get, Option, Some, None, Ok, Err}
use Rattle.kq_read_symbols.specs.Forms.{Language, Outcome, Parser}

pub record Located (T A : Type 0) : Type 0 where
  pub first : T
  pub last : T
  pub value : A

abbrev pub first_of : {T : Type 0} → List T → Option T
first_of ts = slice_get ts 0

abbrev pub last_of : {T : Type 0} → List T → Option T
last_of ts = slice_get ts (length ts - 1)

abbrev pub SpellsLocated : {T A : Type 0} → (A → List T → Type 0) → Located T A → Language T
SpellsLocated form s ts = form s.value ts × (first_of ts ≡ Some s.first) × (last_of ts ≡ Some s.last)

abbrev pub located_at : {T A : Type 0} → Option T → Option T → A → List T → Outcome T (Located T A)
located_at (Some a) (Some b) x rest = Ok (record { first = a; last = b; value = x }, rest)
located_at (Some a) None x rest = Err rest
located_at None b x rest = Err rest

-- what was taken has a first and a last token wherever the form has no empty text
abbrev pub with_place : {T A : Type 0} → List T → Outcome T A → Outcome T (Located T A)
with_place ts (Ok p) = located_at (first_of (take (length ts - length p.1) ts)) (last_of (take (length ts - length p.1) ts)) p.0 p.1
with_place ts (Err rest) = Err rest

abbrev pub located : {T A : Type 0} → Parser T A → Parser T (Located T A)
located p = λ ts. with_place ts (p ts)
