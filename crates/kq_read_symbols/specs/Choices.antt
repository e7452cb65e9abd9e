-- A place where one of two forms stands, and a token that closes it decides: both are read, and the later place counts.
use Rattle.std.specs.Prelude.{nat_lt, if◌then◌else◌, List, length, Ok, Err}
use Rattle.kq_read_symbols.specs.Forms.{Outcome}

-- which of the two readings there are
pub data Right (X Y : Type 0) : Type 0 where
  scalar : X → Right X Y
  table : Y → Right X Y
  either : X → Y → Right X Y

abbrev pub Chosen : {T X Y : Type 0} → (X → List T → Type 0) → (Y → List T → Type 0) → Right X Y → List T → Type 0
Chosen {X = X} {Y = Y} f g (scalar x) ts = f x ts × ((y : Y) → g y ts → ⊥)
Chosen {X = X} {Y = Y} f g (table y) ts = g y ts × ((x : X) → f x ts → ⊥)
Chosen f g (either x y) ts = f x ts × g y ts

abbrev pub combine : {T X Y : Type 0} → Outcome T X → Outcome T Y → Outcome T (Right X Y)
combine (Ok x) (Ok y) = Ok (either x.0 y.0, x.1)
combine (Ok x) (Err s) = Ok (scalar x.0, x.1)
combine (Err r) (Ok y) = Ok (table y.0, y.1)
combine (Err r) (Err s) = if nat_lt (length r) (length s) then Err r else Err s
