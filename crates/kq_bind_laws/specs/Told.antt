-- Which of several faults is told, and where they stand in a text.
use Rattle.std.specs.Prelude.{◌≡◌, ℕ, Bool, true, false, List, [], ◌∷◌, Option, Some, None, Ok, Err}
use Rattle.kq_bind_expressions.specs.Verdicts.{Fault, Verdict, unsupported, unknown, mistyped}
use Rattle.kq_read_symbols.specs.declared.kind.Symbol.{Symbol}

-- what is bound has none of these faults, and what isn't is told the first of them
abbrev pub TellsFirst : {A : Type 0} → Verdict A → List Fault → Type 0
TellsFirst (Ok x) faults = faults ≡ []
TellsFirst (Err e) faults = (more : List Fault) × (faults ≡ e ∷ more)

-- ---- faults, where they are looked for

-- one unless this is there
abbrev pub unless_there : {A : Type 0} → Option A → Fault → List Fault
unless_there (Some x) e = []
unless_there None e = e ∷ []

-- one if this is so
abbrev pub if_so : Bool → Fault → List Fault
if_so true e = e ∷ []
if_so false e = []

-- those of what is there
abbrev pub where_there : {A : Type 0} → Option A → (A → List Fault) → List Fault
where_there (Some x) faults = faults x
where_there None faults = []

-- those of what is bound; of what isn't nothing is known
abbrev pub where_bound : {A : Type 0} → Verdict A → (A → List Fault) → List Fault
where_bound (Ok x) faults = faults x
where_bound (Err e) faults = []

-- these, where there are none of the others
abbrev pub where_none : List Fault → List Fault → List Fault
where_none [] faults = faults
where_none (e ∷ others) faults = []

-- ---- places

abbrev pub place_of : Fault → ℕ
place_of (unsupported at) = at
place_of (unknown at) = at
place_of (mistyped at) = at

-- each fault stands at a symbol, in the order of the symbols; several may stand at one
pub data InText : List Fault → List Symbol → Type 0 where
  none : {ts : List Symbol} → InText [] ts
  here : {e : Fault} {es : List Fault} {t : Symbol} {ts : List Symbol} → place_of e ≡ t.from → InText es (t ∷ ts) → InText (e ∷ es) (t ∷ ts)
  later : {es : List Fault} {t : Symbol} {ts : List Symbol} → InText es ts → InText es (t ∷ ts)
