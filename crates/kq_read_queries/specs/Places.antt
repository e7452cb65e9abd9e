-- Which symbols make a text of a form, and where those that make none stop to be one.
use Rattle.std.specs.Prelude.{◌≡◌, ◌≢◌, ℕ, List, [], ◌∷◌, ◌++◌, Result, Ok, Err}
use Rattle.kq_read_grammar.specs.Expressions.{Text}
use Rattle.kq_read_grammar.specs.Tabulars.{query_text}
use Rattle.kq_read_queries.specs.declared.asking.ParseFault.{ParseFault}
use Rattle.kq_read_queries.specs.declared.asking.ParseFault.TheVariants as fault
use Rattle.kq_read_queries.specs.Depth.{IsShallow, IsDeepAt}
use Rattle.kq_read_symbols.specs.declared.cursor.Stop.{Stop}
use Rattle.kq_read_symbols.specs.declared.cursor.Stop.TheVariants.{Syntax, Memory}
use Rattle.kq_read_symbols.specs.declared.kind.Symbol.{Symbol}

-- the symbols begin some text of the form
abbrev pub Begins : {A : Type 0} → (A → Text) → List Symbol → Type 0
Begins {A = A} form ts = (x : A) × (more : List Symbol) × form x (ts ++ more)

-- the symbols begin some query
abbrev pub QueryBegins : List Symbol → Type 0
QueryBegins ts = Begins query_text ts

-- they begin none through the first of the rest, or where nothing is left they are none
abbrev pub EndsAt : {A : Type 0} → (A → Text) → List Symbol → List Symbol → Type 0
EndsAt {A = A} form front [] = (x : A) → form x front → ⊥
EndsAt form front (t ∷ rest) = Begins form (front ++ t ∷ []) → ⊥

-- The symbols before the rest begin a text of the form, and the rest stops it.
pub record BreaksForm {A : Type 0} (form : A → Text) (ts rest : List Symbol) : Type 0 where
  pub front : List Symbol
  pub split : ts ≡ front ++ rest
  pub begins : Begins form front
  pub ends : EndsAt form front rest

-- It has exactly these symbols, and no other has.
pub record IsOnly {A : Type 0} (form : A → Text) (ts : List Symbol) (x : A) : Type 0 where
  pub spelled : form x ts
  pub only : (other : A) → form other ts → other ≡ x

-- where the first of the symbols is, or the end of the text
abbrev pub place_of : List Symbol → ℕ → ℕ
place_of [] end = end
place_of (t ∷ ts) end = t.from

-- the refusal where these symbols are left
abbrev pub IsRefusal : List Symbol → ℕ → ParseFault → Type 0
IsRefusal rest end (fault.Syntax place) = place ≡ place_of rest end
IsRefusal rest end (fault.Deep place) = ⊥
IsRefusal rest end fault.Memory = Unit {0}

-- all symbols were taken, or the refusal stands where the rest is
abbrev pub TakesAll : {A : Type 0} → List Symbol → ℕ → Result A Stop → Result A ParseFault → Type 0
TakesAll rest end (Ok x) (Ok y) = (x ≡ y) × (rest ≡ [])
TakesAll rest end (Ok x) (Err f) = (rest ≢ []) × IsRefusal rest end f
TakesAll rest end (Err Syntax) (Ok y) = ⊥
TakesAll rest end (Err Syntax) (Err f) = IsRefusal rest end f
TakesAll rest end (Err Memory) (Ok y) = ⊥
TakesAll rest end (Err Memory) (Err f) = f ≡ fault.Memory

-- Brackets are counted before the grammar is tried. A refusal is at the first symbol with which the symbols begin no text of
-- the form, or at the end of the text where all of them begin one and are none.
abbrev pub RefusesAt : {A : Type 0} → (A → Text) → List Symbol → ℕ → ParseFault → Type 0
RefusesAt form ts end (fault.Syntax place) = IsShallow ts × ((rest : List Symbol) × (place ≡ place_of rest end) × BreaksForm form ts rest)
RefusesAt form ts end (fault.Deep place) = IsDeepAt ts place
RefusesAt form ts end fault.Memory = Unit {0}

-- Accepted symbols are those of this value alone, and nowhere too deep.
abbrev pub AcceptsOnly : {A : Type 0} → (A → Text) → List Symbol → A → Type 0
AcceptsOnly form ts x = IsShallow ts × IsOnly form ts x
