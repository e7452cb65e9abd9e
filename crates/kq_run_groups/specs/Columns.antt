-- Keys whose cells stand in several columns, and codes that tell them apart.
use Rattle.std.specs.Prelude.{◌≡◌, ◌<◌, ℕ, ℤ, pos, List, [], ◌∷◌, Vec, get_or, length, replicate}
use Rattle.std.specs.List.{All}
use Rattle.std.specs.declared.alloc.Global.{Global}
use Rattle.kq_run_aggregates.specs.Across.{across}
use Rattle.kq_store_rows.specs.Chunks.{row_at}
use Rattle.kq_value.specs.declared.value.Value.{Value}
use Rattle.kq_store_column_view.specs.Vectors.{cell_of}

-- a cell in front of each row
abbrev pub in_front : List Value → List (List Value) → List (List Value)
in_front [] rows = []
in_front (v ∷ cells) [] = []
in_front (v ∷ cells) (r ∷ rows) = (v ∷ r) ∷ in_front cells rows

-- so many rows, whose cells stand in these columns
abbrev pub rows_of : ℕ → List (List Value) → List (List Value)
rows_of n [] = replicate n []
rows_of n (cells ∷ columns) = in_front cells (rows_of n columns)

abbrev pub HaveLength : ℕ → List (List Value) → Type 0
HaveLength n columns = All (λ (cells : List Value). length cells ≡ n) columns

-- ---- codes

-- the code of a cell
abbrev pub code_of : List ℤ → ℕ → ℤ
code_of codes i = get_or codes i (pos 0)

-- cells have the same code only where they are the same
abbrev pub TellCells : List ℤ → List Value → Type 0
TellCells codes cells = (p q : ℕ) → p < length cells → q < length cells → code_of codes p ≡ code_of codes q → cell_of cells p ≡ cell_of cells q

-- two rows have the same code in each column
abbrev pub SameCodes : ℕ → ℕ → List (Vec ℤ Global) → Type 0
SameCodes p q codes = All (λ (one : Vec ℤ Global). code_of one.items p ≡ code_of one.items q) codes

-- of so many rows two have the same codes only where they are the same
abbrev pub Tell : ℕ → List (Vec ℤ Global) → List (List Value) → Type 0
Tell n codes columns = (p q : ℕ) → p < n → q < n → SameCodes p q codes → across columns p ≡ across columns q

-- these are the numbers of the first rows among the keys
abbrev pub AreNumbersAcross : List (List Value) → List ℕ → List (List Value) → Type 0
AreNumbersAcross keys numbers columns = (p : ℕ) → p < length numbers → (get_or numbers p 0 < length keys) × (row_at keys (get_or numbers p 0) ≡ across columns p)
