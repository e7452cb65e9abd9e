-- How deep brackets are nested.
use Rattle.std.specs.Prelude.{◌≡◌, ℕ, ◌+◌, ◌-◌, ◌<◌, ◌≤◌, nat_lt, if◌then◌else◌, ◌||◌, List, [], ◌∷◌, ◌++◌, Option, Some, None}
use Rattle.kq_read_symbols.specs.declared.kind.Symbol.{Symbol}
use Rattle.kq_read_symbols.specs.Classes as k
use Rattle.kq_read_symbols.specs.Classes.{Class, of}

abbrev pub opens : Class
opens x = k.open_parenthesis x || k.open_bracket x || k.open_brace x

abbrev pub closes : Class
closes x = k.close_parenthesis x || k.close_bracket x || k.close_brace x

-- where none is open a closing one leaves it so
abbrev pub behind : ℕ → Symbol → ℕ
behind n t = if of opens t then n + 1 else (if of closes t then n - 1 else n)

abbrev pub open_from : ℕ → List Symbol → ℕ
open_from n [] = n
open_from n (t ∷ ts) = open_from (behind n t) ts

-- How many brackets of the three kinds, counted together, are open behind these symbols.
abbrev pub open_brackets : List Symbol → ℕ
open_brackets ts = open_from 0 ts

-- nowhere in these symbols are more than 120 open
abbrev pub IsShallow : List Symbol → Type 0
IsShallow ts = (front rest : List Symbol) → ts ≡ front ++ rest → open_brackets front ≤ 120

-- A symbol is there with which more than 120 are open, and before it no more than those are.
pub record IsDeepAt (ts : List Symbol) (place : ℕ) : Type 0 where
  pub front : List Symbol
  pub symbol : Symbol
  pub rest : List Symbol
  pub split : ts ≡ front ++ symbol ∷ rest
  pub is : place ≡ symbol.from
  pub before : IsShallow front
  pub deep : 120 < open_brackets (front ++ symbol ∷ [])

-- ---- what the code computes

abbrev pub first_deep : ℕ → List Symbol → Option ℕ
first_deep n [] = None
first_deep n (t ∷ ts) = if nat_lt 120 (behind n t) then Some t.from else first_deep (behind n t) ts
