-- The form of a view's body, and where a query leaves it.
use Rattle.std.specs.Prelude.{◌≡◌, ℕ, Bool, true, false, List, [], ◌∷◌, ◌++◌, ◌⊎◌, Result, Ok, Err}
use Rattle.kq_view_body.specs.declared.fault.BodyFault.{BodyFault}
use Rattle.kq_view_body.specs.declared.fault.BodyFault.TheVariants as fault

-- what a query is judged by: its sources, its operators and its calls of now and ago, each with the place of its first token
pub data Part : Type 0 where
  -- the name of the view's table, with no let before it
  table_name : ℕ → Part
  -- where, extend, project, project-away or project-rename
  row_operator : ℕ → Part
  summarize : ℕ → Part
  -- what no body has: another source, one with a let before it, another operator, a call of now or ago
  foreign : ℕ → Part

abbrev pub place_of : Part → ℕ
place_of (table_name at) = at
place_of (row_operator at) = at
place_of (summarize at) = at
place_of (foreign at) = at

-- any row operators, and then one summarize, last
abbrev pub is_steps : List Part → Bool
is_steps (row_operator at ∷ ps) = is_steps ps
is_steps (summarize at ∷ []) = true
is_steps _ = false

-- the table's name, and the steps
abbrev pub is_body : List Part → Bool
is_body (table_name at ∷ ps) = is_steps ps
is_body _ = false

-- some body goes on behind these parts
abbrev pub BeginsBody : List Part → Type 0
BeginsBody ps = (more : List Part) × (is_body (ps ++ more) ≡ true)

-- the leftmost part with which no body goes on
pub record IsLeftmost (ps : List Part) (at : ℕ) : Type 0 where
  pub before : List Part
  pub part : Part
  pub after : List Part
  pub parts : ps ≡ before ++ part ∷ after
  pub place : at ≡ place_of part
  pub goes_on : BeginsBody before
  pub stops : BeginsBody (before ++ part ∷ []) → ⊥

-- only the summarize is missing, and the place is that of the first part
pub record IsUnfinished (ps : List Part) (at : ℕ) : Type 0 where
  pub first : Part
  pub others : List Part
  pub parts : ps ≡ first ∷ others
  pub place : at ≡ place_of first
  pub goes_on : BeginsBody ps

pub record IsBodyFault (ps : List Part) (at : ℕ) : Type 0 where
  pub no_body : is_body ps ≡ false
  pub told : IsLeftmost ps at ⊎ IsUnfinished ps at

-- Ok where the parts are a body's, and else the place of the fault
abbrev pub JudgesBody : List Part → Result (Unit {0}) BodyFault → Type 0
JudgesBody ps (Ok u) = is_body ps ≡ true
JudgesBody ps (Err (fault.BadView at)) = IsBodyFault ps at
