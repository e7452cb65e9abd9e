-- The place of the fault, found a part at a time.
use Rattle.std.specs.Prelude.{ℕ, Bool, true, false, List, [], ◌∷◌, Option, Some, None}
use Rattle.kq_view_body.specs.Bodies.{Part, table_name, row_operator, summarize, foreign, place_of}

-- of the steps behind a source at `first`; whether a summarize stands before them
abbrev pub steps_fault : Bool → ℕ → List Part → Option ℕ
steps_fault true first [] = None
steps_fault true first (p ∷ ps) = Some (place_of p)
steps_fault false first [] = Some first
steps_fault false first (row_operator at ∷ ps) = steps_fault false first ps
steps_fault false first (summarize at ∷ ps) = steps_fault true first ps
steps_fault false first (table_name at ∷ ps) = Some at
steps_fault false first (foreign at ∷ ps) = Some at

abbrev pub body_fault : List Part → Option ℕ
body_fault [] = None
body_fault (table_name at ∷ ps) = steps_fault false at ps
body_fault (p ∷ ps) = Some (place_of p)
