-- What the code gives, seen by a view, is what reading gives, unless memory runs out.
use Rattle.std.specs.Prelude.{◌≡◌, List, Result, Ok, Err, Option, Some, None, [], ◌∷◌}
use Rattle.kq_read_symbols.specs.declared.kind.Kind.{Kind}
use Rattle.kq_read_symbols.specs.declared.kind.Symbol.{Symbol}
use Rattle.kq_read_symbols.specs.declared.cursor.Stop.{Stop}
use Rattle.kq_read_symbols.specs.declared.cursor.Stop.TheVariants.{Syntax, Memory}
use Rattle.kq_read_symbols.specs.Forms.{Outcome}

-- at Syntax the cursor stands at the first symbol with which the form can't go on
abbrev pub IsOutcome : {X Y : Type 0} → (X → Y) → Outcome Symbol Y → Result X Stop → List Symbol → Type 0
IsOutcome view outcome (Ok x) new = outcome ≡ Ok (view x, new)
IsOutcome view outcome (Err Syntax) new = outcome ≡ Err new
IsOutcome view outcome (Err Memory) new = Unit {0}

abbrev pub kind_ahead : List Symbol → Option Kind
kind_ahead [] = None
kind_ahead (t ∷ ts) = Some t.kind
