-- The first literal of a text that has no value.
use Rattle.std.specs.Prelude.{ℕ, Bool, true, false, List, [], ◌∷◌, Option, Some, None, if◌then◌else◌}
use Rattle.kq_read_meanings.specs.Literals.{literal_value}
use Rattle.kq_read_symbols.specs.declared.kind.Kind.{Kind}
use Rattle.kq_read_symbols.specs.declared.kind.Kind.TheVariants as kind
use Rattle.kq_read_symbols.specs.declared.kind.Symbol.{Symbol}
use Rattle.kq_value.specs.declared.value.Value.{Value}

-- numbers, timespans and typed literals, which need not have a value
abbrev pub may_lack : Kind → Bool
may_lack kind.WholeNumber = true
may_lack kind.Real = true
may_lack kind.Timespan = true
may_lack kind.TypedLiteral = true
may_lack _ = false

abbrev pub unless_valued : ℕ → Option Value → Option ℕ
unless_valued place (Some v) = None
unless_valued place None = Some place

-- the place of a symbol, where it is such a literal and has none
abbrev pub lacks : List ℕ → Symbol → Option ℕ
lacks text t = if may_lack t.kind then unless_valued t.from (literal_value text t) else None

abbrev pub or_first_of : Option ℕ → Option ℕ → Option ℕ
or_first_of (Some place) later = Some place
or_first_of None later = later

-- the first such place
abbrev pub first_lacking : List ℕ → List Symbol → Option ℕ
first_lacking text [] = None
first_lacking text (t ∷ ts) = or_first_of (lacks text t) (first_lacking text ts)
