-- Columns of different names.
use Rattle.std.specs.Prelude.{◌≡◌, ℕ, List, Option, Some, slice_get}
use Rattle.kq_plan.specs.declared.names.NameKind.{NameKind}
use Rattle.kq_plan.specs.Names.{Known}
use Rattle.kq_plan.specs.Plans.{Stepping}
use Rattle.kq_value.specs.declared.schema.Field.{Field}

-- columns of one name are one column
abbrev pub AreDifferent : List Field → Type 0
AreDifferent cs = (i j : ℕ) (c d : Field) → slice_get cs i ≡ Some c → slice_get cs j ≡ Some d → c.name ≡ d.name → i ≡ j

-- every name of a catalogue stands for columns of different names
abbrev pub KnowsDifferent : (List ℕ → Option Known) → Type 0
KnowsDifferent known = (said : List ℕ) (kind : NameKind) (cs : List Field) → known said ≡ Some (kind, cs) → AreDifferent cs

-- the columns of a step have different names
abbrev pub HasDifferent : Stepping → Type 0
HasDifferent s = AreDifferent s.columns
