-- Bags are so in one way at most, and a ghost field may say that they are.
use Rattle.std.specs.Prelude.{ℕ, List}
use Rattle.std.specs.Coded.{×_prop, Unit-prop}
use Rattle.kq_value.specs.Bags.{IsBefore, KeysAscend}
use Rattle.kq_value.specs.Tree.{Entries, no_entries, entry}
use Rattle.kq_store_column_view.specs.Bags.{AreBags}
use Rattle.kq_store_column_view.specs.declared.bags.Part.{Part}
use denote.Struct.Props.{props}

IsBefore-prop : (k : List ℕ) (es : Entries) → IsProp (IsBefore k es)
IsBefore-prop k no_entries = Unit-prop
IsBefore-prop k (entry l t es) = hlevel props

KeysAscend-prop : (es : Entries) → IsProp (KeysAscend es)
KeysAscend-prop no_entries = Unit-prop
KeysAscend-prop (entry k t es) = ×_prop (IsBefore-prop k es) (KeysAscend-prop es)

pub AreBags-prop : (parts : List Part) (count : ℕ) → IsProp (AreBags parts count)
AreBags-prop parts count = hlevel (props, KeysAscend-prop)
