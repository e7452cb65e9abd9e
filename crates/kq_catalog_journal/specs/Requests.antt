-- When request ids are the same.
use Rattle.std.specs.Prelude.{Bool, ◌&&◌, nat_eq}
use Rattle.kq_catalog_journal.specs.declared.event.By.{By}

abbrev pub same_by : By → By → Bool
same_by a b = nat_eq a.actor b.actor && nat_eq a.number b.number
