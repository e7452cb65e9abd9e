-- When names of records are the same.
use Rattle.std.specs.Prelude.{Bool, ◌&&◌, nat_eq}
use Rattle.kq_value.specs.declared.record_id.RecordId.{RecordId}

abbrev pub same_id : RecordId → RecordId → Bool
same_id a b = nat_eq a.cursor b.cursor && nat_eq a.ordinal b.ordinal
