-- When columns are the same.
use Rattle.std.specs.Prelude.{Bool, ◌&&◌, List, nat_eq}
use Rattle.std.specs.Cmp.Lexicographic.{pointwise}
use Rattle.kq_value.specs.declared.schema.Field.{Field}
use Rattle.kq_value.specs.Ty.{same_ty}

abbrev pub same_field : Field → Field → Bool
same_field a b = pointwise nat_eq a.name b.name && same_ty a.ty b.ty

abbrev pub same_fields : List Field → List Field → Bool
same_fields = pointwise same_field
