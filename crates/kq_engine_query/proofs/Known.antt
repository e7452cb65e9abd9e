-- What is known of a name.
use Rattle.std.proofs.Common.{◌≡◌, List, [], Option, Some, None, ap}
use Rattle.kq_plan.specs.declared.names.NameKind.{NameKind}
use Rattle.kq_plan.specs.declared.names.NameKind.TheVariants as name
use Rattle.kq_plan.specs.Names.{Known}
use Rattle.kq_value.specs.declared.schema.Field.{Field}

abbrev pub known_by : NameKind → List Field → Option Known
known_by k fs = Some (k, fs)

abbrev columns_known : Option Known → List Field
columns_known (Some k) = k.1
columns_known None = []

abbrev kind_known : Option Known → NameKind
kind_known (Some k) = k.0
kind_known None = name.Table

pub same_columns : (k : NameKind) (fs cs : List Field) → known_by k fs ≡ known_by k cs → fs ≡ cs
same_columns k fs cs is = ap columns_known is

-- a table is no view
pub other_kind : (fs cs : List Field) → known_by name.Table fs ≡ known_by name.View cs → ⊥
other_kind fs cs is = let same : name.Table ≡ name.View = ap kind_known is in absurd cc
