use Rattle.std.proofs.Common.{◌≡◌, take, string_bytes}
use Rattle.std.specs.List.{flat_map}
use Rattle.kq_value_conversions.specs.Converted.{printed}
use Rattle.kq_value_string_functions.proofs.join.joined.Given as goal

abbrev pub invariant-loop-value : goal.invariant-loop-value
invariant-loop-value l = string_bytes l.text ≡ flat_map printed (take l.value-index l.values)
