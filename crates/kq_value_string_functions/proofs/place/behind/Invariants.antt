use Rattle.std.specs.Str.Iter.{chars_rest}
use Rattle.kq_value_string_functions.proofs.Places.{IsBehind}
use Rattle.kq_value_string_functions.proofs.place.behind.Given as goal

abbrev pub invariant-loop-skipped : goal.invariant-loop-skipped
invariant-loop-skipped l = IsBehind l.text l._skipped (chars_rest l.rest)
