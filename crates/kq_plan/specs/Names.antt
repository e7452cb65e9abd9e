-- What the names of a catalogue stand for.
use Rattle.std.specs.Prelude.{ℕ, List}
use denote.Ref.{Bor}
use Rattle.kq_plan.specs.declared.names.NameKind.{NameKind}
use Rattle.kq_plan_expressions.specs.kq_value.Field.{Field}

abbrev pub Known : Type 0
Known = NameKind × List Field

abbrev pub known_of : NameKind × Bor (List Field) → Known
known_of p = (p.0, p.1.now)
