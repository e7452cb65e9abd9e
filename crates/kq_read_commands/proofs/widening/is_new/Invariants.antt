use Rattle.std.proofs.Common.{◌≡◌, drop}
use Rattle.kq_value_text_sets.specs.Names.{is_among, names_of}
use Rattle.kq_read_commands.proofs.widening.is_new.Given as goal

-- what is left has the answer of the whole
abbrev pub invariant-loop-field : goal.invariant-loop-field
invariant-loop-field l = is_among l.column.name.text (names_of (drop l.field-index l.fields)) ≡ is_among l.column.name.text (names_of l.fields)
