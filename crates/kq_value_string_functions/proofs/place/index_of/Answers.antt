use Rattle.std.proofs.Common.{Some, None, w64, pos, ap, sym, ◌∙◌}
use Rattle.std.proofs.lemmas.Int.{to_z_pos}
use Rattle.memchr.specs.Find.{FindsNeedle}
use Rattle.kq_value_formats.specs.Strings.{strlen}
use Rattle.kq_value_string_functions.proofs.Places.{found-boundary, index-found, index-missing, whole_range}
use Rattle.kq_value_string_functions.proofs.place.index_of.Goals as goal

pub range-requires-clause-end_boundary : goal.range-requires-clause-end_boundary
range-requires-clause-end_boundary c =
    let found : FindsNeedle c.args.text.now c.args.part.now 0 (Some c.in-Some.place) = rw (c.as_bytes.ensures.value, c.as_bytes-2.ensures.value) at c.in-Some.ensures in
    found-boundary c.args.text.now c.args.part.now c.in-Some.place c.utf8.text c.utf8.part found

pub returns-in-Some : goal.returns-in-Some
returns-in-Some c =
    let found : FindsNeedle c.args.text.now c.args.part.now 0 (Some c.in-Some.place) = rw (c.as_bytes.ensures.value, c.as_bytes-2.ensures.value) at c.in-Some.ensures in
    let many = c.char_count.ensures.count ∙ ap strlen (c.range.ensures.value ∙ whole_range c.args.text.now c.in-Some.place) in
    to_z_pos w64 c.char_count.result c.char_count.ensures.bound ∙ ap pos many ∙ sym (index-found c.args.text.now c.args.part.now c.in-Some.place c.utf8.text c.utf8.part found)

pub returns-in-None : goal.returns-in-None
returns-in-None c =
    let missing : FindsNeedle c.args.text.now c.args.part.now 0 None = rw (c.as_bytes.ensures.value, c.as_bytes-2.ensures.value) at c.in-None.ensures in
    sym (index-missing c.args.text.now c.args.part.now c.utf8.text c.utf8.part missing)
