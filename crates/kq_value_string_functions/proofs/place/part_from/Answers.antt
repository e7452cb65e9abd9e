use Rattle.std.proofs.Common.{◌≡◌, ℕ, w64, pos, take, sym, ap, ◌∙◌, arith}
use Rattle.std.specs.Prelude.{◌≤ℤ◌, unsigned_abs}
use Rattle.std.specs.Str.{chars, encode_utf8_all}
use Rattle.std.proofs.lemmas.Int.{ints, to_z-of_z}
use Rattle.kq_value_formats.specs.Strings.{substring, substring_from}
use Rattle.kq_value_string_functions.proofs.Places.{non_negative, substring-part}
use Rattle.kq_value_string_functions.proofs.place.part_from.Goals as goal

pub returns-else-count-lt0 : goal.returns-else-count-lt0
returns-else-count-lt0 c =
    let text = c.args.text.now in
    let rest = c.rest_from-rest.result.now in
    let least : pos 0 ≤ℤ c.args.count = omega (arith, ints) in
    let many : c.unsigned_abs.result ≡ unsigned_abs c.args.count = rw (to_z-of_z w64 c.args.count c.ranges.count) at c.unsigned_abs.ensures.value in
    let start : rest ≡ substring_from text c.args.from = rw (to_z-of_z w64 c.args.from c.ranges.from) at c.rest_from-rest.ensures in
    c.front.ensures ∙ ap (λ (n : ℕ). encode_utf8_all (take n (chars rest))) many
    ∙ substring-part text rest c.args.from (unsigned_abs c.args.count) c.rest_from-rest.utf8 start ∙ ap (substring text c.args.from) (sym (non_negative c.args.count least))
