-- The forms of the types whose values take no memory, and the white space at the ends of a text.
use Rattle.std.specs.Prelude.{ℕ, List, Option, None, drop, reverse}
use Rattle.std.specs.List.{prefix_len}
use Rattle.kq_value.specs.declared.ty.Ty.{Ty}
use Rattle.kq_value.specs.declared.ty.Ty.TheVariants as ty
use Rattle.kq_value.specs.declared.value.Value.{Value}
use Rattle.kq_value_formats.specs.Cells.{form_of, is_white}

abbrev pub plain_form : Ty → List ℕ → Option Value
plain_form ty.Text text = None
plain_form ty.Dynamic text = None
plain_form t text = form_of t text

abbrev pub without_leading_white : List ℕ → List ℕ
without_leading_white text = drop (prefix_len is_white text) text

abbrev pub without_trailing_white : List ℕ → List ℕ
without_trailing_white text = reverse (without_leading_white (reverse text))
