-- The blanks at the ends of a text.
use Rattle.std.specs.Prelude.{ℕ, List, drop, reverse}
use Rattle.std.specs.List.{prefix_len}
use Rattle.kq_value_formats.specs.Cells.{is_blank}

-- the text without the blanks that it begins with
abbrev pub without_leading_blanks : List ℕ → List ℕ
without_leading_blanks text = drop (prefix_len is_blank text) text

-- the text without the blanks that it ends with
abbrev pub without_trailing_blanks : List ℕ → List ℕ
without_trailing_blanks text = reverse (without_leading_blanks (reverse text))
