use Rattle.std.proofs.Common.{◌≡◌, ◌++◌, length, string_bytes}
use denote.Text.{Utf8}
use denote.Shadow.{shadow}
use Rattle.kq_value_formats.specs.Strings.{replace_string}
use Rattle.kq_value_strings.proofs.split.replace_text.Given as goal

abbrev pub invariant-loop-piece : goal.invariant-loop-piece
invariant-loop-piece l =
    shadow (Utf8 l.rest) × (replace_string l.text l.part l.by ≡ string_bytes l.replaced ++ replace_string l.rest l.part l.by)

abbrev pub decreases-loop-piece : goal.decreases-loop-piece
decreases-loop-piece l = length l.rest
