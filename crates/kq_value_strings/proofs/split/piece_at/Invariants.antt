use Rattle.std.proofs.Common.{◌≡◌, ◌-◌}
use denote.Text.{Utf8}
use denote.Shadow.{shadow}
use Rattle.std.specs.Prelude.{slice_get}
use Rattle.kq_value_formats.specs.Strings.{split}
use Rattle.kq_value_strings.proofs.split.piece_at.Given as goal

abbrev pub invariant-loop-passed : goal.invariant-loop-passed
invariant-loop-passed l = shadow (Utf8 l.rest) × (slice_get (split l.text l.part) l.number ≡ slice_get (split l.rest l.part) (l.number - l._passed))
