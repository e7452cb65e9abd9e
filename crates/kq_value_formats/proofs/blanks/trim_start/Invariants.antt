use Rattle.std.proofs.Common.{◌≡◌, ◌≤◌, ◌-◌, drop, length}
use Rattle.std.specs.Str.{IsCharBoundary}
use Rattle.kq_value_formats.specs.Blanks.{without_leading_blanks}
use Rattle.kq_value_formats.proofs.blanks.trim_start.Given as goal

abbrev pub invariant-loop-start : goal.invariant-loop-start
invariant-loop-start l = record {
  within : l.start ≤ length l.text;
  boundary : IsCharBoundary l.text l.start;
  same : without_leading_blanks (drop l.start l.text) ≡ without_leading_blanks l.text;
}

abbrev pub decreases-loop-start : goal.decreases-loop-start
decreases-loop-start l = length l.text - l.start
