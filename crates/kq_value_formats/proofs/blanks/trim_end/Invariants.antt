use Rattle.std.proofs.Common.{◌≡◌, ◌≤◌, length, take}
use Rattle.std.specs.Str.{IsCharBoundary}
use Rattle.kq_value_formats.specs.Blanks.{without_trailing_blanks}
use Rattle.kq_value_formats.proofs.blanks.trim_end.Given as goal

abbrev pub invariant-loop-end : goal.invariant-loop-end
invariant-loop-end l = record {
  within : l.end ≤ length l.text;
  boundary : IsCharBoundary l.text l.end;
  same : without_trailing_blanks (take l.end l.text) ≡ without_trailing_blanks l.text;
}

abbrev pub decreases-loop-end : goal.decreases-loop-end
decreases-loop-end l = l.end
