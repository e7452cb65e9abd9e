use Rattle.std.proofs.Common.{◌≡◌, ◌≤◌, length, take}
use Rattle.std.specs.Str.{IsCharBoundary}
use Rattle.kq_read_meanings.specs.Forms.{without_trailing_white}
use Rattle.kq_read_meanings.proofs.forms.trim_end.Given as goal

abbrev pub invariant-loop-end : goal.invariant-loop-end
invariant-loop-end l = record {
  within : l.end ≤ length l.text;
  same : without_trailing_white (take l.end l.text) ≡ without_trailing_white l.text;
  boundary : IsCharBoundary l.text l.end;
}

abbrev pub decreases-loop-end : goal.decreases-loop-end
decreases-loop-end l = l.end
