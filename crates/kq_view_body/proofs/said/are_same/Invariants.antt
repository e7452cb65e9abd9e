use Rattle.std.proofs.Common.{◌≡◌, length}
use Rattle.kq_view_body.specs.Said.{IsReadable, left}
use Rattle.kq_view_body.proofs.said.are_same.Given as goal
use Rattle.kq_read_tokens.specs.Bytes.{is_text}

abbrev pub invariant-loop-byte : goal.invariant-loop-byte
invariant-loop-byte l = record {
  one : IsReadable l.one_left;
  other : IsReadable l.other_left;
  same : is_text (left l.one) (left l.other) ≡ is_text (left l.one_left) (left l.other_left);
}

abbrev pub decreases-loop-byte : goal.decreases-loop-byte
decreases-loop-byte l = length (left l.one_left)
