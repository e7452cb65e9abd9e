use Rattle.std.proofs.Common.{◌≡◌, ◌++◌, ◌∷◌, [], get_or, ◌∙◌, ap}
use Rattle.kq_read_literals.proofs.StringLemmas.{escape_here, go_escape, go_passed, go_plain}
use Rattle.kq_read_literals.proofs.strings.unescape.Goals as goal
use Rattle.kq_read_literals.proofs.strings.unescape.Goals.{then-passed-gt0, else-passed-gt0+else-byte-quote+then-byte-eq92+in_ok-passed, else-passed-gt0+else-byte-quote+else-byte-eq92+in_ok-push}

pub push_escape-requires : goal.push_escape-requires
push_escape-requires c = escape_here c.args.quote c.args.bytes.now c.loop-i.i c.loop-i-test.true c.loop-i.passed c.loop-i.text.items _ c.loop-i.invariant.text c.loop-i.invariant.closed c.if-passed-gt0.false c.if-byte-quote.false c.if-byte-eq92.true

pub loop-i-preserved : goal.loop-i-preserved
loop-i-preserved c = elim c.if-passed-gt0.branch [
  | then-passed-gt0 w ↦
      let go = go_passed c.args.quote c.args.bytes.now c.loop-i.i c.loop-i-test.true c.loop-i.passed c.loop-i.text.items _ c.loop-i.invariant.text c.loop-i.invariant.closed c.if-passed-gt0.passed w.if-passed-gt0.true w.passed-is in
      record { text = rw w.text-is go.0; closed = go.1 }
  | else-passed-gt0+else-byte-quote+then-byte-eq92+in_ok-passed w ↦
      let go = go_escape c.args.quote c.args.bytes.now c.loop-i.i c.loop-i-test.true c.loop-i.passed c.loop-i.text.items _ c.loop-i.invariant.text c.loop-i.invariant.closed c.if-passed-gt0.passed c.if-passed-gt0.text.items w.if-passed-gt0.false w.if-byte-quote.false w.if-byte-eq92.true (ap (λ v. v.items) w.text-is ∙ w.in_ok-passed.ensures.text) (w.passed-is ∙ w.in_ok-passed.ensures.len) in
      record { text = go.0; closed = go.1 }
  | else-passed-gt0+else-byte-quote+else-byte-eq92+in_ok-push w ↦
      let pushed : c.if-passed-gt0.text.items ≡ c.loop-i.text.items ++ get_or c.args.bytes.now c.loop-i.i 0 ∷ [] = ap (λ v. v.items) w.text-is ∙ w.in_ok-push.ensures.items in
      let go = go_plain c.args.quote c.args.bytes.now c.loop-i.i c.loop-i-test.true c.loop-i.passed c.loop-i.text.items _ c.loop-i.invariant.text c.loop-i.invariant.closed c.if-passed-gt0.passed c.if-passed-gt0.text.items w.if-passed-gt0.false w.if-byte-quote.false w.if-byte-eq92.false pushed w.passed-is in
      record { text = go.0; closed = go.1 }
]
