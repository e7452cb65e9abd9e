use Rattle.std.proofs.Common.{◌≡◌, ◌+◌, ◌≤◌, ◌<◌, length, false, sym, ◌∙◌, arith}
use Rattle.memchr.proofs.lemmas.SearchLemmas.{Nowhere-right}
use Rattle.kq_value_strings.specs.Case.{in_case, seen, StandsBetween}
use Rattle.kq_value_strings.specs.Found.{counts_at}
use Rattle.kq_value_strings.proofs.Cases.{length-in_case}
use Rattle.kq_value_strings.proofs.Counted.{counts-in_case, counts-none, counts-not, counts-both, found-at, found-end, none_below-more}
use Rattle.kq_value_strings.proofs.Occurs.{not_true}
use Rattle.kq_value_strings.proofs.Places.{OccursIn-from, occurs_at-in, known_later, none_below-then, nowhere_between, stands_after, stands_whole}
use Rattle.kq_value_strings.proofs.search.is_found_from.Goals as goal
use Rattle.kq_value_strings.proofs.search.is_found_from.Goals.{else-stands-via-then-stands+else-counts, else-stands-via-else-stands}

pub loop-at-preserved-then-end-part : goal.loop-at-preserved-then-end-part
loop-at-preserved-then-end-part c =
    let by = c.args.by in
    let s = c.args.text.now in
    let t = c.args.part.now in
    let cut = c.of-critical.result in
    let at = c.loop-at.at in
    let so_far = c.loop-at.invariant in
    let end = c.first_difference-end.result in
    let found = c.first_difference-end.ensures in
    let start = c.max.ensures in
    let low : cut.critical ≤ end = omega (arith, found.low) in
    let inside = c.if-end-part.true in
    let same = stands_after by s t at cut.critical c.loop-at.known c.max.result end start so_far.3 found.same in
    let next = Nowhere-right (seen by t) (length t) (seen by s) (length s) cut.critical c.of-critical.ensures.critical at end low inside same (found.differs inside) in
    (omega arith, none_below-then by s t c.args.occurrence at _ (omega arith) so_far.1 next, c.requires.some, λ k a b. absurd (omega arith))

pub returns-then-counts : goal.returns-then-counts
returns-then-counts c =
    let by = c.args.by in
    let s = c.args.text.now in
    let t = c.args.part.now in
    let cut = c.of-critical.result in
    let at = c.loop-at.at in
    let so_far = c.loop-at.invariant in
    let all : length t ≤ c.first_difference-end.result = omega (arith, c.if-end-part.false) in
    let after = stands_after by s t at cut.critical c.loop-at.known c.max.result c.first_difference-end.result c.max.ensures so_far.3 c.first_difference-end.ensures.same in
    let whole = stands_whole by s t at cut.critical c.loop-at.known c.min.result c.first_difference.result c.first_difference-end.result (length t) c.min.ensures c.if-stands.true all so_far.3 c.first_difference.ensures.same after in
    let occurs = occurs_at-in by s t at (omega arith) whole in
    let counted = counts-in_case c.args.occurrence by s t at ∙ sym c.if-counts.ensures in
    sym (found-at c.args.occurrence (in_case by s) (in_case by t) at (omega (arith, length-in_case by s)) (counts-both c.args.occurrence (in_case by s) (in_case by t) at occurs counted))

pub loop-at-preserved : goal.loop-at-preserved
loop-at-preserved c =
    let by = c.args.by in
    let s = c.args.text.now in
    let t = c.args.part.now in
    let x = seen by t in
    let m = length t in
    let h = seen by s in
    let n = length s in
    let which = c.args.occurrence in
    let cut = c.of-critical.result in
    let at = c.loop-at.at in
    let so_far = c.loop-at.invariant in
    let all : m ≤ c.first_difference-end.result = omega (arith, c.if-end-part.false) in
    let after = stands_after by s t at cut.critical c.loop-at.known c.max.result c.first_difference-end.result c.max.ensures so_far.3 c.first_difference-end.ensures.same in
    let right : StandsBetween by s t at cut.critical m = λ k a b. after k a (omega arith) in
    let here : counts_at which (in_case by s) (in_case by t) at ≡ false = elim c.else-stands.branch [
      | else-stands-via-then-stands+else-counts w ↦ counts-not which (in_case by s) (in_case by t) at (counts-in_case which by s t at ∙ sym w.if-counts.ensures)
      | else-stands-via-else-stands w ↦
          let r = c.first_difference.result in
          let short : r < cut.critical = omega (arith, c.first_difference.ensures.high, w.if-stands.false) in
          let inside = c.of-critical.ensures.inside in
          counts-none which (in_case by s) (in_case by t) at (not_true _ (λ e. c.first_difference.ensures.differs short (sym ((OccursIn-from by s t at (omega arith) e).reads r (omega arith)))))
    ] in
    let fits = c.of-critical.ensures.fits in
    let moves = c.of-critical.ensures.moves in
    let next = nowhere_between x m h n cut.critical cut.shift c.of-critical.ensures.critical c.of-critical.ensures.least at right in (
      omega arith,
      none_below-then by s t which (at + 1) (at + cut.shift) (omega arith) (none_below-more which (in_case by s) (in_case by t) at so_far.1 here) next,
      omega arith,
      known_later x m h n cut c.of-critical.ensures at right,
    )

pub returns : goal.returns
returns c =
    let n = length-in_case c.args.by c.args.text.now in
    let m = length-in_case c.args.by c.args.part.now in
    sym (found-end c.args.occurrence (in_case c.args.by c.args.text.now) (in_case c.args.by c.args.part.now) c.loop-at.at (omega (arith, c.requires.some)) (omega (arith, c.loop-at-test.false)) c.loop-at.invariant.1)
