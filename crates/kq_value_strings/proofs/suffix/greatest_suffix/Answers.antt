use Rattle.std.proofs.Common.{◌≡◌, ◌+◌, ◌-◌, length, sym, subst, ◌∙◌, arith}
use Rattle.memchr.proofs.lemmas.SuffixLemmas.{IsScan, IsScan-start, IsScan-accept, IsScan-skip, IsScan-push, IsScan-block, IsScan-end}
use Rattle.kq_value_strings.specs.Case.{seen}
use Rattle.kq_value_strings.specs.Suffixes.{Precedes}
use Rattle.kq_value_strings.proofs.Orders.{Precedes-trans, Precedes-irrefl}
use Rattle.kq_value_strings.proofs.suffix.greatest_suffix.Goals as goal

pub loop-candidate-init : goal.loop-candidate-init
loop-candidate-init c = IsScan-start (Precedes c.args.order) (Precedes-trans c.args.order) (Precedes-irrefl c.args.order) _ _ c.requires

pub loop-candidate-preserved-in-Less : goal.loop-candidate-preserved-in-Less
loop-candidate-preserved-in-Less c =
    let s = c.loop-candidate in
    let x = seen c.args.by c.args.text.now in
    let won : Precedes c.args.order c.seen_at-greatest.result c.seen_at-other.result = rw c.in-Less.is at c.compare.ensures in
    IsScan-accept (Precedes c.args.order) (Precedes-trans c.args.order) (Precedes-irrefl c.args.order) x _ s.invariant c.loop-candidate-test.true
    (subst (λ v. Precedes c.args.order v (x (s.candidate + s.offset))) c.seen_at-greatest.ensures (subst (Precedes c.args.order c.seen_at-greatest.result) c.seen_at-other.ensures won))

pub loop-candidate-preserved-in-Greater : goal.loop-candidate-preserved-in-Greater
loop-candidate-preserved-in-Greater c =
    let s = c.loop-candidate in
    let x = seen c.args.by c.args.text.now in
    let m = length c.args.text.now in
    let lost : Precedes c.args.order c.seen_at-other.result c.seen_at-greatest.result = rw c.in-Greater.is at c.compare.ensures in
    let moved : s.candidate + s.offset + 1 ≡ s.candidate + (s.offset + 1) = omega arith in
    subst (λ k. IsScan (Precedes c.args.order) x m s.start (k - s.start) k 0) moved
    (IsScan-skip (Precedes c.args.order) (Precedes-trans c.args.order) (Precedes-irrefl c.args.order) x m s.invariant c.loop-candidate-test.true
    (subst (λ v. Precedes c.args.order v (x (s.start + s.offset))) c.seen_at-other.ensures (subst (Precedes c.args.order c.seen_at-other.result) c.seen_at-greatest.ensures lost)))

pub loop-candidate-preserved-then-offset-period : goal.loop-candidate-preserved-then-offset-period
loop-candidate-preserved-then-offset-period c =
    let s = c.loop-candidate in
    let equal : c.seen_at-greatest.result ≡ c.seen_at-other.result = rw c.in-Equal.is at c.compare.ensures in
    IsScan-block (Precedes c.args.order) (Precedes-trans c.args.order) (Precedes-irrefl c.args.order) _ _ s.invariant c.loop-candidate-test.true
    (sym c.seen_at-greatest.ensures ∙ equal ∙ c.seen_at-other.ensures) c.if-offset-period.true

pub loop-candidate-preserved : goal.loop-candidate-preserved
loop-candidate-preserved c =
    let s = c.loop-candidate in
    let short = s.invariant.short in
    let differs = c.if-offset-period.false in
    let equal : c.seen_at-greatest.result ≡ c.seen_at-other.result = rw c.in-Equal.is at c.compare.ensures in
    IsScan-push (Precedes c.args.order) (Precedes-trans c.args.order) (Precedes-irrefl c.args.order) _ _ s.invariant c.loop-candidate-test.true
    (sym c.seen_at-greatest.ensures ∙ equal ∙ c.seen_at-other.ensures) (omega arith)

pub returns : goal.returns
returns c =
    let s = c.loop-candidate in
    let within = s.invariant.within in
    let ended = c.loop-candidate-test.false in
    IsScan-end (Precedes c.args.order) (Precedes-trans c.args.order) (Precedes-irrefl c.args.order) _ _ s.invariant (omega arith)
