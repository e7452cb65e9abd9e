use Rattle.std.proofs.Common.{arith}
use Rattle.memchr.proofs.lemmas.CriticalLemmas.{IsCutPlace-of}
use Rattle.kq_value_strings.specs.declared.suffix.Order.TheVariants.{Rising, Falling}
use Rattle.kq_value_strings.specs.Suffixes.{Precedes}
use Rattle.kq_value_strings.proofs.Orders.{Precedes-trans, Precedes-irrefl}
use Rattle.kq_value_strings.proofs.cut.Cut.of.Goals as goal

pub before-requires : goal.before-requires
before-requires c =
    let rising = c.greatest_suffix-rising.ensures in
    let falling = c.greatest_suffix-falling.ensures in
    let fits = falling.fits in
    let some = falling.some in
    IsCutPlace-of (Precedes Falling) (Precedes Rising) (Precedes-trans Falling) (Precedes-irrefl Falling) (Precedes-irrefl Rising)
    (λ a b p q. omega arith) _ _ _ _ (omega arith) falling.greatest rising.greatest (omega arith) _ falling

pub before-requires-else-rising-falling : goal.before-requires-else-rising-falling
before-requires-else-rising-falling c =
    let rising = c.greatest_suffix-rising.ensures in
    let falling = c.greatest_suffix-falling.ensures in
    let fits = rising.fits in
    let some = rising.some in
    IsCutPlace-of (Precedes Rising) (Precedes Falling) (Precedes-trans Rising) (Precedes-irrefl Rising) (Precedes-irrefl Falling)
    (λ a b p q. omega arith) _ _ _ _ (omega arith) rising.greatest falling.greatest (omega arith) _ rising
