use Rattle.std.proofs.Common.{◌≡◌, ◌-◌, get_or, sym, ◌∙◌, rules}
use Rattle.std.specs.declared.cmp.Ordering.TheVariants.{Less, Greater}
use Rattle.std.specs.Ordering.{nat_cmp}
use Rattle.std.specs.Cmp.Lexicographic.{slice_cmp}
use Rattle.kq_store_ingest.proofs.TokenLemmas.{after_place, before_place}
use Rattle.kq_store_ingest.proofs.dynamic.place_of.Goals as goal

pub returns-in-Less : goal.returns-in-Less
returns-in-Less c =
    let ms = c.args.bag.now.items in
    let m = c.index.result.now in
    let (within, before) = c.loop-place.invariant in
    let is : m ≡ get_or ms (c.loop-place.place - 1) m = search rules in
    let less : slice_cmp nat_cmp m.key c.args.key.now ≡ Less = sym c.cmp.ensures ∙ c.in-Less.is in
    (within, after_place ms c.loop-place.place m c.args.key.now c.loop-place-test.true within is less, before)

pub loop-place-preserved : goal.loop-place-preserved
loop-place-preserved c =
    let ms = c.args.bag.now.items in
    let m = c.index.result.now in
    let (within, before) = c.loop-place.invariant in
    let is : m ≡ get_or ms (c.loop-place.place - 1) m = search rules in
    let greater : slice_cmp nat_cmp m.key c.args.key.now ≡ Greater = sym c.cmp.ensures ∙ c.in-Greater.is in
    (search rules, before_place ms c.loop-place.place m c.args.key.now c.loop-place-test.true within is greater)
