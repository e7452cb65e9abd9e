use Rattle.std.proofs.Common.{ℕ, below_more, refl, arith}
use Rattle.kq_value.specs.Bags.{IsBag}
use Rattle.kq_store_column_view.specs.Bags.{entries_at}
use Rattle.kq_store_column.proofs.Bagged.{all_bags, bags_next}
use Rattle.kq_store_column.proofs.bags.are_bags_of.Goals as goal

pub loop-i-init : goal.loop-i-init
loop-i-init c = record { same = refl; bags = λ k h. absurd (omega arith) }

pub loop-i-preserved : goal.loop-i-preserved
loop-i-preserved c =
    let parts = c.args.parts.now in
    let i = c.loop-i.i in
    let is = c.is_bag_of-same.ensures c.if-not-same.false in
    record {
      same = bags_next parts c.args.cells.now i c.index-cells-i.result (omega arith) c.index-cells-i.is c.loop-i.invariant.same is.same;
      bags = below_more (λ (k : ℕ). IsBag (entries_at parts k)) i c.loop-i.invariant.bags is.bag;
    }

pub returns : goal.returns
returns c = λ yes. all_bags c.args.parts.now c.args.cells.now c.loop-i.i (omega arith) c.loop-i.invariant.same c.loop-i.invariant.bags
