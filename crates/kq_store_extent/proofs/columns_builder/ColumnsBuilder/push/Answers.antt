use Rattle.std.proofs.Common.{◌≡◌, ◌<◌, length, sym, ap, ◌∙◌, subst, arith}
use Rattle.kq_store_extent.specs.Coming.{ComingRows, IsOfTypes, types_grown}
use Rattle.kq_store_extent.proofs.Coming.{all_taken, all_whole, length-IsOfTypes, length-grown_more, next_taken, next_typed}
use Rattle.kq_store_extent.proofs.columns_builder.ColumnsBuilder.push.Goals as goal

pub index_mut-requires : goal.index_mut-requires
index_mut-requires c =
    let gs = c.self.inside.builders.items in
    let long : length c.loop-i.builders.items ≡ length gs = ap length c.loop-i.invariant ∙ length-grown_more c.loop-i.i gs c.args.row.now in
    omega (arith, long, c.loop-i.builders.ok.0, c.self.inside.builders.ok.0)

pub bounds-row-i : goal.bounds-row-i
bounds-row-i c =
    let gs = c.self.inside.builders.items in
    let of : IsOfTypes (types_grown gs) c.args.row.now = subst (λ (b : ComingRows). IsOfTypes b.types c.args.row.now) (sym c.self.view_is) c.requires in
    let n = length-IsOfTypes gs c.args.row.now of in
    omega (arith, n, c.self.inside.builders.ok.0)

pub push-requires : goal.push-requires
push-requires c =
    let gs = c.self.inside.builders.items in
    let row = c.args.row.now in
    let of : IsOfTypes (types_grown gs) row = subst (λ (b : ComingRows). IsOfTypes b.types row) (sym c.self.view_is) c.requires in
    let long : length c.loop-i.builders.items ≡ length gs = ap length c.loop-i.invariant ∙ length-grown_more c.loop-i.i gs row in
    let within : c.loop-i.i < length c.loop-i.builders.items = omega (arith, long, c.self.inside.builders.ok.0) in
    next_typed gs c.loop-i.builders.items row c.loop-i.i c.index_mut.result.now c.index-row-i.result of c.loop-i.invariant within c.index_mut.ensures.value c.index-row-i.is

pub loop-i-preserved : goal.loop-i-preserved
loop-i-preserved c =
    let gs = c.self.inside.builders.items in
    let row = c.args.row.now in
    let of : IsOfTypes (types_grown gs) row = subst (λ (b : ComingRows). IsOfTypes b.types row) (sym c.self.view_is) c.requires in
    let long : length c.loop-i.builders.items ≡ length gs = ap length c.loop-i.invariant ∙ length-grown_more c.loop-i.i gs row in
    let within : c.loop-i.i < length c.loop-i.builders.items = omega (arith, long, c.self.inside.builders.ok.0) in
    next_taken gs c.loop-i.builders.items row c.loop-i.i c.index_mut.result.now c.push.new.self c.index-row-i.result of c.loop-i.invariant within c.index_mut.ensures.value c.index-row-i.is c.in_ok-push.ensures.ok

pub invariant_of-result : goal.invariant_of-result
invariant_of-result c =
    let gs = c.self.inside.builders.items in
    let row = c.args.row.now in
    let of : IsOfTypes (types_grown gs) row = subst (λ (b : ComingRows). IsOfTypes b.types row) (sym c.self.view_is) c.requires in
    all_whole gs c.loop-i.builders.items row c.self.inside.count c.loop-i.i of c.loop-i.invariant (omega (arith, c.self.inside.builders.ok.0)) c.self.invariant (omega arith)

pub returns : goal.returns
returns c =
    let gs = c.self.inside.builders.items in
    let row = c.args.row.now in
    let of : IsOfTypes (types_grown gs) row = subst (λ (b : ComingRows). IsOfTypes b.types row) (sym c.self.view_is) c.requires in
    all_taken gs c.loop-i.builders.items row c.self.inside.count c.loop-i.i c.args.self of c.loop-i.invariant (omega (arith, c.self.inside.builders.ok.0)) c.self.invariant c.self.view_is
