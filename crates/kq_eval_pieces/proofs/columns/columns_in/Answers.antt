use Rattle.std.proofs.Common.{◌≡◌, ◌<◌, ℕ, refl, subst, arith, add-one}
use Rattle.std.proofs.lemmas.List.{length-append}
use Rattle.std.specs.List.{All}
use Rattle.kq_eval_pieces.specs.Pieces.{piece_of}
use Rattle.kq_eval_pieces.proofs.Standing.{hold_all, hold_more, hold_none}
use Rattle.kq_eval_pieces.proofs.columns.columns_in.Goals as goal

pub loop-j-init : goal.loop-j-init
loop-j-init g c = rw c.in_ok-columns.ensures.items (refl, hold_none (piece_of (g.R.Relation.rows c.args.relation.now) c.args.from c.args.to) c.args.reads.now)

pub loop-j-preserved : goal.loop-j-preserved
loop-j-preserved g c =
    rw (c.in_ok-push.ensures.items, add-one) (
      rw length-append (omega (arith, c.loop-j.invariant.0)),
      hold_more (piece_of (g.R.Relation.rows c.args.relation.now) c.args.from c.args.to) c.args.reads.now c.loop-j.columns.items c.in_ok-column_if_read.field-0 c.loop-j.j c.loop-j.invariant.0 c.loop-j.invariant.1 c.in_ok-column_if_read.ensures,
    )

pub returns : goal.returns
returns g c =
    let there : c.in_ok-width.width ≡ c.loop-j.j = omega arith in
    hold_all (piece_of (g.R.Relation.rows c.args.relation.now) c.args.from c.args.to) c.args.reads.now c.loop-j.columns.items c.loop-j.j (subst (λ (w : ℕ). All (λ j. j < w) c.args.reads.now) there c.in_ok-width.ensures) c.loop-j.invariant.1
