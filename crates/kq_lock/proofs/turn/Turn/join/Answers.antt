use Rattle.std.proofs.Common.{◌∙◌, ap, subst}
use Rattle.std.specs.Prelude.{All, Option}
use mathlib.Core.List.{IsPrefix}
use Rattle.atomic_table.specs.Table.{Me}
use Rattle.kq_lock.specs.declared.view.View.{View}
use Rattle.kq_lock.specs.Passes.{Known}
use Rattle.kq_lock.proofs.Beginnings.{first_begins, second_begins}
use Rattle.kq_lock.proofs.Passes.{joined_seen}
use Rattle.kq_lock.proofs.turn.Turn.join.Goals as goal

pub returns-clause-seen : goal.returns-clause-seen
returns-clause-seen g c =
    let E = g.row.S-Entry.Denot in
    let M = Me (Option g.row.S.Denot) (View E) in
    let told = c.load_count.ensures.one in
    joined_seen c.both.inside.seat.me.0 c.second.inside.seat.me.0 c.args.first.seen c.args.second.seen c.load_count.new.seat.me.0.seen told.0
    (ap (λ (p : Known E). p.seen) c.both.view_is) (ap (λ (p : Known E). p.seen) c.second.view_is)
    (ap (λ (m : M). m.0.seen) (◌∙◌ {A = M} c.load_count.ensures.me c.join_seat.ensures.me))
    (subst (λ os. All (λ old. IsPrefix old told.0) os) (ap (λ (m : M). m.0.olds) c.join_seat.ensures.me) told.2)

pub returns-clause-first_seen : goal.returns-clause-first_seen
returns-clause-first_seen g c = first_begins c.args.first.seen c.args.second.seen c.load_count.new.seat.me.0.seen (returns-clause-seen g c)

pub returns-clause-second_seen : goal.returns-clause-second_seen
returns-clause-second_seen g c = second_begins c.args.first.seen c.args.second.seen c.load_count.new.seat.me.0.seen (returns-clause-seen g c)
