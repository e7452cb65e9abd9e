use Rattle.std.proofs.Common.{subst}
use Rattle.kq_lock.proofs.Closes.{HasWhole, closes}
use Rattle.kq_lock.proofs.turn.Turn.close.Goals as goal

pub unreachable-requires : goal.unreachable-requires
unreachable-requires g c =
    let s = g.S.Grows in
    let key = c.self.inside.table.shared.key in
    let told = closes s.history s.fixed key.passes (s.fixed key.first.value) _ _ _ c.args.pass _ _ c.take-value.result c.pass.view_is c.requires.idle c.requires.whole c.pass.invariant.0
    c.close_with-closed.ensures.values.2 c.take-value.ensures.value in
    subst (HasWhole s.history s.fixed c.args.pass) c.in_default.is told

pub returns-clause-seen : goal.returns-clause-seen
returns-clause-seen g c =
    let s = g.S.Grows in
    let key = c.self.inside.table.shared.key in
    let told = closes s.history s.fixed key.passes (s.fixed key.first.value) _ _ _ c.args.pass _ _ c.take-value.result c.pass.view_is c.requires.idle c.requires.whole c.pass.invariant.0
    c.close_with-closed.ensures.values.2 c.take-value.ensures.value in
    (subst (HasWhole s.history s.fixed c.args.pass) c.in-Some.is told).seen

pub returns-clause-added : goal.returns-clause-added
returns-clause-added g c =
    let s = g.S.Grows in
    let key = c.self.inside.table.shared.key in
    let told = closes s.history s.fixed key.passes (s.fixed key.first.value) _ _ _ c.args.pass _ _ c.take-value.result c.pass.view_is c.requires.idle c.requires.whole c.pass.invariant.0
    c.close_with-closed.ensures.values.2 c.take-value.ensures.value in
    (subst (HasWhole s.history s.fixed c.args.pass) c.in-Some.is told).added

pub returns-clause-fixed : goal.returns-clause-fixed
returns-clause-fixed g c =
    let s = g.S.Grows in
    let key = c.self.inside.table.shared.key in
    let told = closes s.history s.fixed key.passes (s.fixed key.first.value) _ _ _ c.args.pass _ _ c.take-value.result c.pass.view_is c.requires.idle c.requires.whole c.pass.invariant.0
    c.close_with-closed.ensures.values.2 c.take-value.ensures.value in
    (subst (HasWhole s.history s.fixed c.args.pass) c.in-Some.is told).fixed_is
