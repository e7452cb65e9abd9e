use denote.Param.{param}
use denote.Param.Send.{IsSync, sendable}
use Rattle.std.proofs.Crossing.{crosses}
use Rattle.std.proofs.Common.{arith, length, rules, ◌≡◌, ◌≤◌, ◌+◌, ◌-◌, ◌∷◌}
use Rattle.kq_workers.proofs.kq_engine.Crossing.{pass_send, shared_sync}
use Rattle.kq_program.proofs.Beside.{ServedBeside-none, ServedBeside-worker}
use Rattle.kq_program.proofs.workers.+fn-serve_beside_workers-join+arg3+serve_beside_workers.Goals as goal

pub fn::serve_beside_workers::join+arg3+FnOnce::call_once-join+arg3-requires :
    goal.fn::serve_beside_workers::join+arg3+FnOnce::call_once-join+arg3-requires
fn::serve_beside_workers::join+arg3+FnOnce::call_once-join+arg3-requires g t c κs within =
    let r = c.requires.1.1.1.1.1.1 in
    let sent = r.1.1.1.1.1.1.1 in
    (search rules, (within.0, (within.1.0, (within.1.1.0, (within.1.1.1.0, (within.1.1.1.1.0, (within.1.1.1.1.1, (sent.0, (sent.1, (sent.2, (sent.3, (sent.4, (r.0, (r.1.0, (r.1.1.0, (r.1.1.1.0, (r.1.1.1.1.0, (r.1.1.1.1.1.0, r.1.1.1.1.1.1.0))))))))))))))))))

pub join-worked-requires-send-F : goal.join-worked-requires-send-F
join-worked-requires-send-F g t c κs within =
    let rt : IsSync (param 0 g.row.R) = search (rules, c.requires-raw) parts 9 in
    let gate : IsSync (param 4 g.row.G) = search (rules, c.requires-raw) parts 9 in
    search (shared_sync, pass_send, sendable, crosses) depth 60 fits 20000

pub join-worked-requires-send-A : goal.join-worked-requires-send-A
join-worked-requires-send-A g t c κs within = search (pass_send, sendable, crosses) depth 60 fits 20000

pub returns : goal.returns
returns g t c =
    let some : 2 ≤ c.args.pass.worth = omega (arith, c.requires.worth) in
    let few : length (c.args.first ∷ c.args.feeds.items) ≤ 8 = let few = c.requires.few in omega (arith, few) in
    let one_more : c.args.workers ≡ c.args.workers - 1 + 1 = omega arith in
    record {
      served = ServedBeside-worker c.args.shared.now.limits c.args.workers (c.args.workers - 1) c.actor_of-actor.result c.args.shared.now.turn c.args.pass _ _ _ _ c.join.result _ _ _ few c.requires.of some c.split-rest.ensures.first c.split-rest.ensures.second one_more c.actor_of-actor.ensures c.join-worked.ensures.second c.join-worked.ensures.first.0 c.join-worked.ensures.first.1 c.join.ensures.of c.join.ensures.first_seen c.join.ensures.second_seen c.join.ensures.worth c.join.ensures.added c.join.ensures.made;
    }
