use denote.Param.{param}
use denote.Param.Send.{IsSend, IsSync, sendable}
use Rattle.std.proofs.Crossing.{crosses}
use Rattle.std.proofs.Common.{arith, rules, length, ◌≡◌, ◌≤◌, ◌+◌, ◌++◌, ◌∷◌, [], ap, ◌∙◌}
use Rattle.std.proofs.lemmas.List.{length_push}
use Rattle.kq_workers.specs.kq_engine.Shared.{PassView}
use Rattle.kq_workers.proofs.kq_engine.Crossing.{pass_send, shared_sync}
use Rattle.kq_program.proofs.Serving.{empty_of, served_count, ServedAll-first, ServedAll-more}
use Rattle.kq_program.proofs.together.+fn-serve_all-join+arg3+serve_all.Goals as goal

pub fn::serve_all::join+arg3+FnOnce::call_once-join+arg3-requires :
    goal.fn::serve_all::join+arg3+FnOnce::call_once-join+arg3-requires
fn::serve_all::join+arg3+FnOnce::call_once-join+arg3-requires g t c κs within =
    let r = c.requires.1.1.1.1.1.1 in
    let sent = r.1.1.1.1.1.1 in
    (search rules, (within.0, (within.1.0, (within.1.1.0, (within.1.1.1.0, (within.1.1.1.1.0, (within.1.1.1.1.1, (sent.0, (sent.1, (sent.2, (sent.3, (sent.4, (r.0, (r.1.0, (r.1.1.0, (r.1.1.1.0, (r.1.1.1.1.0, r.1.1.1.1.1.0)))))))))))))))))

pub join-one-requires-send-F : goal.join-one-requires-send-F
join-one-requires-send-F g t c κs within =
    let rt : IsSync (param 0 g.row.R) = search (rules, c.requires-raw) parts 8 in
    let source : IsSend (param 1 g.row.S) = search (rules, c.requires-raw) parts 8 in
    let sink : IsSend (param 2 g.row.K) = search (rules, c.requires-raw) parts 8 in
    let clock : IsSend (param 3 g.row.C) = search (rules, c.requires-raw) parts 8 in
    let gate : IsSync (param 4 g.row.G) = search (rules, c.requires-raw) parts 8 in
    search (shared_sync, pass_send, sendable, crosses) depth 60 fits 20000

pub join-one-requires-send-A : goal.join-one-requires-send-A
join-one-requires-send-A g t c κs within =
    let rt : IsSync (param 0 g.row.R) = search (rules, c.requires-raw) parts 8 in
    let source : IsSend (param 1 g.row.S) = search (rules, c.requires-raw) parts 8 in
    let sink : IsSend (param 2 g.row.K) = search (rules, c.requires-raw) parts 8 in
    let clock : IsSend (param 3 g.row.C) = search (rules, c.requires-raw) parts 8 in
    let gate : IsSync (param 4 g.row.G) = search (rules, c.requires-raw) parts 8 in
    search (pass_send, sendable, crosses) depth 60 fits 20000

pub join-one-requires-after_bounds : goal.join-one-requires-after_bounds
join-one-requires-after_bounds g t c κs within =
    let rt : IsSync (param 0 g.row.R) = search (rules, c.requires-raw) parts 8 in
    let source : IsSend (param 1 g.row.S) = search (rules, c.requires-raw) parts 8 in
    let sink : IsSend (param 2 g.row.K) = search (rules, c.requires-raw) parts 8 in
    let clock : IsSend (param 3 g.row.C) = search (rules, c.requires-raw) parts 8 in
    let gate : IsSync (param 4 g.row.G) = search (rules, c.requires-raw) parts 8 in
    let whole : length c.args.feeds.items ≡ length c.pop.new.self.items + 1 = ap length c.in-Some.ensures.items ∙ length_push c.pop.new.self.items c.in-Some.last in
    let first = ap (λ (p : PassView). p.worth) c.split-rest.ensures.first in
    let mine : c.split-rest.result.1.of ≡ c.args.shared.now.turn = ap (λ (p : PassView). p.of) c.split-rest.ensures.second ∙ c.requires.of in
    let rest : c.split-rest.result.0.of ≡ c.args.shared.now.turn = ap (λ (p : PassView). p.of) c.split-rest.ensures.first ∙ c.requires.of in
    ((mine, (omega arith, (search (sendable, crosses) depth 60 fits 20000, search (sendable, crosses) depth 60 fits 20000, search (sendable, crosses) depth 60 fits 20000, search (sendable, crosses) depth 60 fits 20000, search (sendable, crosses) depth 60 fits 20000))), (search rules, ((λ a m. m), ((λ a m. m), ((λ a m. m), ((λ a m. m), ((λ a m. m), ((λ a m. m), (rest, (c.requires.exporter, (omega (arith, whole, first, c.requires.worth), (omega (arith, whole, c.requires.few), (c.requires.empty, (omega (arith, whole, c.requires.room), (source, sink, clock, rt, gate)))))))))))))))

pub push_reserved-requires-2 : goal.push_reserved-requires-2
push_reserved-requires-2 g t c =
    let others = c.join-one.ensures.second in
    let all = c.join-one.result.1.sessions in
    let count = served_count _ _ _ _ _ _ c.pop.new.self.items all.items others.1 in
    let whole : length c.args.feeds.items ≡ length c.pop.new.self.items + 1 = ap length c.in-Some.ensures.items ∙ length_push c.pop.new.self.items c.in-Some.last in
    omega (arith, count, whole, all.ok.0, others.0, c.requires.room)

pub returns-clause-served : goal.returns-clause-served
returns-clause-served g t c =
    let one = c.join-one.ensures.first in
    let others = c.join-one.ensures.second in
    let feeds = c.pop.new.self.items in
    let whole : length c.args.feeds.items ≡ length feeds + 1 = ap length c.in-Some.ensures.items ∙ length_push feeds c.in-Some.last in
    let some : 2 ≤ c.args.pass.worth = omega (arith, whole, c.requires.worth) in
    ServedAll-more c.args.shared.now.limits 0 c.args.shared.now.turn c.args.pass _ _ _ _ c.join.result _ _ c.in-Some.last c.args.feeds.items feeds _ _ _ _ c.in-Some.ensures.items c.push_reserved-2.ensures.items c.requires.of some c.split-rest.ensures.first c.split-rest.ensures.second others.1 one (omega (arith, c.len.ensures, c.pop.new.self.ok.0, c.requires.few, whole)) c.join.ensures.of c.join.ensures.first_seen c.join.ensures.second_seen c.join.ensures.worth c.join.ensures.added c.join.ensures.made

pub returns-in_default-clause-served : goal.returns-in_default-clause-served
returns-in_default-clause-served g t c =
    let one = c.serve_one-pass.result in
    let sessions : c.push_reserved.new.self.items ≡ one.session ∷ [] = c.push_reserved.ensures.items ∙ ap (λ l. l ++ one.session ∷ []) c.requires.empty in
    let none : c.args.feeds.items ≡ [] = empty_of c.args.feeds.items (omega (arith, c.in_default.ensures.cases.0, c.args.feeds.ok.0)) in
    rw (sessions, none) (ServedAll-first c.args.shared.now.limits c.args.pass one.pass _ c.args.first one.session c.serve_one-pass.ensures)
