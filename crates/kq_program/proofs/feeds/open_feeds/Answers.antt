use Rattle.std.proofs.Common.{rules, arith, ◌≡◌, [], length, refl, ap, sym, ◌∙◌, append-nil, length-append}
use Rattle.std.specs.Vec.Iter.{into_iter_items}
use Rattle.std.proofs.lemmas.List.{length_push}
use Rattle.kq_program.proofs.Opening.{Opening-none, Opening-next, Opening-asked, OpensByCause-from, AreOpened-all, nothing_left}
use Rattle.kq_program.proofs.feeds.open_feeds.Goals as goal

pub loop-name-init : goal.loop-name-init
loop-name-init g c = record {
  can_next = search rules;
  finite = search rules;
  left = search rules;
  opening = Opening-none _ _ _ _ _ _ _ c.into_iter-name-iterator.ensures.into_iter_gives.0 c.in_ok-feeds.ensures.items;
  begun = search rules;
  given = search rules;
  count = search rules;
  room = search rules;
}

pub returns-in-Err : goal.returns-in-Err
returns-in-Err g c =
    let at = c.loop-name.invariant in
    let step = c.in-Err.ensures in
    record {
      opened = tt;
      first = step.first ∙ at.opening.first_told;
      begun = step.begun ∙ at.begun;
      given = step.given ∙ at.given;
      asked = Opening-asked (Unit {0}) (Unit {0}) _ _ _ _ _ _ _ _ _ _ _ _ _ _ _ _ _ c.in-Some.ensures.steps.0 c.as_str.ensures at.opening step.asked;
      cause = OpensByCause-from (Unit {0}) (Unit {0}) _ _ _ _ at.opening.counts step.cause;
    }

pub push_reserved-requires : goal.push_reserved-requires
push_reserved-requires g c =
    let at = c.loop-name.invariant in
    let all = ap length at.opening.all in
    let steps = ap length c.in-Some.ensures.steps.0 in
    omega (arith, all, steps, length-append c.loop-name.yielded (into_iter_items c.loop-name.name-iterator), at.count, at.room)

pub loop-name-preserved : goal.loop-name-preserved
loop-name-preserved g c =
    let at = c.loop-name.invariant in
    let steps = c.in-Some.ensures.steps in
    let step = c.in-Ok.ensures in
    let short = ap length steps.0 in
    record {
      can_next = search rules;
      finite = search rules;
      left = omega (arith, short, steps.1, at.left);
      opening = Opening-next _ _ _ _ _ _ _ _ _ _ _ _ _ _ _ _ _ _ _ _ _ c.requires steps.0 c.push_reserved.ensures.items c.as_str.ensures at.opening step.told step.source step.sink step.others step.first step.asked step.cause refl refl;
      begun = step.begun ∙ at.begun;
      given = step.given ∙ at.given;
      count = omega (arith, c.push_reserved.ensures.len, at.count, length_push c.loop-name.yielded c.in-Some.name);
      room = omega (arith, c.push_reserved.ensures.capacity, at.room);
    }

pub returns-clause-opened : goal.returns-clause-opened
returns-clause-opened g c =
    let at = c.loop-name.invariant in
    let empty : into_iter_items c.loop-name.name-iterator ≡ [] = nothing_left _ (sym at.left ∙ c.in-None.ensures.steps.0) in
    let all : c.loop-name.yielded ≡ c.args.names.items = sym (append-nil c.loop-name.yielded) ∙ rw empty at at.opening.all in
    AreOpened-all _ _ _ _ all at.opening.each

pub returns-clause-asked : goal.returns-clause-asked
returns-clause-asked g c =
    let at = c.loop-name.invariant in
    let empty : into_iter_items c.loop-name.name-iterator ≡ [] = nothing_left _ (sym at.left ∙ c.in-None.ensures.steps.0) in
    let all : c.loop-name.yielded ≡ c.args.names.items = sym (append-nil c.loop-name.yielded) ∙ rw empty at at.opening.all in
    rw all at at.opening.in_order
