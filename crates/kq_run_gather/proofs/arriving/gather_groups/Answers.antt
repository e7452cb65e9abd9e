use Rattle.std.proofs.Common.{◌≡◌, ℕ, ℤ, drop, length, map, rules, subst, sym, w64, to_z, of_z}
use Rattle.std.proofs.lemmas.Int.{to_z-of_z}
use Rattle.std.proofs.lemmas.List.{length-map}
use Rattle.kq_plan_expressions.specs.Terms.{term_of}
use Rattle.kq_run_groups.specs.Groups.{Starts}
use Rattle.kq_plan.specs.Fits.{ty_of}
use Rattle.kq_plan.specs.Plans.{aggregating_of}
use Rattle.kq_run_scan.specs.kq_eval_row.Val.{surroundings}
use Rattle.kq_run_gather.specs.declared.arriving.Arrived.{Arrived}
use Rattle.kq_run_gather.specs.Arriving.{ArriveAs, BeginAs, groups_or}
use Rattle.kq_run_gather.specs.Grouping.{under}
use Rattle.kq_run_gather.proofs.arriving.gather_groups.Goals as goal

pub take_all-requires : goal.take_all-requires
take_all-requires c =
    let gs = map aggregating_of c.args.aggregates.now in
    let cs = c.args.columns.now in
    (cs, subst (λ (n : ℕ). Starts n (under gs (map ty_of (drop n cs))) c.in_ok-groups.groups) (sym (length-map c.args.keys.now term_of)) c.in_ok-groups.ensures)

pub returns : goal.returns
returns c =
    let same : to_z w64 (of_z w64 c.args.now) ≡ c.args.now = search (rules, to_z-of_z) in
    let es = map term_of c.args.keys.now in
    let gs = map aggregating_of c.args.aggregates.now in
    let cs = c.args.columns.now in
    let whole = c.args.flow.now.to_come in
    let begins : BeginAs es gs cs c.in_ok-groups.groups = subst (λ (n : ℕ). Starts n (under gs (map ty_of (drop n cs))) c.in_ok-groups.groups) (sym (length-map c.args.keys.now term_of)) c.in_ok-groups.ensures in
    let arrives = subst (λ (z : ℤ). ArriveAs es gs cs (surroundings z c.args.lets.now) whole (groups_or c.take_all.new.groups c.in_ok-other.other)) same (c.in_ok-other.ensures cs begins) in
    subst (λ (a : Arrived). ArriveAs es gs cs (surroundings c.args.now c.args.lets.now) whole a) (sym c.groups_or.ensures) arrives
