use Rattle.std.proofs.Common.{◌≡◌, ◌+◌, ◌∙◌, ℕ, ap, length, map, sym}
use Rattle.std.proofs.lemmas.List.{length-map}
use Rattle.kq_plan_expressions.specs.Terms.{term_of}
use Rattle.kq_run_gather.specs.Grouping.{all_made}
use Rattle.kq_run_gather.specs.Summaries.{ran_of}
use Rattle.kq_plan.specs.Plans.{aggregating_of}
use Rattle.kq_run_gather.specs.kq_eval_row.Val.{surroundings}
use Rattle.kq_run_plan.proofs.Grouped.{ends_in_failure, ends_in_groups, ends_in_overflow, groups_end}
use Rattle.kq_run_plan.proofs.sinks.group_all.Goals as goal

pub rows_of-requires : goal.rows_of-requires
rows_of-requires g c =
    let a = c.args.asked.now in
    let es = map term_of a.keys.now in
    let gs = map aggregating_of a.aggregates.now in
    let cs = a.columns.now in
    let long : length cs ≡ length es + all_made gs = c.requires.asked ∙ ap (λ (n : ℕ). n + all_made gs) (sym (length-map a.keys.now term_of)) in
    let ready = groups_end es gs cs (surroundings a.moment a.lets.now) (ran_of a c.args.rows.now) c.in_ok-groups.field-0 c.in-Groups.groups long c.in_ok-groups.ensures c.in-Groups.is in
    record { whole = ready.whole; wide = ready.wide }

pub returns-in_ok-rows_of-in-Groups : goal.returns-in_ok-rows_of-in-Groups
returns-in_ok-rows_of-in-Groups g c =
    let a = c.args.asked.now in
    ends_in_groups (map term_of a.keys.now) (map aggregating_of a.aggregates.now) a.columns.now (surroundings a.moment a.lets.now) c.args.stage (ran_of a c.args.rows.now) c.in_ok-groups.field-0 c.in-Groups.groups _ c.in_ok-groups.ensures c.in-Groups.is c.in_ok-rows_of-in-Groups.ensures

pub returns-in-Overflow : goal.returns-in-Overflow
returns-in-Overflow g c =
    let a = c.args.asked.now in
    ends_in_overflow (map term_of a.keys.now) (map aggregating_of a.aggregates.now) a.columns.now (surroundings a.moment a.lets.now) c.args.stage (ran_of a c.args.rows.now) c.in_ok-groups.field-0 c.in_ok-groups.ensures c.in-Overflow.is

pub returns-in-Failed : goal.returns-in-Failed
returns-in-Failed g c =
    let a = c.args.asked.now in
    ends_in_failure (map term_of a.keys.now) (map aggregating_of a.aggregates.now) a.columns.now (surroundings a.moment a.lets.now) c.args.stage (ran_of a c.args.rows.now) c.in_ok-groups.field-0 c.in-Failed.n c.in_ok-groups.ensures c.in-Failed.is
