use Rattle.std.proofs.Common.{◌≡◌, ◌<◌, ◌+◌, Err, length, map, sym, ap, ◌∙◌, subst, arith}
use Rattle.std.specs.Arc.{arc_value}
use Rattle.std.specs.List.{All}
use Rattle.std.proofs.lemmas.List.{get_or-map, length-map}
use Rattle.std.proofs.lemmas.Result.{err_from_is_err_and}
use Rattle.kq_value.specs.Computed.{Answers, Is}
use Rattle.kq_run_groups.specs.Groups.{EndsWide, Grouping, HasAllGroups, rows_from}
use Rattle.kq_run_shards.specs.Shards.{nobody, shard_at}
use Rattle.kq_run_shards.proofs.Ending.{IsEnding, IsEnding-fault, IsEnding-more, IsEnding-wide}
use Rattle.kq_run_shards.proofs.shards.rows_of.Goals as goal

pub rows-requires-clause-whole : goal.rows-requires-clause-whole
rows-requires-clause-whole c =
    let shards = map arc_value c.args.shards.now in
    let i = c.loop-shard.shard-index in
    let test = c.loop-shard-test.true in
    let there : i < length shards = let n = length-map c.args.shards.now arc_value in omega (arith, test, n) in
    let at : shard_at shards i ≡ c.deref.result.now = get_or-map arc_value c.args.shards.now i c.shard-item.result nobody test ∙ ap arc_value (sym c.shard-item.is) ∙ sym c.deref.ensures in
    subst HasAllGroups at (c.requires.whole i nobody there)

pub rows-requires-clause-wide : goal.rows-requires-clause-wide
rows-requires-clause-wide c =
    let shards = map arc_value c.args.shards.now in
    let i = c.loop-shard.shard-index in
    let test = c.loop-shard-test.true in
    let there : i < length shards = let n = length-map c.args.shards.now arc_value in omega (arith, test, n) in
    let at : shard_at shards i ≡ c.deref.result.now = get_or-map arc_value c.args.shards.now i c.shard-item.result nobody test ∙ ap arc_value (sym c.shard-item.is) ∙ sym c.deref.ensures in
    subst (λ (g : Grouping). All EndsWide g.states) at (c.requires.ends i nobody there)

pub returns-in_err-rows : goal.returns-in_err-rows
returns-in_err-rows c =
    let shards = map arc_value c.args.shards.now in
    let i = c.loop-shard.shard-index in
    let test = c.loop-shard-test.true in
    let there : i < length shards = let n = length-map c.args.shards.now arc_value in omega (arith, test, n) in
    let at : shard_at shards i ≡ c.deref.result.now = get_or-map arc_value c.args.shards.now i c.shard-item.result nobody test ∙ ap arc_value (sym c.shard-item.is) ∙ sym c.deref.ensures in
    let p = err_from_is_err_and c.from_residual.result c.from_residual.ensures.1 in
    let lost = IsEnding-fault shards i c.loop-shard.rows c.in_err-rows.field-0.0 c.loop-shard.invariant there
    (subst (λ (g : Grouping). Answers (rows_from g.states g.keys 0) (Err c.in_err-rows.field-0.0)) (sym at) c.in_err-rows.ensures) in
    rw (p.1, p.2) lost

pub append-requires : goal.append-requires
append-requires c =
    let shards = map arc_value c.args.shards.now in
    let i = c.loop-shard.shard-index in
    let test = c.loop-shard-test.true in
    let there : i < length shards = let n = length-map c.args.shards.now arc_value in omega (arith, test, n) in
    let at : shard_at shards i ≡ c.deref.result.now = get_or-map arc_value c.args.shards.now i c.shard-item.result nobody test ∙ ap arc_value (sym c.shard-item.is) ∙ sym c.deref.ensures in
    let rows = c.in_ok-rows.field-0 in
    IsEnding-wide shards i c.loop-shard.rows rows c.loop-shard.invariant there (subst (λ (g : Grouping). rows_from g.states g.keys 0 ≡ Is rows) (sym at) c.in_ok-rows.ensures)

pub loop-shard-preserved : goal.loop-shard-preserved
loop-shard-preserved c =
    let shards = map arc_value c.args.shards.now in
    let i = c.loop-shard.shard-index in
    let test = c.loop-shard-test.true in
    let there : i < length shards = let n = length-map c.args.shards.now arc_value in omega (arith, test, n) in
    let at : shard_at shards i ≡ c.deref.result.now = get_or-map arc_value c.args.shards.now i c.shard-item.result nobody test ∙ ap arc_value (sym c.shard-item.is) ∙ sym c.deref.ensures in
    let rows = c.in_ok-rows.field-0 in
    subst (IsEnding shards (i + 1)) (sym c.in_ok-append.ensures.ok)
    (IsEnding-more shards i c.loop-shard.rows rows c.loop-shard.invariant there (subst (λ (g : Grouping). rows_from g.states g.keys 0 ≡ Is rows) (sym at) c.in_ok-rows.ensures))
