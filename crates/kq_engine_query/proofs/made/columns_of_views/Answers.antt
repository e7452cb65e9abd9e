use Rattle.std.proofs.Common.{◌≡◌, ◌≤◌, ◌<◌, ◌++◌, ◌∷◌, [], List, length, map, take, ap, ◌∙◌, arith}
use Rattle.std.proofs.lemmas.List.{take_all}
use Rattle.kq_value.specs.declared.schema.Field.{Field}
use Rattle.kq_catalog_journal.specs.History.{log, views}
use Rattle.kq_engine_query.specs.Views.{columns_of_view}
use Rattle.kq_engine_query.proofs.Standing.{columns_more}
use Rattle.kq_engine_query.proofs.made.columns_of_views.Goals as goal

pub loop-number-preserved : goal.loop-number-preserved
loop-number-preserved c =
    let h = c.args.snapshot.now.history in
    let n = c.loop-number.number in
    let made = c.in_ok-columns_of.field-0 in
    let within : n < length (views (log h)) = omega (arith, c.loop-number-test.true, c.view_count-number-end.ensures) in
    let so_far : c.push.new.self.items ≡ map columns_of_view (take n (views (log h))) ++ made ∷ [] = c.in_ok-push.ensures.items ∙ ap (λ (cs : List (List Field)). cs ++ made ∷ []) c.loop-number.invariant in
    so_far ∙ columns_more h n made within c.in_ok-columns_of.ensures

pub returns : goal.returns
returns c =
    let vs = views (log c.args.snapshot.now.history) in
    let past : length vs ≤ c.loop-number.number = omega (arith, c.loop-number-test.false, c.view_count-number-end.ensures) in
    c.loop-number.invariant ∙ ap (map columns_of_view) (take_all c.loop-number.number vs past)
