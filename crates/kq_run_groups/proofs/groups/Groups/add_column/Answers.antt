use Rattle.std.proofs.Common.{◌≡◌, ℕ, List, length, sym, ap, ◌∙◌, subst}
use Rattle.std.specs.List.{All}
use Rattle.std.specs.Vec.{with_items}
use Rattle.std.proofs.lemmas.List.{length-map, with_items_is}
use Rattle.kq_run_aggregates.specs.Alone.{alone, each_alone}
use Rattle.kq_store_column_view.specs.Vectors.{cells_of}
use Rattle.std.proofs.lemmas.Result.{on_ok_weaker}
use Rattle.kq_run_aggregates.specs.Tables.{Numbered}
use Rattle.kq_store_rows.specs.Chunks.{HasWidth}
use Rattle.kq_run_groups.specs.Arguments.{rows_given}
use Rattle.kq_run_groups.specs.Groups.{AddsRows, Grouping, HasAllGroups}
use Rattle.kq_run_groups.proofs.Groupings.{AddsRows-given, given_along, numbers_along, numbers_known}
use Rattle.kq_run_groups.proofs.groups.Groups.add_column.Goals as goal

pub gather_all-requires-clause-along : goal.gather_all-requires-clause-along
gather_all-requires-clause-along c =
    let cells = cells_of c.args.keys.now in
    let keys = each_alone cells in
    given_along c.as_slice.result.now c.args.args.now (length cells) (ap length c.as_slice.ensures.value ∙ numbers_along c.numbers_of_column.new.self.keys c.in_ok-numbers.numbers.items keys c.in_ok-numbers.ensures.numbers.are ∙ length-map cells alone) c.requires.along

pub gather_all-requires-clause-known : goal.gather_all-requires-clause-known
gather_all-requires-clause-known c =
    rw (c.as_slice.ensures.value, c.len-count.ensures.count) (numbers_known c.numbers_of_column.new.self.keys c.in_ok-numbers.numbers.items (each_alone (cells_of c.args.keys.now)) c.in_ok-numbers.ensures.numbers.are)

pub returns : goal.returns
returns c =
    let seen : Grouping = record { width = c.self.inside.keys.width; keys = c.self.inside.keys.keys; states = c.self.inside.states.items } in
    let is : seen ≡ c.args.self.now = c.self.view_is in
    let cells = cells_of c.args.keys.now in
    let keys = each_alone cells in
    let args = c.args.args.now in
    let table = c.in_ok-numbers.ensures.table in
    let new : Grouping = record { width = c.numbers_of_column.new.self.width; keys = c.numbers_of_column.new.self.keys; states = c.gather_all.new.states } in
    let long : length c.gather_all.new.states ≡ length c.self.inside.states.items = c.gather_all.auto.states ∙ ap length c.as_mut_slice.ensures.value in
    let states : (with_items c.self.inside.states c.gather_all.new.states).items ≡ c.gather_all.new.states = with_items_is c.self.inside.states c.gather_all.new.states (long ∙ sym c.self.inside.states.ok.0) in
    let gathered = rw (c.as_slice.ensures.value, c.len-count.ensures.count, c.as_mut_slice.ensures.value) at c.gather_all.ensures in
    on_ok_weaker c.gather_all.result
    (λ gathers.
    subst (λ (ss : List Numbered). AddsRows keys (rows_given (length cells) args) c.args.self.now (record { width = c.numbers_of_column.new.self.width; keys = c.numbers_of_column.new.self.keys; states = ss })) (sym states)
    (subst (λ (g : Grouping). AddsRows keys (rows_given (length cells) args) g new) is
    (AddsRows-given seen new keys args c.in_ok-numbers.numbers.items (length cells) (subst HasAllGroups (sym is) c.requires.whole) c.numbers_of_column.ensures.width long
    (subst (λ (g : Grouping). length args ≡ length g.states) (sym is) c.requires.each) (length-map cells alone) c.requires.along table.apart
    (subst (λ (w : ℕ). All (HasWidth w) c.numbers_of_column.new.self.keys) c.numbers_of_column.ensures.width table.wide) c.in_ok-numbers.ensures.numbers
    gathers)))
    gathered
