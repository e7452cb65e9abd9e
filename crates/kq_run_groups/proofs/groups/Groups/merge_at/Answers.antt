use Rattle.std.proofs.Common.{◌≡◌, ◌≤◌, ℕ, List, length, map, sym, ap, ◌∙◌, subst}
use Rattle.std.specs.List.{All}
use Rattle.std.specs.Vec.{with_items}
use Rattle.std.proofs.lemmas.List.{length-map, with_items_is}
use Rattle.std.proofs.lemmas.Result.{on_ok_weaker}
use Rattle.kq_run_aggregates.specs.Tables.{Numbered}
use Rattle.kq_store_rows.specs.Chunks.{HasWidth, row_at}
use Rattle.kq_value.specs.declared.value.Value.{Value}
use Rattle.kq_value.specs.Same.{times}
use Rattle.kq_run_groups.specs.Groups.{Grouping, HasAllGroups, shape_of}
use Rattle.kq_run_groups.specs.Merges.{AbsorbAll, Merges, picked}
use Rattle.kq_run_groups.proofs.Groupings.{numbers_along, numbers_known}
use Rattle.kq_run_groups.proofs.Merging.{Merges-piece}
use Rattle.kq_run_groups.proofs.groups.Groups.merge_at.Goals as goal

pub absorb_all-requires-clause-along : goal.absorb_all-requires-clause-along
absorb_all-requires-clause-along c =
    let those = map (row_at c.other.inside.keys.keys) c.args.places.now in
    sym (ap length c.as_slice.ensures.value ∙ numbers_along c.numbers_at.new.self.keys c.in_ok-numbers.numbers.items those c.in_ok-numbers.ensures.numbers.are ∙ length-map c.args.places.now (row_at c.other.inside.keys.keys))

pub absorb_all-requires-clause-known : goal.absorb_all-requires-clause-known
absorb_all-requires-clause-known c =
    let those = map (row_at c.other.inside.keys.keys) c.args.places.now in
    rw (c.as_slice.ensures.value, c.len-count.ensures.count) (numbers_known c.numbers_at.new.self.keys c.in_ok-numbers.numbers.items those c.in_ok-numbers.ensures.numbers.are)

pub returns : goal.returns
returns c =
    let seen : Grouping = record { width = c.self.inside.keys.width; keys = c.self.inside.keys.keys; states = c.self.inside.states.items } in
    let is : seen ≡ c.args.self.now = c.self.view_is in
    let other : Grouping = record { width = c.other.inside.keys.width; keys = c.other.inside.keys.keys; states = c.other.inside.states.items } in
    let that : other ≡ c.args.other.now = c.other.view_is in
    let places = c.args.places.now in
    let ns = c.in_ok-numbers.numbers.items in
    let table = c.numbers_at.ensures.table in
    let new : Grouping = record { width = c.numbers_at.new.self.width; keys = c.numbers_at.new.self.keys; states = c.absorb_all.new.states } in
    let long : length c.absorb_all.new.states ≡ length c.self.inside.states.items = c.absorb_all.auto.states ∙ ap length c.as_mut_slice.ensures.value in
    let states : (with_items c.self.inside.states c.absorb_all.new.states).items ≡ c.absorb_all.new.states = with_items_is c.self.inside.states c.absorb_all.new.states (long ∙ sym c.self.inside.states.ok.0) in
    let numbers = c.in_ok-numbers.ensures.numbers in
    on_ok_weaker c.absorb_all.result
    (λ absorbs.
    subst (λ (ss : List Numbered). Merges (picked places c.args.other.now) c.args.self.now (record { width = c.numbers_at.new.self.width; keys = c.numbers_at.new.self.keys; states = ss })) (sym states)
    (subst (λ (g : Grouping). Merges (picked places c.args.other.now) g new) is
    (subst (λ (o : Grouping). Merges (picked places o) seen new) that
    (Merges-piece other seen new ns places (subst HasAllGroups (sym is) c.requires.whole) c.numbers_at.ensures.width
    (subst (λ (g : Grouping). other.width ≡ g.width) (sym is) (subst (λ (o : Grouping). o.width ≡ c.args.self.now.width) (sym that) c.requires.width)) long
    (subst (λ (g : Grouping). map shape_of other.states ≡ map shape_of g.states) (sym is) (subst (λ (o : Grouping). map shape_of o.states ≡ map shape_of c.args.self.now.states) (sym that) c.requires.shapes))
    table.apart (subst (λ (w : ℕ). All (HasWidth w) c.numbers_at.new.self.keys) c.numbers_at.ensures.width table.wide)
    (subst (λ (o : Grouping). (k : List Value) → times k (map (row_at o.keys) places) ≤ 1) (sym that) c.requires.once) numbers
    (numbers_along new.keys ns (map (row_at other.keys) places) numbers.are ∙ length-map places (row_at other.keys))
    (subst (λ (ms : List ℕ). AbsorbAll ms places other.states (length new.keys) seen.states new.states) c.as_slice.ensures.value
    (subst (λ (ss : List Numbered). AbsorbAll c.as_slice.result.now places ss (length new.keys) seen.states new.states) c.as_slice-2.ensures.value
    (subst (λ (n : ℕ). AbsorbAll c.as_slice.result.now places c.as_slice-2.result.now n seen.states new.states) c.len-count.ensures.count
    (subst (λ (ss : List Numbered). AbsorbAll c.as_slice.result.now places c.as_slice-2.result.now c.len-count.result ss new.states) c.as_mut_slice.ensures.value absorbs))))))))
    c.absorb_all.ensures
