use Rattle.std.proofs.Common.{◌≡◌, ◌<◌, ◌≤◌, ◌∙◌, ℕ, List, length, map, sym, ap, subst, arith}
use Rattle.std.specs.List.{All, range_with_len}
use Rattle.std.specs.Vec.{with_items}
use Rattle.std.proofs.lemmas.List.{with_items_is}
use Rattle.std.proofs.lemmas.List.FromFn.{length-range_with_len}
use Rattle.std.proofs.lemmas.Result.{on_ok_weaker}
use Rattle.kq_run_aggregates.specs.Tables.{Numbered}
use Rattle.kq_store_rows.specs.Chunks.{HasWidth}
use Rattle.kq_value.specs.declared.value.Value.{Value}
use Rattle.kq_run_groups.specs.Groups.{Grouping, HasAllGroups, shape_of}
use Rattle.kq_run_groups.specs.Merges.{AbsorbAll, Merges}
use Rattle.kq_run_groups.proofs.Groupings.{numbers_along, numbers_known}
use Rattle.kq_run_groups.proofs.Merging.{Merges-all, known_places}
use Rattle.kq_run_groups.proofs.groups.Groups.merge_found.Goals as goal

pub absorb_all-requires-clause-along : goal.absorb_all-requires-clause-along
absorb_all-requires-clause-along c =
    let keys = c.other.inside.keys.keys in
    let places : c.as_slice-3.result.now ≡ range_with_len 0 (length keys) =
    c.as_slice-3.ensures.value ∙ c.in_ok-places.ensures ∙ ap (range_with_len 0) (c.len.ensures.count ∙ ap (λ (g : Grouping). length g.keys) (sym c.other.view_is)) in
    ap length places ∙ length-range_with_len 0 (length keys) ∙ sym (numbers_along c.numbers_found.new.self.keys c.in_ok-numbers.numbers.items keys c.in_ok-numbers.ensures.numbers.are)
    ∙ sym (ap length c.as_slice.ensures.value)

pub absorb_all-requires-clause-known : goal.absorb_all-requires-clause-known
absorb_all-requires-clause-known c =
    rw (c.as_slice.ensures.value, c.len-count.ensures.count) (numbers_known c.numbers_found.new.self.keys c.in_ok-numbers.numbers.items c.other.inside.keys.keys c.in_ok-numbers.ensures.numbers.are)

pub absorb_all-requires-clause-within : goal.absorb_all-requires-clause-within
absorb_all-requires-clause-within c =
    let keys = c.other.inside.keys.keys in
    let states = c.other.inside.states.items in
    let whole : HasAllGroups (record { width = c.other.inside.keys.width; keys = keys; states = states }) = subst HasAllGroups (sym c.other.view_is) c.requires.other_whole in
    let places : c.as_slice-3.result.now ≡ range_with_len 0 (length keys) =
    c.as_slice-3.ensures.value ∙ c.in_ok-places.ensures ∙ ap (range_with_len 0) (c.len.ensures.count ∙ ap (λ (g : Grouping). length g.keys) (sym c.other.view_is)) in
    subst (λ (ss : List Numbered). All (λ (s : Numbered). All (λ n. n < length s.kept) c.as_slice-3.result.now) ss) (sym c.as_slice-2.ensures.value)
    (subst (λ (ps : List ℕ). All (λ (s : Numbered). All (λ n. n < length s.kept) ps) states) (sym places)
    (λ k d h i e l. let many = whole k d h in let below = known_places (length keys) i e l in omega (arith, many, below)))

pub returns : goal.returns
returns c =
    let seen : Grouping = record { width = c.self.inside.keys.width; keys = c.self.inside.keys.keys; states = c.self.inside.states.items } in
    let is : seen ≡ c.args.self.now = c.self.view_is in
    let other : Grouping = record { width = c.other.inside.keys.width; keys = c.other.inside.keys.keys; states = c.other.inside.states.items } in
    let that : other ≡ c.args.other.now = c.other.view_is in
    let ns = c.in_ok-numbers.numbers.items in
    let ps = c.as_slice-3.result.now in
    let places : ps ≡ range_with_len 0 (length other.keys) =
    c.as_slice-3.ensures.value ∙ c.in_ok-places.ensures ∙ ap (range_with_len 0) (c.len.ensures.count ∙ ap (λ (g : Grouping). length g.keys) (sym that)) in
    let table = c.numbers_found.ensures.table in
    let numbers = c.in_ok-numbers.ensures.numbers in
    let new : Grouping = record { width = c.numbers_found.new.self.width; keys = c.numbers_found.new.self.keys; states = c.absorb_all.new.states } in
    let long : length c.absorb_all.new.states ≡ length c.self.inside.states.items = c.absorb_all.auto.states ∙ ap length c.as_mut_slice.ensures.value in
    let states : (with_items c.self.inside.states c.absorb_all.new.states).items ≡ c.absorb_all.new.states = with_items_is c.self.inside.states c.absorb_all.new.states (long ∙ sym c.self.inside.states.ok.0) in
    on_ok_weaker c.absorb_all.result
    (λ absorbs.
    subst (λ (ss : List Numbered). Merges c.args.other.now c.args.self.now (record { width = c.numbers_found.new.self.width; keys = c.numbers_found.new.self.keys; states = ss })) (sym states)
    (subst (λ (g : Grouping). Merges c.args.other.now g new) is
    (subst (λ (o : Grouping). Merges o seen new) that
    (Merges-all other seen new ns ps (subst HasAllGroups (sym is) c.requires.whole) (subst HasAllGroups (sym that) c.requires.other_whole) c.numbers_found.ensures.width
    (subst (λ (g : Grouping). other.width ≡ g.width) (sym is) (subst (λ (o : Grouping). o.width ≡ c.args.self.now.width) (sym that) c.requires.width)) long
    (subst (λ (g : Grouping). map shape_of other.states ≡ map shape_of g.states) (sym is) (subst (λ (o : Grouping). map shape_of o.states ≡ map shape_of c.args.self.now.states) (sym that) c.requires.shapes))
    table.apart (subst (λ (w : ℕ). All (HasWidth w) c.numbers_found.new.self.keys) c.numbers_found.ensures.width table.wide) c.other.invariant.apart numbers places
    (numbers_along new.keys ns other.keys numbers.are ∙ sym (ap length places ∙ length-range_with_len 0 (length other.keys)))
    (subst (λ (ms : List ℕ). AbsorbAll ms ps other.states (length new.keys) seen.states new.states) c.as_slice.ensures.value
    (subst (λ (ss : List Numbered). AbsorbAll c.as_slice.result.now ps ss (length new.keys) seen.states new.states) c.as_slice-2.ensures.value
    (subst (λ (n : ℕ). AbsorbAll c.as_slice.result.now ps c.as_slice-2.result.now n seen.states new.states) c.len-count.ensures.count
    (subst (λ (ss : List Numbered). AbsorbAll c.as_slice.result.now ps c.as_slice-2.result.now c.len-count.result ss new.states) c.as_mut_slice.ensures.value absorbs))))))))
    c.absorb_all.ensures
