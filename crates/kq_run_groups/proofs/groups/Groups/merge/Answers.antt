use Rattle.std.proofs.Common.{◌≡◌, ◌<◌, ℕ, List, length, sym, ap, ◌∙◌, subst}
use Rattle.std.specs.List.{All, range_with_len}
use Rattle.std.proofs.lemmas.Result.{on_ok_weaker}
use Rattle.kq_run_groups.specs.Groups.{Grouping}
use Rattle.kq_run_groups.specs.Merges.{Merges, picked}
use Rattle.kq_run_groups.proofs.Merging.{known_places, once_all, picked_all}
use Rattle.kq_run_groups.proofs.groups.Groups.merge.Goals as goal

pub merge_at-requires-clause-within : goal.merge_at-requires-clause-within
merge_at-requires-clause-within c =
    let all : c.as_slice.result.now ≡ range_with_len 0 (length c.args.other.now.keys) = c.as_slice.ensures.value ∙ c.in_ok-places.ensures ∙ ap (range_with_len 0) c.len.ensures.count in
    subst (All (λ n. n < length c.args.other.now.keys)) (sym all) (known_places (length c.args.other.now.keys))

pub merge_at-requires-clause-once : goal.merge_at-requires-clause-once
merge_at-requires-clause-once c =
    let all : c.as_slice.result.now ≡ range_with_len 0 (length c.args.other.now.keys) = c.as_slice.ensures.value ∙ c.in_ok-places.ensures ∙ ap (range_with_len 0) c.len.ensures.count in
    once_all c.args.other.now.keys c.as_slice.result.now all c.len.ensures.apart

pub returns : goal.returns
returns c =
    let all : c.as_slice.result.now ≡ range_with_len 0 (length c.args.other.now.keys) = c.as_slice.ensures.value ∙ c.in_ok-places.ensures ∙ ap (range_with_len 0) c.len.ensures.count in
    on_ok_weaker c.merge_at.result
    (subst (λ (o : Grouping). Merges o c.args.self.now c.merge_at.new.self) (ap (λ (ns : List ℕ). picked ns c.args.other.now) all ∙ picked_all c.args.other.now c.requires.other_whole))
    c.merge_at.ensures
