use Rattle.std.proofs.Common.{◌≡◌, ◌++◌, ◌∷◌, ℤ, [], List, Some, ap, map, rules, sym, to_z, of_z, w64, ◌∙◌, arith}
use Rattle.std.proofs.lemmas.Int.{to_z-of_z}
use Rattle.std.proofs.lemmas.List.{map-append, map_more, take_all}
use Rattle.kq_run_sort.specs.Parts.{number_in}
use Rattle.kq_run_sort.specs.declared.parts.Spot.{Spot}
use Rattle.kq_run_sort.proofs.columns.gathered.Goals as goal
use denote.Ref.{Bor}

pub loop-spot-preserved : goal.loop-spot-preserved
loop-spot-preserved c =
    let f = number_in (map (λ (xs : Bor (List ℤ)). xs.now) c.args.slices.now) in
    let again = to_z w64 (of_z w64 c.in-Some.number) in
    let same : again ≡ c.in-Some.number = search (rules, to_z-of_z) in
    ap (map Some) c.in_ok-push-in-Some.ensures.items ∙ map-append Some c.loop-spot.numbers.items (again ∷ [])
    ∙ (λ t. c.loop-spot.invariant t ++ (ap Some same ∙ sym c.in-Some.ensures) t ∷ []) ∙ sym (map_more f c.args.places.now c.loop-spot.spot-index _ c.loop-spot-test.true)

pub returns : goal.returns
returns c =
    let f = number_in (map (λ (xs : Bor (List ℤ)). xs.now) c.args.slices.now) in
    c.loop-spot.invariant ∙ ap (λ (ss : List Spot). map f ss) (take_all c.loop-spot.spot-index c.args.places.now (omega (arith, c.loop-spot-test.false)))
