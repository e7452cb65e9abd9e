use Rattle.std.proofs.Common.{◌≡◌, ◌<◌, ◌+◌, ◌∷◌, List, length, drop, get_or, ap, sym, refl, ◌∙◌, arith, Some}
use Rattle.std.proofs.lemmas.List.{drop_all}
use Rattle.std.proofs.lemmas.Option.{slice_get-get_or}
use Rattle.kq_value.specs.declared.record_id.RecordId.{RecordId}
use Rattle.kq_store_extent.specs.declared.run.Run.{Run}
use Rattle.kq_store_extent.specs.Runs.{ids_by}
use Rattle.kq_store_extent.proofs.Named.{get_or-ids_by-here, get_or-ids_by-there, length-ids_by, from_run}
use Rattle.kq_store_extent.proofs.runs.Runs.id_of.Goals as goal

nothing : Run
nothing = record { cursor = 0; first = 0; count = 0 }

pub loop-run-init : goal.loop-run-init
loop-run-init c =
    let n = ap length c.self.view_is in
    rw c.deref-run-items.ensures.value (record { within = omega (arith, n, c.requires); there = λ d. refl })

pub returns-then-rest-run : goal.returns-then-rest-run
unfolding nothing
returns-then-rest-run c =
    let runs = c.deref-run-items.result.now in
    let i = c.loop-run.run-index in
    let run = get_or runs i nothing in
    let id : RecordId = record { cursor = run.cursor; ordinal = run.first + c.loop-run.rest } in
    let rest : drop i runs ≡ run ∷ drop (i + 1) runs = from_run runs i nothing c.loop-run-test.true in
    let here : get_or (ids_by (drop i runs)) c.loop-run.rest id ≡ id = rw rest (get_or-ids_by-here run (drop (i + 1) runs) c.loop-run.rest id c.if-rest-run.true) in
    let all : c.args.self.now ≡ ids_by runs = sym c.self.view_is ∙ ap ids_by (sym c.deref-run-items.ensures.value) in
    let within : c.args.index < length (ids_by runs) = let n = ap length all in omega (arith, n, c.requires) in
    rw all (slice_get-get_or (ids_by runs) c.args.index id within ∙ ap Some (sym (c.loop-run.invariant.there id) ∙ here))

pub loop-run-preserved : goal.loop-run-preserved
unfolding nothing
loop-run-preserved c =
    let runs = c.deref-run-items.result.now in
    let i = c.loop-run.run-index in
    let run = get_or runs i nothing in
    let rest : drop i runs ≡ run ∷ drop (i + 1) runs = from_run runs i nothing c.loop-run-test.true in
    let more = rw rest at c.loop-run.invariant in
    record {
      within = let n = length-ids_by run (drop (i + 1) runs) in omega (arith, n, more.within, c.if-rest-run.false);
      there = λ d. sym (get_or-ids_by-there run (drop (i + 1) runs) c.loop-run.rest d c.if-rest-run.false) ∙ more.there d;
    }

pub unreachable-requires : goal.unreachable-requires
unreachable-requires c =
    let runs = c.deref-run-items.result.now in
    let none = drop_all c.loop-run.run-index runs (omega (arith, c.loop-run-test.false)) in
    let n = ap (λ (rs : List Run). length (ids_by rs)) none in
    omega (arith, n, c.loop-run.invariant.within)
