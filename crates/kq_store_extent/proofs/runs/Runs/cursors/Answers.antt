use Rattle.std.proofs.Common.{◌≡◌, ◌<◌, ◌+◌, ◌++◌, ℕ, get_or, map, take, replicate, ap, sym, ◌∙◌, arith, append-nil}
use Rattle.std.proofs.lemmas.List.{take_all}
use Rattle.kq_store_extent.specs.declared.run.Run.{Run}
use Rattle.kq_store_extent.specs.Cells.{cursor_of}
use Rattle.kq_store_extent.proofs.Named.{cursors_by, cursors_by-more, cursors-nil}
use Rattle.kq_store_extent.proofs.Bounded.{AreBounds-same, AreBounds-more, nothing_so_far, found_so_far, none_found}
use Rattle.kq_store_extent.proofs.runs.Runs.cursors.Goals as goal
use Rattle.kq_store_extent.proofs.runs.Runs.cursors.Goals.{in-None, in-Some}

nothing : Run
nothing = record { cursor = 0; first = 0; count = 0 }

pub loop-run-preserved : goal.loop-run-preserved
unfolding nothing
loop-run-preserved c =
    let runs = c.deref-run-items.result.now in
    let i = c.loop-run.run-index in
    let run = get_or runs i nothing in
    let more = cursors_by-more runs i nothing c.loop-run-test.true in
    let some : 0 < run.count = omega (arith, c.if-run-eq0.false) in
    elim c.match-cursors.branch [
      | in-None w ↦ rw (w.cursors-is, more, nothing_so_far c.loop-run.cursors _ _ w.in-None.is c.loop-run.invariant) (AreBounds-same run.count run.cursor some)
      | in-Some w ↦ rw (w.cursors-is, more, w.min.ensures, w.max.ensures)
          (AreBounds-more (cursors_by (take i runs)) run.count run.cursor w.in-Some.least w.in-Some.greatest some (found_so_far c.loop-run.cursors _ _ _ w.in-Some.is c.loop-run.invariant))
    ]

pub loop-run-preserved-then-run-eq0 : goal.loop-run-preserved-then-run-eq0
unfolding nothing
loop-run-preserved-then-run-eq0 c =
    let runs = c.deref-run-items.result.now in
    let i = c.loop-run.run-index in
    let run = get_or runs i nothing in
    let same : cursors_by (take (i + 1) runs) ≡ cursors_by (take i runs) =
    cursors_by-more runs i nothing c.loop-run-test.true ∙ ap (λ (n : ℕ). cursors_by (take i runs) ++ replicate n run.cursor) c.if-run-eq0.true ∙ append-nil (cursors_by (take i runs)) in
    rw same c.loop-run.invariant

pub returns-clause-none : goal.returns-clause-none
returns-clause-none c =
    let runs = c.deref-run-items.result.now in
    let all : cursors_by (take c.loop-run.run-index runs) ≡ map cursor_of c.args.self.now =
    ap cursors_by (take_all c.loop-run.run-index runs (omega (arith, c.loop-run-test.false)) ∙ c.deref-run-items.ensures.value) ∙ ap (map cursor_of) c.self.view_is in
    let found = none_found c.loop-run.cursors (cursors_by (take c.loop-run.run-index runs)) c.loop-run.invariant in
    (λ none. cursors-nil c.args.self.now (sym all ∙ found.0 none), λ nil. found.1 (all ∙ ap (map cursor_of) nil))
