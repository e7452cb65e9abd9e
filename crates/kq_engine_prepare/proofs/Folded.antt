-- A fold that was found at a place is one that was found.
use Rattle.std.proofs.Common.{◌≡◌, ◌≤◌, ℕ, take, ap, sym, ◌∙◌, subst, arith}
use Rattle.std.specs.List.{slice_get}
use Rattle.kq_view_body.specs.kq_run_gather.Bodies.{StandsFor}
use Rattle.kq_catalog.specs.Views.{WasFolded}
use Rattle.kq_catalog_journal.specs.History.{History, log, views}
use Rattle.kq_catalog_journal.specs.Views.{covered}
use Rattle.kq_plan.specs.Plans.{planned_of}
use Rattle.kq_engine_prepare.specs.declared.found.Folding.{Folding}
use Rattle.kq_engine_prepare.specs.Folds.{IsFoldingIn}

pub folded_at : (h : History) (place number : ℕ) (f : Folding) → IsFoldingIn (take place h) number f → WasFolded h f.view f.to f.part
folded_at h place number f folding =
    let viewed = folding.viewed in
    record {
      place = place;
      viewed = viewed;
      stands = ap (slice_get (views (log (take place h)))) folding.of ∙ folding.stands;
      within = let to = folding.to in omega (arith, to);
      part = subst (λ (n : ℕ). StandsFor (planned_of viewed.view.body) (covered (log (take place h)) viewed.view viewed.view.base n) f.part) (sym folding.to) folding.part;
    }
