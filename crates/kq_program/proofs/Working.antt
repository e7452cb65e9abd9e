-- A worker's pass, through which no session goes.
use Rattle.std.proofs.Common.{◌≡◌, ◌∙◌, ℕ, Bool, true, [], refl, sym, add-zero, append-nil}
use Rattle.std.proofs.lemmas.List.Elements.{All-nil}
use Rattle.kq_lock.proofs.Beginnings.{IsPrefix-refl}
use Rattle.kq_catalog_journal.specs.declared.event.Event.{Event}
use Rattle.kq_catalog_journal.specs.declared.limits.Limits.{Limits}
use Rattle.kq_workers.specs.kq_engine.Shared.{PassView}
use Rattle.kq_workers.specs.Rounds.{Works, is_upkeep}
use Rattle.kq_program.specs.Together.{Passed}

pub Passed-same : (actor : ℕ) (pass : PassView) → Passed (is_upkeep actor) pass pass []
Passed-same actor pass = record { events = []; added = sym (append-nil pass.added); caused = All-nil (λ (e : Event). is_upkeep actor e ≡ true); of = refl; worth = refl; seen = IsPrefix-refl pass.seen; made = sym (add-zero pass.made) }

pub Passed-worked : (limits : Limits) (actor : ℕ) (old new : PassView) (refused : ℕ) (short : Bool) → Works limits actor old new refused short → Passed (is_upkeep actor) old new []
Passed-worked limits actor old new refused short works = record { events = works.events; added = works.added; caused = works.upkeep; of = works.of; worth = works.worth; seen = works.seen; made = works.made ∙ sym (add-zero old.made) }
