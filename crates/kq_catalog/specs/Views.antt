-- What is held of a view, and when it is what a history says of the view.
use Rattle.std.specs.Prelude.{◌≡◌, ◌≤◌, ◌<◌, ℕ, List, [], ◌∷◌, ◌++◌, map, take, Option, MatchOption, None, Some}
use Rattle.std.specs.Borrow.{Bor}
use Rattle.std.specs.List.{slice_get}
use Rattle.std.specs.Option.{option_map}
use Rattle.kq_run_groups.specs.Groups.{Grouping}
use Rattle.kq_catalog_journal.specs.kq_run_gather.Bodies.{StandsFor}
use Rattle.kq_catalog_indexes.specs.Places.{place_of}
use Rattle.kq_plan.specs.Plans.{planned_of}
use Rattle.kq_catalog_journal.specs.declared.event.By.{By}
use Rattle.kq_catalog_journal.specs.declared.event.Event.{Event}
use Rattle.kq_catalog_journal.specs.declared.event.Operation.TheVariants as operation
use Rattle.kq_catalog_journal.specs.declared.view.View.{View}
use Rattle.kq_catalog_journal.specs.History.{History, log, cursor as cursor_of, Viewed, views, view_cursor, names_of_views}
use Rattle.kq_catalog_journal.specs.Views.{covered}
use Rattle.kq_catalog.specs.declared.folding.FoldFault.{FoldFault}
use Rattle.kq_catalog.specs.declared.folding.FoldFault.TheVariants.{Behind, Memory}

-- a view, the cursor that made it, the cursor up to which it is materialized, and the groups of its part
pub record HeldView : Type 0 where
  pub view : View
  pub made : ℕ
  pub cursor : ℕ
  pub part : Grouping

abbrev pub viewed_of : HeldView → Viewed
viewed_of h = record { view = h.view; made = h.made }

abbrev pub names_held : List HeldView → List (List ℕ)
names_held = map (λ (h : HeldView). h.view.name)

-- ---- parts

-- groups stand for what a view, by its number, covers up to its cursor
abbrev pub HoldsPart : History → ℕ → View → Grouping → Type 0
HoldsPart h n v g = StandsFor (planned_of v.body) (covered (log h) v v.base (view_cursor h n)) g

-- of a view is held what the history says of it: it is materialized up to its cursor, and its part stands for what it covers up to there
pub record IsHeldView (h : History) (n : ℕ) (held : HeldView) : Type 0 where
  pub cursor : held.cursor ≡ view_cursor h n
  pub part : HoldsPart h n held.view held.part

-- the views are the history's, and of each is held what the history says of it
pub record AreHeldViews (h : History) (held : List HeldView) : Type 0 where
  pub views : map viewed_of held ≡ views (log h)
  pub each : (n : ℕ) (x : HeldView) → slice_get held n ≡ Some x → IsHeldView h n x

-- ---- what commits and folds make of them

abbrev pub new_view : ℕ → View → Grouping → HeldView
new_view made view part = record { view = view; made = made; cursor = view.base; part = part }

abbrev pub with_new : List HeldView → Option HeldView → List HeldView
with_new hs None = hs
with_new hs (Some h) = hs ++ h ∷ []

abbrev pub folded_view : ℕ → Grouping → HeldView → HeldView
folded_view to part h = record h { cursor = to; part = part }

abbrev pub fold_event : By → ℕ → ℕ → Event
fold_event by view to = record { by = by; operation = operation.Fold view to }

-- at some place of the history the part stood for what the view covers up to a cursor of that place
pub record WasFolded (h : History) (view to : ℕ) (g : Grouping) : Type 0 where
  pub place : ℕ
  pub viewed : Viewed
  pub stands : slice_get (views (log (take place h))) view ≡ Some viewed
  pub within : to ≤ cursor_of (take place h)
  pub part : StandsFor (planned_of viewed.view.body) (covered (log (take place h)) viewed.view viewed.view.base to) g

-- why a fold isn't staged: the view is materialized as far, or it isn't and memory was wanting
abbrev pub Trails : History → ℕ → ℕ → FoldFault → Type 0
Trails h view to (Behind cursor) = (cursor ≡ view_cursor h view) × (to ≤ cursor)
Trails h view to Memory = view_cursor h view < to

-- ---- names

-- what a name finds among views: the view with its number, or nothing where there is none
abbrev pub FindsView : List ℕ → List Viewed → Option (ℕ × Bor View) → Type 0
FindsView name vs found =
    MatchOption found (place_of name (names_of_views vs) ≡ None)
    (λ p. (place_of name (names_of_views vs) ≡ Some p.0) × (option_map (λ (v : Viewed). v.view) (slice_get vs p.0) ≡ Some p.1.now))
