-- When a fold is told, what is folded, and what a fold makes.
use Rattle.std.specs.Prelude.{◌≡◌, ◌≢◌, ◌⊎◌, ◌<◌, ◌≤◌, ℕ, Bool, true, false, List, [], ◌∷◌, ◌++◌, length, Option, Some, None}
use Rattle.std.specs.List.{slice_get}
use Rattle.std.specs.List.Sorted.{IsPermutation}
use Rattle.kq_read_commands.specs.declared.columns.Identifier.{Identifier}
use Rattle.kq_read_commands.specs.declared.command.Command.{Command}
use Rattle.kq_read_commands.specs.declared.command.Command.TheVariants.{Fold}
use Rattle.kq_view_body.specs.kq_run_gather.Bodies.{OverflowsAt, StandsFor}
use Rattle.kq_catalog_journal.specs.declared.event.By.{By}
use Rattle.kq_catalog_journal.specs.History.{History, Viewed, cursor, log, view_cursor, names_of_views, views}
use Rattle.kq_catalog_journal.specs.Views.{covered}
use Rattle.kq_catalog_indexes.specs.Places.{place_of}
use Rattle.kq_plan.specs.Plans.{planned_of}
use Rattle.kq_reply.specs.declared.refusal.Refusal.TheVariants as refusals
use Rattle.kq_reply.specs.declared.reply.Reply.{Reply}
use Rattle.kq_reply.specs.declared.reply.Reply.TheVariants as replies
use Rattle.kq_value.specs.declared.value.Value.{Value}
use Rattle.kq_engine_prepare.specs.declared.found.Folding.{Folding}

-- whether a command folds a view
abbrev pub is_fold : Command → Bool
is_fold (Fold view) = true
is_fold _ = false

-- ---- the reply

-- the number of the view that has the name
abbrev pub view_number : History → Identifier → Option ℕ
view_number h name = place_of name.text (names_of_views (views (log h)))

-- over the rows that a view, by its number, doesn't hold yet, in some order, its body overflows at this stage
pub record OverflowsBeyond (h : History) (number stage : ℕ) : Type 0 where
  pub viewed : Viewed
  pub stands : slice_get (views (log h)) number ≡ Some viewed
  pub order : List (List Value)
  pub same : IsPermutation (covered (log h) viewed.view (view_cursor h number) (cursor h)) order
  pub overflows : OverflowsAt (planned_of viewed.view.body) order stage

-- the view's cursor is told, or where it overflows
abbrev pub FoldsView : History → ℕ → Reply → Type 0
FoldsView h number (replies.Folded at) = at ≡ view_cursor h number
FoldsView h number (replies.Refused (refusals.Overflow stage)) = OverflowsBeyond h number stage
FoldsView h number _ = ⊥

abbrev pub FoldsNamed : History → Identifier → Option ℕ → Reply → Type 0
FoldsNamed h view None reply = reply ≡ replies.Refused (refusals.Unknown view.at)
FoldsNamed h view (Some number) reply = FoldsView h number reply

-- the reply to a fold of the view that has the name, over a history with the fold's own event
abbrev pub AnswersFold : History → Identifier → Reply → Type 0
AnswersFold h view reply = FoldsNamed h view (view_number h view) reply

-- ---- what is found

-- the part of a view, by its number, up to the cursor
pub record IsFoldingIn (h : History) (number : ℕ) (f : Folding) : Type 0 where
  pub of : f.view ≡ number
  pub viewed : Viewed
  pub stands : slice_get (views (log h)) number ≡ Some viewed
  pub to : f.to ≡ cursor h
  pub part : StandsFor (planned_of viewed.view.body) (covered (log h) viewed.view viewed.view.base (cursor h)) f.part

-- that of the view that has the name, which is behind the cursor
pub record IsFoldingOf (h : History) (view : Identifier) (f : Folding) : Type 0 where
  pub number : ℕ
  pub named : view_number h view ≡ Some number
  pub behind : view_cursor h number ≢ cursor h
  pub folding : IsFoldingIn h number f

abbrev pub IsFoldingFor : History → Command → Folding → Type 0
IsFoldingFor h (Fold view) f = IsFoldingOf h view f
IsFoldingFor h _ f = ⊥

-- ---- what is made

-- the event of a fold of the view that has the name, with its reply
pub record IsFoldOf (h : History) (view : Identifier) (reply : Reply) (number to : ℕ) : Type 0 where
  pub named : view_number h view ≡ Some number
  pub told : reply ≡ replies.Folded to

abbrev pub TendsFold : History → Command → Reply → ℕ → ℕ → Type 0
TendsFold h (Fold view) reply number to = IsFoldOf h view reply number to
TendsFold h _ reply number to = ⊥
