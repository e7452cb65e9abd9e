-- A fold that is made is that of its command.
use Rattle.std.proofs.Common.{◌≡◌, ◌≤◌, ◌<◌, ◌⊎◌, inl, inr, ℕ, Bool, true, cond, [], ◌∷◌, ◌++◌, length, take, drop, nat_eq, Option, Some, refl, ap, sym, ◌∙◌, subst, arith, append-nil, take-append-drop}
use Rattle.std.specs.List.{slice_get}
use Rattle.std.proofs.lemmas.Bool.{eq-eqb}
use Rattle.std.proofs.lemmas.List.{map-append, take-append-le}
use Rattle.std.proofs.lemmas.Option.{slice_get_within}
use Rattle.kq_catalog.specs.Views.{WasFolded, fold_event}
use Rattle.kq_read_commands.specs.declared.columns.Identifier.{Identifier}
use Rattle.kq_read_commands.specs.declared.command.Command.{Command}
use Rattle.kq_read_commands.specs.declared.command.Command.TheVariants as commands
use Rattle.kq_catalog_journal.specs.declared.event.Operation.TheVariants as operation
use Rattle.kq_catalog_journal.specs.declared.limits.Limits.{Limits}
use Rattle.kq_catalog_journal.specs.History.{History, Log, Viewed, cursor, log, view_cursor, names_of_views, view_count, views, views_from}
use Rattle.kq_catalog_journal.proofs.Histories.{log-append, log-push, views-append}
use Rattle.kq_catalog_journal.proofs.Views.{view_cursor-push, no_fewer_views}
use Rattle.kq_catalog_indexes.proofs.Places.{place_of-go_on}
use Rattle.kq_catalog_indexes.specs.Places.{place_of}
use Rattle.kq_reply.specs.declared.reply.Reply.TheVariants as replies
use Rattle.kq_engine_prepare.specs.declared.found.Folding.{Folding}
use Rattle.kq_engine.specs.declared.work.Outcome.{Outcome}
use Rattle.kq_engine.specs.declared.work.Work.{Work}
use Rattle.kq_engine.specs.Acts.{Acts, Tended}
use Rattle.kq_engine_prepare.specs.Fits.{IsDue}
use Rattle.kq_engine_prepare.specs.Found.{LagsBehind, TakesToFind, is_prepared_outside}
use Rattle.kq_engine_prepare.proofs.Folded.{folded_at}
use Rattle.kq_engine.specs.Puts.{BringsForward, LeavesView, PutsFold}
use Rattle.kq_engine_prepare.specs.Folds.{FoldsNamed, IsFoldingFor, IsFoldingIn, IsFoldingOf, TendsFold, view_number}

-- ---- what is folded

-- a view that a fold names
pub record AsksFold (h : History) (command : Command) (f : Folding) : Type 0 where
  pub name : Identifier
  pub is : command ≡ commands.Fold name
  pub of : IsFoldingOf h name f

pub folds_of : (h : History) (command : Command) (f : Folding) → IsFoldingFor h command f → AsksFold h command f
folds_of h (commands.Query query) f is = absurd is
folds_of h (commands.Show show) f is = absurd is
folds_of h (commands.Change change) f is = absurd is
folds_of h (commands.Merge table) f is = absurd is
folds_of h (commands.Fold view) f is = record { name = view; is = refl; of = is }

-- it was made at some place of the history
pub folding_made : (h : History) (place : ℕ) (command : Command) (f : Folding) → IsFoldingFor (take place h) command f → WasFolded h f.view f.to f.part
folding_made h place command f is = let of = (folds_of (take place h) command f is).of in folded_at h place of.number f of.folding

-- it takes memory to find it, outside the lock
pub folding_finds : (h : History) (command : Command) (f : Folding) → IsFoldingFor h command f → TakesToFind h command
folding_finds h command f is =
    let folds = folds_of h command f is in
    subst (TakesToFind h) (sym folds.is) (subst (LagsBehind h) (sym folds.of.named) folds.of.behind)

pub folding_outside : (h : History) (command : Command) (f : Folding) → IsFoldingFor h command f → is_prepared_outside command ≡ true
folding_outside h command f is = let folds = folds_of h command f is in subst (λ (c : Command). is_prepared_outside c ≡ true) (sym folds.is) refl

-- ---- the event

-- a name that found a view finds it later too
still_viewed : (h : History) (at : ℕ) (name : Identifier) (number : ℕ) → view_number (take at h) name ≡ Some number → view_number h name ≡ Some number
still_viewed h at name number named =
    let before = log (take at h) in
    let more = log (drop at h) in
    let whole : log h ≡ before ++ more = ap log (sym (take-append-drop at h)) ∙ log-append (take at h) (drop at h) in
    let names : names_of_views (views (log h)) ≡ names_of_views (views before) ++ names_of_views (views_from (length before) more) =
    ap (λ (l : Log). names_of_views (views l)) whole ∙ ap names_of_views (views-append before more) ∙ map-append (λ (v : Viewed). v.view.name) (views before) (views_from (length before) more) in
    ap (place_of name.text) names ∙ place_of-go_on name.text (names_of_views (views before)) (names_of_views (views_from (length before) more)) number named

still_within : (h : History) (at number : ℕ) → number < view_count (log (take at h)) → number < view_count (log h)
still_within h at number within =
    let more = no_fewer_views (log (take at h)) (log (drop at h)) in
    let whole = ap (λ (l : Log). view_count l) (sym (log-append (take at h) (drop at h)) ∙ ap log (take-append-drop at h)) in
    omega (arith, within, more, whole)

-- the cursor that is told is the view's
told_cursor : (h : History) (name : Identifier) (number to : ℕ) → view_number h name ≡ Some number → to ≡ view_cursor h number → FoldsNamed h name (view_number h name) (replies.Folded to)
told_cursor h name number to named is = subst (λ (o : Option ℕ). FoldsNamed h name o (replies.Folded to)) (sym named) is

no_merge : (to extents : ℕ) → replies.Folded to ≡ replies.Merged extents → ⊥
no_merge to extents e = cc

same_to : (to at : ℕ) → replies.Folded to ≡ replies.Folded at → to ≡ at
same_to to at e = cc

-- the fold of what was found at a place was made, or the view is as far already
pub Acts-fold : (limits : Limits) (old new : History) (work : Work) (at : ℕ) (f : Folding) (outcome : Outcome) → at ≤ length old → IsFoldingFor (take at old) work.command f → PutsFold old new work.by f outcome → Acts limits old new work at outcome
Acts-fold limits old new work at f outcome within is puts = by_puts puts
  where
    folds : AsksFold (take at old) work.command f
    folds = folds_of (take at old) work.command f is

    folding : IsFoldingIn (take at old) folds.of.number f
    folding = folds.of.folding

    -- the view has its name and its number still
    named : view_number old folds.name ≡ Some f.view
    named = still_viewed old at folds.name folds.of.number folds.of.named ∙ ap (λ (n : ℕ). Some n) (sym folding.of)

    stands : f.view < view_count (log old)
    stands = still_within old at f.view (subst (λ (n : ℕ). n < view_count (log (take at old))) (sym folding.of) (slice_get_within (views (log (take at old))) folds.of.number folding.viewed folding.stands))

    due : (h : History) (to : ℕ) → view_number h folds.name ≡ Some f.view → to ≡ view_cursor h f.view → IsDue limits h work.now work.command (replies.Folded to)
    due h to there is = subst (λ (c : Command). IsDue limits h work.now c (replies.Folded to)) (sym folds.is) (told_cursor h folds.name f.view to there is)

    same_log : new ≡ old ++ fold_event work.by f.view f.to ∷ [] → log new ≡ log old
    same_log appended = ap log appended ∙ log-push old (fold_event work.by f.view f.to) ∙ append-nil (log old)

    same_view : (n m : ℕ) (to : ℕ) → n ≡ m → cond (nat_eq n m) to (view_cursor old m) ≡ to
    same_view n m to same = ap (λ (b : Bool). cond b to (view_cursor old m)) (eq-eqb n m same)

    -- its new cursor is the cursor up to which it was folded
    materialized : new ≡ old ++ fold_event work.by f.view f.to ∷ [] → view_cursor new f.view ≡ f.to
    materialized appended = ap (λ (h : History). view_cursor h f.view) appended ∙ view_cursor-push old (fold_event work.by f.view f.to) f.view stands ∙ same_view f.view f.view f.to refl

    reaches : new ≡ old ++ fold_event work.by f.view f.to ∷ [] → cursor (take at new) ≤ f.to
    reaches appended =
        let begins = ap (λ (h : History). cursor (take at h)) appended ∙ ap cursor (take-append-le at old (fold_event work.by f.view f.to ∷ []) within) in
        let to = folding.to in
        omega (arith, begins, to)

    tended : BringsForward old new work.by f outcome → Tended limits old new work at (replies.Folded f.to)
    tended forward = record {
      made = operation.Fold f.view f.to;
      tends = subst (λ (c : Command). TendsFold old c (replies.Folded f.to) f.view f.to) (sym folds.is) (record { named = named; told = refl });
      granted = λ r e. cc;
      answers = inr (due new f.to (ap (λ (l : Log). place_of folds.name.text (names_of_views (views l))) (same_log forward.appended) ∙ named) (sym (materialized forward.appended)));
      names_all = record {
        merged = λ extents e. absurd (no_merge f.to extents e);
        folded = λ to e. let same = same_to f.to to e in let far = reaches forward.appended in omega (arith, same, far);
      };
      appended = forward.appended;
    }

    by_puts : BringsForward old new work.by f outcome ⊎ LeavesView old new f outcome → Acts limits old new work at outcome
    by_puts (inl forward) = subst (Acts limits old new work at) (sym forward.is) (refl, inr (tended forward))
    by_puts (inr leaves) = subst (Acts limits old new work at) (sym leaves.is)
        (sym (ap length leaves.stays), inl (leaves.stays, inr (due old (view_cursor old f.view) named refl), inr (view_cursor old f.view, refl, let to = folding.to in let ahead = leaves.ahead in omega (arith, to, ahead))))
