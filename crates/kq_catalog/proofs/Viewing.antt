-- Each event keeps that of each view is held what the history says of it.
use Rattle.std.proofs.Common.{◌≡◌, ◌≢◌, ◌⊎◌, inl, inr, ◌<◌, ◌≤◌, ◌+◌, refl, subst, ℕ, Bool, true, false, cond, ◌||◌, List, [], ◌∷◌, ◌++◌, length, map, take, drop, nat_eq, Option, None, Some, ap, sym, ◌∙◌, arith, append-nil, append_assoc, length-append, take-append-drop}
use Rattle.std.specs.Cmp.Lexicographic.{pointwise}
use Rattle.std.specs.List.{AllZip, slice_get}
use Rattle.std.specs.Option.{IfSome, is_some, option_map}
use Rattle.std.proofs.lemmas.Bool.{eq-eqb, ne_eqb}
use Rattle.std.proofs.lemmas.List.{length-map, map_push}
use Rattle.std.proofs.lemmas.Option.{slice_get-map, slice_get_within}
use Rattle.kq_run_groups.specs.Groups.{Grouping}
use Rattle.kq_catalog_indexes.specs.Places.{place_from, place_of}
use Rattle.kq_plan.specs.Plans.{planned_of}
use Rattle.kq_catalog_indexes.specs.declared.tag_entry.Entry.{Entry}
use Rattle.kq_value.specs.declared.value.Value.{Value}
use Rattle.kq_catalog_journal.specs.declared.event.By.{By}
use Rattle.kq_catalog_journal.specs.declared.event.Commit.{Commit}
use Rattle.kq_catalog_journal.specs.declared.event.Event.{Event}
use Rattle.kq_catalog_journal.specs.declared.event.Operation.TheVariants as operation
use Rattle.kq_catalog_journal.specs.declared.limits.Limits.{Limits}
use Rattle.kq_catalog_journal.specs.Edits.{changed}
use Rattle.kq_catalog_journal.specs.History.{History, Log, log, commits_of, cursor as cursor_of, Viewed, views, views_by, view_count, view_cursor, view_cursor_after, names_of_views}
use Rattle.kq_catalog_journal.specs.Lawful.{AreLawful, IsFold, LawfulCommit}
use Rattle.kq_catalog_journal.specs.kq_run_gather.Bodies.{StandsFor}
use Rattle.kq_catalog_journal.specs.kq_value_text_sets.Names.{is_among}
use Rattle.kq_catalog_journal.specs.Policies.{noted, policies}
use Rattle.kq_catalog_journal.specs.Tables.{TableState}
use Rattle.kq_catalog_journal.specs.Views.{covered}
use Rattle.kq_catalog_journal.proofs.Bounded.{free_view}
use Rattle.kq_catalog_journal.proofs.Histories.{AreLawful-push, log-append, log-push, views-push}
use Rattle.kq_catalog_journal.proofs.Merging.{lawful_parts}
use Rattle.kq_catalog_journal.proofs.Places.{WasAt, get-changed, get-push}
use Rattle.kq_catalog_journal.proofs.Records.{extents_made-push}
use Rattle.kq_catalog_journal.proofs.States.{table_states-fold}
use Rattle.kq_catalog_journal.proofs.Views.{covered-go_on, covered-none, log-commit, view_cursor-new, view_cursor-push, materialized, no_fewer_views, over, view-stays}
use Rattle.kq_catalog.specs.declared.intent.Intent.{Intent}
use Rattle.kq_catalog.specs.declared.intent.Intent.TheVariants.{CreateTable, SetPolicy, CreateView, AlterMerge, Ingest}
use Rattle.kq_catalog.specs.Held.{IsHeld}
use Rattle.kq_catalog.specs.Intents.{BeginsEmpty, commit_of, view_by}
use Rattle.kq_catalog.specs.Seen.{CatalogView, HoldsHistory, hist}
use Rattle.kq_catalog.specs.Tagged.{TellsTags}
use Rattle.kq_catalog.specs.Views.{AreHeldViews, HeldView, IsHeldView, WasFolded, fold_event, folded_view, names_held, new_view, viewed_of, with_new}
use Rattle.kq_catalog.proofs.Keeping.{map-changed}

-- ---- the views that are held

names_seen : (held : List HeldView) → names_of_views (map viewed_of held) ≡ names_held held
names_seen [] = refl
names_seen (x ∷ held) = ap (λ (names : List (List ℕ)). x.view.name ∷ names) (names_seen held)

-- their names are those of the history's views
pub names_are : (h : History) (held : List HeldView) → AreHeldViews h held → names_held held ≡ names_of_views (views (log h))
names_are h held are = sym (names_seen held) ∙ ap names_of_views are.views

pub count_views : (h : History) (held : List HeldView) → AreHeldViews h held → length held ≡ view_count (log h)
count_views h held are = sym (length-map held viewed_of) ∙ ap length are.views

-- the history's view of a number is the one that is held
pub view_held : (h : History) (held : List HeldView) (n : ℕ) (x : HeldView) → AreHeldViews h held → slice_get held n ≡ Some x → slice_get (views (log h)) n ≡ Some (viewed_of x)
view_held h held n x are at = ap (λ (vs : List Viewed). slice_get vs n) (sym are.views) ∙ slice_get-map viewed_of held n ∙ ap (option_map viewed_of) at

pub no_views : AreHeldViews [] []
no_views = record { views = refl; each = λ n x at. absurd (let within = slice_get_within [] n x at in omega (arith, within)) }

-- ---- one event more

-- what is held of a view stays what the history says, where its cursor stays
still_held : (limits : Limits) (h : History) (e : Event) (n : ℕ) (x : HeldView) → AreLawful limits h → slice_get (views (log h)) n ≡ Some (viewed_of x) → view_cursor (h ++ e ∷ []) n ≡ view_cursor h n → IsHeldView h n x → IsHeldView (h ++ e ∷ []) n x
still_held limits h e n x lawful at same is =
    let v = x.view in
    let m = view_cursor h n in
    let within = (materialized limits h lawful n (viewed_of x) at).within in
    let stays : covered (log (h ++ e ∷ [])) v v.base m ≡ covered (log h) v v.base m =
    ap (λ (l : Log). covered l v v.base m) (log-push h e) ∙ covered-go_on (log h) (commits_of e.operation) v v.base m (over limits h lawful n (viewed_of x) at) within in
    record {
      cursor = is.cursor ∙ sym same;
      part = subst (λ (k : ℕ). StandsFor (planned_of v.body) (covered (log (h ++ e ∷ [])) v v.base k) x.part) (sym same) (subst (λ (rows : List (List Value)). StandsFor (planned_of v.body) rows x.part) (sym stays) is.part);
    }

-- a commit leaves the cursor of a view that stands
commit_keeps_cursor : (h : History) (e : Event) (c : Commit) (n : ℕ) → e.operation ≡ operation.Commit c → n < view_count (log h) → view_cursor (h ++ e ∷ []) n ≡ view_cursor h n
commit_keeps_cursor h e c n is within = view_cursor-push h e n within ∙ ap (view_cursor_after n (view_cursor h n)) is

-- a commit that makes no view
no_new : (limits : Limits) (h : History) (e : Event) (c : Commit) (held : List HeldView) → AreLawful limits h → AreHeldViews h held → e.operation ≡ operation.Commit c → views_by (cursor_of h + 1) c ≡ [] → AreHeldViews (h ++ e ∷ []) held
no_new limits h e c held lawful are is none = record {
  views = are.views ∙ sym (ap views (log-commit h e c is) ∙ views-push (log h) c ∙ ap (λ (vs : List Viewed). views (log h) ++ vs) none ∙ append-nil (views (log h)));
  each = λ n x at.
      let here = view_held h held n x are at in
      still_held limits h e n x lawful here (commit_keeps_cursor h e c n is (slice_get_within (views (log h)) n (viewed_of x) here)) (are.each n x at);
}

-- a part of no rows is that of a view that covers none
held_new : (limits : Limits) (h : History) (e : Event) (intent : Intent) (x : HeldView) → AreLawful limits h → e.operation ≡ operation.Commit (commit_of intent) → view_by (cursor_of h + 1) intent ≡ Some x → BeginsEmpty intent
    → IsHeldView (h ++ e ∷ []) (view_count (log h)) x
held_new limits h e (CreateTable name schema) x lawful is new begins = cc
held_new limits h e (CreateView view part) x lawful is new begins =
    let v = view in
    let made = cursor_of h + 1 in
    let at : view_cursor (h ++ e ∷ []) (view_count (log h)) ≡ v.base = view_cursor-new limits h e (commit_of (CreateView view part)) (viewed_of (new_view made v part)) lawful is refl in
    let same : new_view made v part ≡ x = cc in
    let none = covered-none (log (h ++ e ∷ [])) v v.base (view_cursor (h ++ e ∷ []) (view_count (log h))) (omega (arith, at)) in
    subst (IsHeldView (h ++ e ∷ []) (view_count (log h))) same
    (record { cursor = sym at; part = subst (λ (rows : List (List Value)). StandsFor (planned_of v.body) rows part) (sym none) begins })
held_new limits h e (SetPolicy table entries) x lawful is new begins = cc
held_new limits h e (AlterMerge table columns) x lawful is new begins = cc
held_new limits h e (Ingest parts failures) x lawful is new begins = cc

-- a commit that makes a view
one_new : (limits : Limits) (h : History) (e : Event) (intent : Intent) (held : List HeldView) (x : HeldView) → AreLawful limits h → AreHeldViews h held → e.operation ≡ operation.Commit (commit_of intent)
    → view_by (cursor_of h + 1) intent ≡ Some x → views_by (cursor_of h + 1) (commit_of intent) ≡ viewed_of x ∷ [] → BeginsEmpty intent → AreHeldViews (h ++ e ∷ []) (held ++ x ∷ [])
one_new limits h e intent held x lawful are is new viewed begins = record {
  views = map_push viewed_of held x ∙ ap (λ (vs : List Viewed). vs ++ viewed_of x ∷ []) are.views
      ∙ sym (ap views (log-commit h e (commit_of intent) is) ∙ views-push (log h) (commit_of intent) ∙ ap (λ (vs : List Viewed). views (log h) ++ vs) viewed);
  each = λ n y at. by_place n y (get-push held x y n at);
}
  where
    by_place : (n : ℕ) (y : HeldView) → (slice_get held n ≡ Some y) ⊎ ((n ≡ length held) × (y ≡ x)) → IsHeldView (h ++ e ∷ []) n y
    by_place n y (inl at) =
        let here = view_held h held n y are at in
        still_held limits h e n y lawful here (commit_keeps_cursor h e (commit_of intent) n is (slice_get_within (views (log h)) n (viewed_of y) here)) (are.each n y at)
    by_place n y (inr last) =
        subst (λ (k : ℕ). IsHeldView (h ++ e ∷ []) k y) (sym (last.0 ∙ count_views h held are)) (subst (IsHeldView (h ++ e ∷ []) (view_count (log h))) (sym last.1) (held_new limits h e intent x lawful is new begins))

-- the views after a commit
pub views-commit : (limits : Limits) (h : History) (e : Event) (intent : Intent) (held : List HeldView) → AreLawful limits h → AreHeldViews h held → e.operation ≡ operation.Commit (commit_of intent) → BeginsEmpty intent
    → AreHeldViews (h ++ e ∷ []) (with_new held (view_by (cursor_of h + 1) intent))
views-commit limits h e (CreateTable name schema) held lawful are is begins = no_new limits h e (commit_of (CreateTable name schema)) held lawful are is refl
views-commit limits h e (CreateView view part) held lawful are is begins = one_new limits h e (CreateView view part) held (new_view (cursor_of h + 1) view part) lawful are is refl refl begins
views-commit limits h e (SetPolicy table entries) held lawful are is begins = no_new limits h e (commit_of (SetPolicy table entries)) held lawful are is refl
views-commit limits h e (AlterMerge table columns) held lawful are is begins = no_new limits h e (commit_of (AlterMerge table columns)) held lawful are is refl
views-commit limits h e (Ingest parts failures) held lawful are is begins = no_new limits h e (commit_of (Ingest parts failures)) held lawful are is refl

-- the views after an event that is no commit
same_log : (h : History) (e : Event) → commits_of e.operation ≡ [] → log (h ++ e ∷ []) ≡ log h
same_log h e none = log-push h e ∙ ap (λ (l : Log). log h ++ l) none ∙ append-nil (log h)

pub views-merge : (limits : Limits) (h : History) (e : Event) (table : ℕ) (old : List ℕ) (new : ℕ) (held : List HeldView) → AreLawful limits h → AreHeldViews h held → e.operation ≡ operation.Merge table old new → AreHeldViews (h ++ e ∷ []) held
views-merge limits h e table old new held lawful are is = record {
  views = are.views ∙ sym (ap views (same_log h e (ap commits_of is)));
  each = λ n x at.
      let here = view_held h held n x are at in
      let within = slice_get_within (views (log h)) n (viewed_of x) here in
      still_held limits h e n x lawful here (view_cursor-push h e n within ∙ ap (view_cursor_after n (view_cursor h n)) is) (are.each n x at);
}

-- ---- folds

pub some_same : {X : Type 0} {x z : X} → Some x ≡ Some z → x ≡ z
some_same h = cc

-- what the part stood for is what the view covers now up to the same cursor
folded_now : (limits : Limits) (h : History) (e : Event) (view to : ℕ) (part : Grouping) (x : HeldView) → AreLawful limits h → (folded : WasFolded h view to part) → slice_get (views (log h)) view ≡ Some (viewed_of x)
    → StandsFor (planned_of x.view.body) (covered (log (h ++ e ∷ [])) x.view x.view.base to) part
folded_now limits h e view to part x lawful folded at =
    let g = take folded.place h in
    let rest = drop folded.place h in
    let whole : g ++ rest ≡ h = take-append-drop folded.place h in
    let parts = lawful_parts limits g rest (subst (AreLawful limits) (sym whole) lawful) in
    let logged : log h ≡ log g ++ log rest = ap log (sym whole) ∙ log-append g rest in
    let later : log (h ++ e ∷ []) ≡ log g ++ (log rest ++ commits_of e.operation) = log-push h e ∙ ap (λ (l : Log). l ++ commits_of e.operation) logged ∙ append_assoc (log g) (log rest) (commits_of e.operation) in
    let stood = slice_get_within (views (log g)) view folded.viewed folded.stands in
    let same : folded.viewed ≡ viewed_of x =
    some_same (sym folded.stands ∙ sym (view-stays (log g) (log rest) view stood) ∙ ap (λ (l : Log). slice_get (views l) view) (sym logged) ∙ at) in
    let v = folded.viewed.view in
    let now : covered (log (h ++ e ∷ [])) v v.base to ≡ covered (log g) v v.base to =
    ap (λ (l : Log). covered l v v.base to) later ∙ covered-go_on (log g) (log rest ++ commits_of e.operation) v v.base to (over limits g parts.0 view folded.viewed folded.stands) folded.within in
    subst (λ (y : Viewed). StandsFor (planned_of y.view.body) (covered (log (h ++ e ∷ [])) y.view y.view.base to) part) same
    (subst (λ (rows : List (List Value)). StandsFor (planned_of v.body) rows part) (sym now) folded.part)

pub views-fold : (limits : Limits) (h : History) (e : Event) (view to : ℕ) (part : Grouping) (held : List HeldView) → AreLawful limits h → AreHeldViews h held → e.operation ≡ operation.Fold view to → WasFolded h view to part
    → AreHeldViews (h ++ e ∷ []) (changed (folded_view to part) view held)
views-fold limits h e view to part held lawful are is folded = record {
  views = map-changed viewed_of (folded_view to part) view held (λ x. refl) ∙ are.views ∙ sym (ap views (same_log h e (ap commits_of is)));
  each = λ n y at. by_place n y (get-changed (folded_view to part) view held n y at);
}
  where
    moved : (n : ℕ) (x : HeldView) → n ≡ view → slice_get held n ≡ Some x → IsHeldView (h ++ e ∷ []) n (folded_view to part x)
    moved n x same at =
        let here = view_held h held n x are at in
        let within = slice_get_within (views (log h)) n (viewed_of x) here in
        let next : view_cursor (h ++ e ∷ []) n ≡ to = view_cursor-push h e n within ∙ ap (view_cursor_after n (view_cursor h n)) is ∙ ap (λ (b : Bool). cond b to (view_cursor h n)) (eq-eqb view n (sym same)) in
        let there : slice_get (views (log h)) view ≡ Some (viewed_of x) = ap (slice_get (views (log h))) (sym same) ∙ here in
        record {
          cursor = sym next;
          part = subst (λ (k : ℕ). StandsFor (planned_of x.view.body) (covered (log (h ++ e ∷ [])) x.view x.view.base k) part) (sym next) (folded_now limits h e view to part x lawful folded there);
        }

    other : (n : ℕ) (x : HeldView) → n ≢ view → slice_get held n ≡ Some x → IsHeldView (h ++ e ∷ []) n x
    other n x differs at =
        let here = view_held h held n x are at in
        let within = slice_get_within (views (log h)) n (viewed_of x) here in
        let next : view_cursor (h ++ e ∷ []) n ≡ view_cursor h n = view_cursor-push h e n within ∙ ap (view_cursor_after n (view_cursor h n)) is ∙ ap (λ (b : Bool). cond b to (view_cursor h n)) (ne_eqb view n (λ same. differs (sym same))) in
        still_held limits h e n x lawful here next (are.each n x at)

    by_case : (n : ℕ) (y x : HeldView) → slice_get held n ≡ Some x → ((n ≡ view) × (y ≡ folded_view to part x)) ⊎ ((n ≢ view) × (y ≡ x)) → IsHeldView (h ++ e ∷ []) n y
    by_case n y x at (inl here) = subst (IsHeldView (h ++ e ∷ []) n) (sym here.1) (moved n x here.0 at)
    by_case n y x at (inr there) = subst (IsHeldView (h ++ e ∷ []) n) (sym there.1) (other n x there.0 at)

    by_place : (n : ℕ) (y : HeldView) → WasAt (folded_view to part) view held n y → IsHeldView (h ++ e ∷ []) n y
    by_place n y was = by_case n y was.item was.at was.is

-- the view of a fold that was prepared stands, and its cursor was met
pub fold_stands : (h : History) (view to : ℕ) (part : Grouping) → WasFolded h view to part → (view < view_count (log h)) × (to ≤ cursor_of h)
fold_stands h view to part folded =
    let g = take folded.place h in
    let rest = drop folded.place h in
    let logged : log h ≡ log g ++ log rest = ap log (sym (take-append-drop folded.place h)) ∙ log-append g rest in
    let stood = slice_get_within (views (log g)) view folded.viewed folded.stands in
    let more = no_fewer_views (log g) (log rest) in
    let all = ap view_count logged in
    let longer = ap length logged ∙ length-append (log g) (log rest) in
    let within = folded.within in
    (omega (arith, stood, more, all), omega (arith, within, longer))

-- a catalogue after a fold
pub HoldsHistory-fold : (c : CatalogView) (cursor made : ℕ) (by : By) (view to : ℕ) (part : Grouping) (index : List Entry) → HoldsHistory c cursor made index → WasFolded (hist c) view to part → view_cursor (hist c) view < to
    → HoldsHistory (record { limits = c.limits; history = hist c ++ fold_event by view to ∷ []; held = c.held; policies = c.policies; views = changed (folded_view to part) view c.views; failures = c.failures }) cursor made index
HoldsHistory-fold c cursor made by view to part index holds folded ahead =
    let h = hist c in
    let e = fold_event by view to in
    let logged : log (h ++ e ∷ []) ≡ log h = same_log h e refl in
    let stands = fold_stands h view to part folded in
    let lawful : IsFold h view to = record { stands = stands.0; ahead = ahead; within = stands.1 } in
    record {
      sound = record {
        tables = subst (λ (ss : List TableState). AllZip IsHeld c.held ss) (sym (table_states-fold h e view to refl)) holds.sound.tables;
        policies = holds.sound.policies ∙ ap policies (sym logged);
        views = views-fold c.limits h e view to part c.views holds.sound.lawful holds.sound.views refl folded;
        failures = holds.sound.failures ∙ ap noted (sym logged);
        lawful = AreLawful-push c.limits h e holds.sound.lawful (record { operation = lawful });
      };
      count = holds.count ∙ sym (ap length logged);
      made_count = holds.made_count ∙ sym (let more = extents_made-push h e in omega (arith, more));
      tags = subst (TellsTags index) (sym logged) holds.tags;
    }

-- ---- names

unplaced_from : (k : ℕ) (name : List ℕ) (names : List (List ℕ)) → is_among name names ≡ false → place_from k name names ≡ None
unplaced_from k name [] e = refl
unplaced_from k name (x ∷ names) e = by_test (pointwise nat_eq x name) e (unplaced_from (k + 1) name names)
  where
    by_test : (b : Bool) → (b || is_among name names) ≡ false → (is_among name names ≡ false → place_from (k + 1) name names ≡ None) → cond b (Some k) (place_from (k + 1) name names) ≡ None
    by_test true e later = cc
    by_test false e later = later e

none_placed : (k : ℕ) (name : List ℕ) (names : List (List ℕ)) → is_among name names ≡ true → place_from k name names ≡ None → ⊥
none_placed k name [] e at = cc
none_placed k name (x ∷ names) e at = by_test (pointwise nat_eq x name) e at (none_placed (k + 1) name names)
  where
    by_test : (b : Bool) → (b || is_among name names) ≡ true → cond b (Some k) (place_from (k + 1) name names) ≡ None → (is_among name names ≡ true → place_from (k + 1) name names ≡ None → ⊥) → ⊥
    by_test true e at later = cc
    by_test false e at later = later e at

-- a name that isn't among others has no place among them
pub unplaced : (name : List ℕ) (names : List (List ℕ)) → is_among name names ≡ false → place_of name names ≡ None
unplaced = unplaced_from 0

-- the name of a new view has no place among those that are held
pub new_name : (limits : Limits) (h : History) (cursor : ℕ) (intent : Intent) (held : List HeldView) → AreHeldViews h held → LawfulCommit limits (log h) (commit_of intent)
    → IfSome (view_by cursor intent) (λ (x : HeldView). place_of x.view.name (names_held held) ≡ None)
new_name limits h cursor (CreateTable name schema) held are lawful = tt
new_name limits h cursor (CreateView view part) held are lawful =
    let name = view.name in
    let free = free_view limits (log h) name lawful.within in
    ap (place_of name) (names_are h held are) ∙ unplaced name (names_of_views (views (log h))) free.no_view
new_name limits h cursor (SetPolicy table entries) held are lawful = tt
new_name limits h cursor (AlterMerge table columns) held are lawful = tt
new_name limits h cursor (Ingest parts failures) held are lawful = tt

-- a name has a place just where it is among the others
pub placed : (name : List ℕ) (names : List (List ℕ)) → is_some (place_of name names) ≡ is_among name names
placed name names = by_place (is_among name names) (place_of name names) refl refl
  where
    by_place : (b : Bool) (o : Option ℕ) → is_among name names ≡ b → place_of name names ≡ o → is_some (place_of name names) ≡ is_among name names
    by_place false o among at = ap is_some (unplaced name names among) ∙ sym among
    by_place true None among at = absurd (none_placed 0 name names among at)
    by_place true (Some n) among at = ap is_some at ∙ sym among

placed_within : (k n : ℕ) (name : List ℕ) (held : List HeldView) → place_from k name (names_held held) ≡ Some n → n < k + length held
placed_within k n name [] e = cc
placed_within k n name (x ∷ held) e = by_test (pointwise nat_eq x.view.name name) e (placed_within (k + 1) n name held)
  where
    by_test : (b : Bool) → cond b (Some k) (place_from (k + 1) name (names_held held)) ≡ Some n → (place_from (k + 1) name (names_held held) ≡ Some n → n < k + 1 + length held) → n < k + length (x ∷ held)
    by_test true e later = let same : k ≡ n = cc in omega (arith, same)
    by_test false e later = let within = later e in omega (arith, within)

-- a view stands at the place of its name
pub place_within : (name : List ℕ) (held : List HeldView) (n : ℕ) → place_of name (names_held held) ≡ Some n → n < length held
place_within name held n e = let within = placed_within 0 n name held e in omega (arith, within)
