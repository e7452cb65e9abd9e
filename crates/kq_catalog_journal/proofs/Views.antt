-- Marks never fall and never pass the cursor, and what comes later leaves what a view covers up to a cursor.
use Rattle.std.proofs.Common.{◌≡◌, ◌≢◌, ◌<◌, ◌≤◌, ◌⊎◌, inl, inr, refl, subst, ℕ, zero, suc, ◌+◌, Bool, true, false, not, ◌&&◌, cond, List, [], ◌∷◌, ◌++◌, length, map, take, nat_eq, nat_lt, Option, Some, ap, sym, ◌∙◌, arith, append_assoc, append-nil, length-append}
use Rattle.std.specs.List.{filter, slice_get}
use Rattle.std.specs.Option.{option_map, unwrap_or}
use Rattle.std.proofs.lemmas.Bool.{lt-ltb, ltb-false, ltb-true, ne_eqb}
use Rattle.std.proofs.lemmas.Bool.Decides.{eqb_tells}
use Rattle.std.proofs.lemmas.List.{length_push}
use Rattle.std.proofs.lemmas.List.Elements.{filter-append}
use Rattle.std.proofs.lemmas.Option.{slice_get_within}
use Rattle.kq_run_plan.specs.kq_run_gather.Bodies.{IsBody, columns_of, columns_read}
use Rattle.kq_plan.specs.Plans.{Planned, planned_of}
use Rattle.kq_store_rows.specs.Numbered.{numbered}
use Rattle.kq_value.specs.declared.record.Record.{Record}
use Rattle.kq_value.specs.declared.schema.Field.{Field}
use Rattle.kq_value.specs.declared.value.Value.{Value}
use Rattle.kq_value.specs.Typed.{missing_of}
use Rattle.kq_store_rows.specs.Widened.{widened, widened_record, widened_records}
use Rattle.kq_catalog_journal.specs.declared.batch.Batch.{Batch}
use Rattle.kq_catalog_journal.specs.declared.event.Commit.{Commit}
use Rattle.kq_catalog_journal.specs.declared.event.Commit.TheVariants.{CreateTable, SetPolicy, CreateView, AlterMerge, Ingest}
use Rattle.kq_catalog_journal.specs.declared.event.Event.{Event}
use Rattle.kq_catalog_journal.specs.declared.event.Operation.{Operation}
use Rattle.kq_catalog_journal.specs.declared.event.Operation.TheVariants as operation
use Rattle.kq_catalog_journal.specs.declared.limits.Limits.{Limits}
use Rattle.kq_catalog_journal.specs.declared.table.Table.{Table}
use Rattle.kq_catalog_journal.specs.declared.view.View.{View}
use Rattle.kq_catalog_journal.specs.History.{History, Log, log, commits_of, cursor, tables, Viewed, views, views_by, views_from, view_count, base_of, view_cursor, view_cursor_after, view_cursor_from}
use Rattle.kq_catalog_journal.specs.Lawful.{AreLawful, Lawful, LawfulOperation, IsNewView}
use Rattle.kq_catalog_journal.specs.Records.{commit_records, batch_records, records, records_from, records_given, schema_of}
use Rattle.kq_catalog_journal.specs.Views.{covered, is_between, row_for}
use Rattle.kq_catalog_journal.proofs.Bounded.{AreLawful-induct}
use Rattle.kq_catalog_journal.proofs.Growing.{Extends, no_fewer_of, schema-go_on}
use Rattle.kq_catalog_journal.proofs.Histories.{AreLawful-push, log-push, views-append, views-push}
use Rattle.kq_catalog_journal.proofs.Places.{get-first, get-last, get-push}
use Rattle.kq_catalog_journal.proofs.Unique.{records_from-append}

-- ---- views stay

-- a view keeps its number
pub view-stays : (l more : Log) (n : ℕ) → n < view_count l → slice_get (views (l ++ more)) n ≡ slice_get (views l) n
view-stays l more n within = ap (λ (vs : List Viewed). slice_get vs n) (views-append l more) ∙ get-first (views l) (views_from (length l) more) n within

pub no_fewer_views : (l more : Log) → view_count l ≤ view_count (l ++ more)
no_fewer_views l more = let longer = ap length (views-append l more) ∙ length-append (views l) (views_from (length l) more) in omega (arith, longer)

base-stays : (l more : Log) (n : ℕ) → n < view_count l → base_of (l ++ more) n ≡ base_of l n
base-stays l more n within = ap (λ (o : Option Viewed). unwrap_or (option_map (λ (v : Viewed). v.view.base) o) 0) (view-stays l more n within)

-- ---- cursors of views

mark_from-push : (n at : ℕ) (h : History) (e : Event) → view_cursor_from n at (h ++ e ∷ []) ≡ view_cursor_after n (view_cursor_from n at h) e.operation
mark_from-push n at [] e = refl
mark_from-push n at (x ∷ h) e = mark_from-push n (view_cursor_after n at x.operation) h e

-- an event brings the cursor of a view that stands on, where it is a fold of it
pub view_cursor-push : (h : History) (e : Event) (n : ℕ) → n < view_count (log h) → view_cursor (h ++ e ∷ []) n ≡ view_cursor_after n (view_cursor h n) e.operation
view_cursor-push h e n within =
    ap (λ (l : Log). view_cursor_from n (base_of l n) (h ++ e ∷ [])) (log-push h e)
    ∙ ap (λ (b : ℕ). view_cursor_from n b (h ++ e ∷ [])) (base-stays (log h) (commits_of e.operation) n within)
    ∙ mark_from-push n (base_of (log h) n) h e

-- a view that isn't there isn't folded
unmarked : (limits : Limits) (h : History) → AreLawful limits h → (n at : ℕ) → view_count (log h) ≤ n → view_cursor_from n at h ≡ at
unmarked limits h all = AreLawful-induct limits Stays (λ n at past. refl) one_more h all
  where
    Stays : History → Type 0
    Stays g = (n at : ℕ) → view_count (log g) ≤ n → view_cursor_from n at g ≡ at

    by_operation : (g : History) (o : Operation) (n at : ℕ) → LawfulOperation limits g o → view_count (log g) ≤ n → view_cursor_after n at o ≡ at
    by_operation g (operation.Commit c) n at lawful past = refl
    by_operation g (operation.Fold view to) n at lawful past =
        ap (λ (b : Bool). cond b to at) (ne_eqb view n (λ same. let stands = lawful.stands in absurd (omega (arith, stands, past, same))))
    by_operation g (operation.Merge table old new) n at lawful past = refl

    one_more : (g : History) (e : Event) → Stays g → Lawful limits g e → Stays (g ++ e ∷ [])
    one_more g e before lawful n at past =
        let more = no_fewer_views (log g) (commits_of e.operation) in
        let longer = ap view_count (log-push g e) in
        let still : view_count (log g) ≤ n = omega (arith, past, more, longer) in
        mark_from-push n at g e ∙ ap (λ (m : ℕ). view_cursor_after n m e.operation) (before n at still) ∙ by_operation g e.operation n at lawful.operation still

pub log-commit : (h : History) (e : Event) (c : Commit) → e.operation ≡ operation.Commit c → log (h ++ e ∷ []) ≡ log h ++ c ∷ []
log-commit h e c is = log-push h e ∙ ap (λ (o : Operation). log h ++ commits_of o) is

-- a new view comes last
view-new : (l : Log) (c : Commit) (v : Viewed) → views_by (length l + 1) c ≡ v ∷ [] → slice_get (views (l ++ c ∷ [])) (view_count l) ≡ Some v
view-new l c v is = ap (λ (vs : List Viewed). slice_get vs (view_count l)) (views-push l c ∙ ap (λ (vs : List Viewed). views l ++ vs) is) ∙ get-last (views l) v

-- it is materialized up to its base
pub view_cursor-new : (limits : Limits) (h : History) (e : Event) (c : Commit) (v : Viewed) → AreLawful limits h → e.operation ≡ operation.Commit c → views_by (cursor h + 1) c ≡ v ∷ [] → view_cursor (h ++ e ∷ []) (view_count (log h)) ≡ v.view.base
view_cursor-new limits h e c v lawful is new =
    let n = view_count (log h) in
    let base : base_of (log (h ++ e ∷ [])) n ≡ v.view.base =
    ap (λ (l : Log). base_of l n) (log-commit h e c is) ∙ ap (λ (o : Option Viewed). unwrap_or (option_map (λ (x : Viewed). x.view.base) o) 0) (view-new (log h) c v new) in
    ap (λ (b : ℕ). view_cursor_from n b (h ++ e ∷ [])) base ∙ mark_from-push n v.view.base h e
    ∙ ap (λ (o : Operation). view_cursor_after n (view_cursor_from n v.view.base h) o) is ∙ unmarked limits h lawful n v.view.base (omega arith)

-- a cursor is from the base on and no more than the cursor
pub record IsMaterialized (h : History) (n : ℕ) (v : Viewed) : Type 0 where
  pub from : v.view.base ≤ view_cursor h n
  pub within : view_cursor h n ≤ cursor h

-- what is known of a view that was made holds of it ever after, where an event keeps it and the commit that makes the view gives it
each_view : (limits : Limits) (P : History → ℕ → Viewed → Type 0)
    → ((h : History) (e : Event) (n : ℕ) (v : Viewed) → AreLawful limits h → Lawful limits h e → n < view_count (log h) → P h n v → P (h ++ e ∷ []) n v)
    → ((h : History) (e : Event) (c : Commit) (v : Viewed) → AreLawful limits h → Lawful limits h e → e.operation ≡ operation.Commit c → views_by (cursor h + 1) c ≡ v ∷ [] → P (h ++ e ∷ []) (view_count (log h)) v)
    → (h : History) → AreLawful limits h → (n : ℕ) (v : Viewed) → slice_get (views (log h)) n ≡ Some v → P h n v
each_view limits P keeps gives h all = (AreLawful-induct limits Both start one_more h all).1
  where
    Each : History → Type 0
    Each g = (n : ℕ) (v : Viewed) → slice_get (views (log g)) n ≡ Some v → P g n v

    Both : History → Type 0
    Both g = AreLawful limits g × Each g

    start : Both []
    start = (tt, λ n v at. let within = slice_get_within [] n v at in absurd (omega (arith, within)))

    longer : (g : History) (e : Event) (o : Operation) → e.operation ≡ o → log (g ++ e ∷ []) ≡ log g ++ commits_of o
    longer g e o is = log-push g e ∙ ap (λ (x : Operation). log g ++ commits_of x) is

    same_views : (g : History) (e : Event) (n : ℕ) (v : Viewed) → AreLawful limits g → Lawful limits g e → Each g → views (log (g ++ e ∷ [])) ≡ views (log g) → slice_get (views (log (g ++ e ∷ []))) n ≡ Some v → P (g ++ e ∷ []) n v
    same_views g e n v lawful one each same at =
        let here : slice_get (views (log g)) n ≡ Some v = ap (λ (vs : List Viewed). slice_get vs n) (sym same) ∙ at in
        keeps g e n v lawful one (slice_get_within (views (log g)) n v here) (each n v here)

    unchanged : (g : History) (e : Event) (o : Operation) → e.operation ≡ o → commits_of o ≡ [] → views (log (g ++ e ∷ [])) ≡ views (log g)
    unchanged g e o is none = ap views (longer g e o is ∙ ap (λ (l : Log). log g ++ l) none ∙ append-nil (log g))

    no_view : (g : History) (e : Event) (c : Commit) → e.operation ≡ operation.Commit c → views_by (cursor g + 1) c ≡ [] → views (log (g ++ e ∷ [])) ≡ views (log g)
    no_view g e c is none = ap views (longer g e (operation.Commit c) is) ∙ views-push (log g) c ∙ ap (λ (vs : List Viewed). views (log g) ++ vs) none ∙ append-nil (views (log g))

    new_view : (g : History) (e : Event) (c : Commit) (x : Viewed) (n : ℕ) (v : Viewed) → AreLawful limits g → Lawful limits g e → Each g → e.operation ≡ operation.Commit c → views_by (cursor g + 1) c ≡ x ∷ []
        → slice_get (views (log (g ++ e ∷ []))) n ≡ Some v → P (g ++ e ∷ []) n v
    new_view g e c x n v lawful one each is new at = by_place (get-push (views (log g)) x v n (ap (λ (vs : List Viewed). slice_get vs n) (sym all_views) ∙ at))
      where
        all_views : views (log (g ++ e ∷ [])) ≡ views (log g) ++ x ∷ []
        all_views = ap views (longer g e (operation.Commit c) is) ∙ views-push (log g) c ∙ ap (λ (vs : List Viewed). views (log g) ++ vs) new

        by_place : (slice_get (views (log g)) n ≡ Some v) ⊎ ((n ≡ view_count (log g)) × (v ≡ x)) → P (g ++ e ∷ []) n v
        by_place (inl here) = keeps g e n v lawful one (slice_get_within (views (log g)) n v here) (each n v here)
        by_place (inr last) = subst (λ (k : ℕ). P (g ++ e ∷ []) k v) (sym last.0) (subst (P (g ++ e ∷ []) (view_count (log g))) (sym last.1) (gives g e c x lawful one is new))

    by_operation : (g : History) (e : Event) (o : Operation) → e.operation ≡ o → AreLawful limits g → Lawful limits g e → Each g → Each (g ++ e ∷ [])
    by_operation g e (operation.Commit (CreateTable name schema)) is lawful one each n v at = same_views g e n v lawful one each (no_view g e (CreateTable name schema) is refl) at
    by_operation g e (operation.Commit (CreateView view)) is lawful one each n v at = new_view g e (CreateView view) (record { view = view; made = cursor g + 1 }) n v lawful one each is refl at
    by_operation g e (operation.Commit (SetPolicy table entries)) is lawful one each n v at = same_views g e n v lawful one each (no_view g e (SetPolicy table entries) is refl) at
    by_operation g e (operation.Commit (AlterMerge table columns)) is lawful one each n v at = same_views g e n v lawful one each (no_view g e (AlterMerge table columns) is refl) at
    by_operation g e (operation.Commit (Ingest batches failures)) is lawful one each n v at = same_views g e n v lawful one each (no_view g e (Ingest batches failures) is refl) at
    by_operation g e (operation.Fold view to) is lawful one each n v at = same_views g e n v lawful one each (unchanged g e (operation.Fold view to) is refl) at
    by_operation g e (operation.Merge table old new) is lawful one each n v at = same_views g e n v lawful one each (unchanged g e (operation.Merge table old new) is refl) at

    one_more : (g : History) (e : Event) → Both g → Lawful limits g e → Both (g ++ e ∷ [])
    one_more g e before one = (AreLawful-push limits g e before.0 one, by_operation g e e.operation refl before.0 one before.1)

mark_within : (h : History) (o : Operation) (n at : ℕ) (limits : Limits) → LawfulOperation limits h o → at ≡ view_cursor h n → (at ≤ view_cursor_after n at o) × (view_cursor h n ≤ cursor h → view_cursor_after n at o ≤ cursor h)
mark_within h (operation.Commit c) n at limits lawful is = (omega arith, λ le. omega (arith, le, is))
mark_within h (operation.Fold view to) n at limits lawful is = by_test (eqb_tells view n)
  where
    by_test : ((nat_eq view n ≡ true) × (view ≡ n)) ⊎ ((nat_eq view n ≡ false) × (view ≢ n)) → (at ≤ cond (nat_eq view n) to at) × (view_cursor h n ≤ cursor h → cond (nat_eq view n) to at ≤ cursor h)
    by_test (inl same) =
        let ahead : view_cursor h n < to = subst (λ (k : ℕ). view_cursor h k < to) same.1 lawful.ahead in
        let within = lawful.within in
        rw same.0 (omega (arith, ahead, is), λ le. omega (arith, within))
    by_test (inr other) = rw other.0 (omega arith, λ le. omega (arith, le, is))
mark_within h (operation.Merge table old new) n at limits lawful is = (omega arith, λ le. omega (arith, le, is))

-- no event brings a cursor back
pub view_cursor-rises : (limits : Limits) (h : History) (e : Event) (n : ℕ) → Lawful limits h e → n < view_count (log h) → view_cursor h n ≤ view_cursor (h ++ e ∷ []) n
view_cursor-rises limits h e n lawful within =
    let next = view_cursor-push h e n within in
    let more = (mark_within h e.operation n (view_cursor h n) limits lawful.operation refl).0 in
    omega (arith, next, more)

cursor_rises : (h : History) (e : Event) → cursor h ≤ cursor (h ++ e ∷ [])
cursor_rises h e = let longer = ap length (log-push h e) ∙ length-append (log h) (commits_of e.operation) in omega (arith, longer)

-- the cursor of each view
pub materialized : (limits : Limits) (h : History) → AreLawful limits h → (n : ℕ) (v : Viewed) → slice_get (views (log h)) n ≡ Some v → IsMaterialized h n v
materialized limits h lawful = each_view limits IsMaterialized keeps gives h lawful
  where
    keeps : (g : History) (e : Event) (n : ℕ) (v : Viewed) → AreLawful limits g → Lawful limits g e → n < view_count (log g) → IsMaterialized g n v → IsMaterialized (g ++ e ∷ []) n v
    keeps g e n v all one within is =
        let next = view_cursor-push g e n within in
        let both = mark_within g e.operation n (view_cursor g n) limits one.operation refl in
        let more = both.0 in
        let few = both.1 is.within in
        let longer = cursor_rises g e in
        let from = is.from in
        record { from = omega (arith, next, more, from); within = omega (arith, next, few, longer) }

    gives : (g : History) (e : Event) (c : Commit) (v : Viewed) → AreLawful limits g → Lawful limits g e → e.operation ≡ operation.Commit c → views_by (cursor g + 1) c ≡ v ∷ [] → IsMaterialized (g ++ e ∷ []) (view_count (log g)) v
    gives g e (CreateTable name schema) v all one is new = absurd (cc)
    gives g e (CreateView view) v all one is new =
        let lawful : LawfulOperation limits g (operation.Commit (CreateView view)) = subst (LawfulOperation limits g) is one.operation in
        let at = view_cursor-new limits g e (CreateView view) v all is new in
        let longer = ap length (log-commit g e (CreateView view) is) ∙ length_push (log g) (CreateView view) in
        let same : view ≡ v.view = cc in
        let base : (v.view.base ≡ 0) ⊎ (v.view.base ≡ cursor g + 1) = subst (λ (x : View). (x.base ≡ 0) ⊎ (x.base ≡ cursor g + 1)) same lawful.base in
        record { from = omega (arith, at); within = by_base base at longer }
      where
        by_base : (v.view.base ≡ 0) ⊎ (v.view.base ≡ cursor g + 1) → view_cursor (g ++ e ∷ []) (view_count (log g)) ≡ v.view.base → cursor (g ++ e ∷ []) ≡ cursor g + 1 → view_cursor (g ++ e ∷ []) (view_count (log g)) ≤ cursor (g ++ e ∷ [])
        by_base (inl none) at longer = omega (arith, none, at, longer)
        by_base (inr now) at longer = omega (arith, now, at, longer)
    gives g e (SetPolicy table entries) v all one is new = absurd (cc)
    gives g e (AlterMerge table columns) v all one is new = absurd (cc)
    gives g e (Ingest batches failures) v all one is new = absurd (cc)

-- ---- bodies

-- a view's body is one over the columns that it reads, and these are the first ones of its table
pub record IsOver (l : Log) (v : View) : Type 0 where
  pub name : List ℕ
  pub body : IsBody name (columns_read (planned_of v.body)) (planned_of v.body)
  pub stands : v.source < length (tables l)
  pub columns : Extends (columns_read (planned_of v.body)) (schema_of l v.source)

read_under : (name : List ℕ) (columns : List Field) (p : Planned) → IsBody name columns p → columns_read p ≡ columns
read_under name columns p is = ap columns_of is.steps ∙ is.under

IsOver-new : (limits : Limits) (l : Log) (v : View) → IsNewView limits l v → IsOver l v
IsOver-new limits l v new =
    let p = planned_of v.body in
    let same = read_under new.table.name new.table.schema p new.body in
    let schema : schema_of l v.source ≡ new.table.schema = ap (λ (o : Option Table). unwrap_or (option_map (λ (x : Table). x.schema) o) []) new.stands in
    record {
      name = new.table.name;
      body = subst (λ (cs : List Field). IsBody new.table.name cs p) (sym same) new.body;
      stands = slice_get_within (tables l) v.source new.table new.stands;
      columns = record { more = []; is = schema ∙ sym same ∙ sym (append-nil (columns_read p)) };
    }

IsOver-later : (l more : Log) (v : View) → IsOver l v → IsOver (l ++ more) v
IsOver-later l more v over =
    let rest = schema-go_on l more v.source in
    let first = columns_read (planned_of v.body) in
    record {
      name = over.name;
      body = over.body;
      stands = let few = no_fewer_of l more in let stands = over.stands in omega (arith, few, stands);
      columns = record { more = over.columns.more ++ rest.more; is = rest.is ∙ ap (λ (cs : List Field). cs ++ rest.more) over.columns.is ∙ append_assoc first over.columns.more rest.more };
    }

pub over : (limits : Limits) (h : History) → AreLawful limits h → (n : ℕ) (v : Viewed) → slice_get (views (log h)) n ≡ Some v → IsOver (log h) v.view
over limits h lawful = each_view limits (λ (g : History) (n : ℕ) (v : Viewed). IsOver (log g) v.view) keeps gives h lawful
  where
    keeps : (g : History) (e : Event) (n : ℕ) (v : Viewed) → AreLawful limits g → Lawful limits g e → n < view_count (log g) → IsOver (log g) v.view → IsOver (log (g ++ e ∷ [])) v.view
    keeps g e n v all one within is = subst (λ (l : Log). IsOver l v.view) (sym (log-push g e)) (IsOver-later (log g) (commits_of e.operation) v.view is)

    gives : (g : History) (e : Event) (c : Commit) (v : Viewed) → AreLawful limits g → Lawful limits g e → e.operation ≡ operation.Commit c → views_by (cursor g + 1) c ≡ v ∷ [] → IsOver (log (g ++ e ∷ [])) v.view
    gives g e (CreateTable name schema) v all one is new = absurd (cc)
    gives g e (CreateView view) v all one is new =
        let lawful : LawfulOperation limits g (operation.Commit (CreateView view)) = subst (LawfulOperation limits g) is one.operation in
        let same : view ≡ v.view = cc in
        subst (λ (l : Log). IsOver l v.view) (sym (log-commit g e (CreateView view) is))
        (IsOver-later (log g) (CreateView view ∷ []) v.view (IsOver-new limits (log g) v.view (subst (IsNewView limits (log g)) same lawful)))
    gives g e (SetPolicy table entries) v all one is new = absurd (cc)
    gives g e (AlterMerge table columns) v all one is new = absurd (cc)
    gives g e (Ingest batches failures) v all one is new = absurd (cc)

-- ---- what is covered

-- nothing is between two cursors of which the first isn't below the second
pub covered-none : (l : Log) (v : View) (above to : ℕ) → to ≤ above → covered l v above to ≡ []
covered-none l v above to none = ap (map (row_for v)) (none_between (records l v.source))
  where
    by_tests : (r : Record) (a b : Bool) → nat_lt above r.id.cursor ≡ a → nat_lt to r.id.cursor ≡ b → (a && not b) ≡ false
    by_tests r false b p q = refl
    by_tests r true true p q = refl
    by_tests r true false p q = let low = ltb-true above r.id.cursor p in let high = ltb-false to r.id.cursor q in absurd (omega (arith, low, high, none))

    none_between : (rs : List Record) → filter (is_between above to) rs ≡ []
    none_between [] = refl
    none_between (r ∷ rs) = ap (λ (b : Bool). cond b (r ∷ filter (is_between above to) rs) (filter (is_between above to) rs)) (by_tests r (nat_lt above r.id.cursor) (nat_lt to r.id.cursor) refl refl) ∙ none_between rs

-- records above a cursor are none of those up to it
past : (above to : ℕ) (r : Record) → to < r.id.cursor → is_between above to r ≡ false
past above to r later = ap (λ (b : Bool). nat_lt above r.id.cursor && not b) (lt-ltb to r.id.cursor later) ∙ and_false (nat_lt above r.id.cursor)
  where
    and_false : (b : Bool) → (b && false) ≡ false
    and_false true = refl
    and_false false = refl

numbered_past : (above to at ordinal : ℕ) (rows : List (List Value)) → to < at → filter (is_between above to) (numbered at ordinal rows) ≡ []
numbered_past above to at ordinal [] later = refl
numbered_past above to at ordinal (row ∷ rows) later =
    let r : Record = record { id = record { cursor = at; ordinal = ordinal }; row = row } in
    let rest = filter (is_between above to) (numbered at (ordinal + 1) rows) in
    ap (λ (b : Bool). cond b (r ∷ rest) rest) (past above to r later) ∙ numbered_past above to at (ordinal + 1) rows later

batch_records_past : (above to t at ordinal : ℕ) (bs : List Batch) → to < at → filter (is_between above to) (batch_records t at ordinal bs) ≡ []
batch_records_past above to t at ordinal [] later = refl
batch_records_past above to t at ordinal (b ∷ bs) later = by_test (nat_eq b.table t) (batch_records_past above to t at (ordinal + length b.rows) bs later) (batch_records_past above to t at ordinal bs later)
  where
    by_test : (is : Bool) → filter (is_between above to) (batch_records t at (ordinal + length b.rows) bs) ≡ [] → filter (is_between above to) (batch_records t at ordinal bs) ≡ []
        → filter (is_between above to) (cond is (numbered at ordinal b.rows ++ batch_records t at (ordinal + length b.rows) bs) (batch_records t at ordinal bs)) ≡ []
    by_test true rest same =
        filter-append (is_between above to) (numbered at ordinal b.rows) (batch_records t at (ordinal + length b.rows) bs)
        ∙ ap (λ (rs : List Record). rs ++ filter (is_between above to) (batch_records t at (ordinal + length b.rows) bs)) (numbered_past above to at ordinal b.rows later)
        ∙ rest
    by_test false rest same = same

given_past : (above to t at : ℕ) (c : Commit) → to < at → filter (is_between above to) (commit_records t at c) ≡ []
given_past above to t at (CreateTable name schema) later = refl
given_past above to t at (CreateView view) later = refl
given_past above to t at (SetPolicy table entries) later = refl
given_past above to t at (AlterMerge table columns) later = refl
given_past above to t at (Ingest batches failures) later = batch_records_past above to t at 0 batches later

records_past : (above to t n : ℕ) (l : Log) → to ≤ n → filter (is_between above to) (records_from t n l) ≡ []
records_past above to t n [] up = refl
records_past above to t n (c ∷ l) up =
    filter-append (is_between above to) (commit_records t (n + 1) c) (records_from t (n + 1) l)
    ∙ ap (λ (rs : List Record). rs ++ filter (is_between above to) (records_from t (n + 1) l)) (given_past above to t (n + 1) c (omega (arith, up)))
    ∙ records_past above to t (n + 1) l (omega (arith, up))

-- columns don't change which records are between
between_wide : (above to : ℕ) (fields : List Field) (rs : List Record) → filter (is_between above to) (widened_records fields rs) ≡ widened_records fields (filter (is_between above to) rs)
between_wide above to fields [] = refl
between_wide above to fields (r ∷ rs) = by_test (is_between above to r) (between_wide above to fields rs)
  where
    by_test : (b : Bool) → filter (is_between above to) (widened_records fields rs) ≡ widened_records fields (filter (is_between above to) rs)
        → cond b (widened_record fields r ∷ filter (is_between above to) (widened_records fields rs)) (filter (is_between above to) (widened_records fields rs)) ≡ widened_records fields (cond b (r ∷ filter (is_between above to) rs) (filter (is_between above to) rs))
    by_test true rest = ap (λ (xs : List Record). widened_record fields r ∷ xs) rest
    by_test false rest = rest

-- further columns don't change the first cells
cut_wide : (k : ℕ) (first more : List Field) (row : List Value) → k ≤ length first → take k (widened (first ++ more) row) ≡ take k (widened first row)
cut_wide zero first more row within = refl
cut_wide (suc k) [] more row within = absurd (omega (arith, within))
cut_wide (suc k) (f ∷ first) more [] within = ap (λ (vs : List Value). missing_of f.ty ∷ vs) (cut_wide k first more [] (omega (arith, within)))
cut_wide (suc k) (f ∷ first) more (v ∷ row) within = ap (λ (vs : List Value). v ∷ vs) (cut_wide k first more row (omega (arith, within)))

rows_wide : (v : View) (first more : List Field) (rs : List Record) → length (columns_read (planned_of v.body)) ≤ length first → map (row_for v) (widened_records (first ++ more) rs) ≡ map (row_for v) (widened_records first rs)
rows_wide v first more [] within = refl
rows_wide v first more (r ∷ rs) within =
    ap (λ (row : List Value). row ∷ map (row_for v) (widened_records (first ++ more) rs)) (cut_wide (length (columns_read (planned_of v.body))) first more r.row within)
    ∙ ap (λ (rows : List (List Value)). row_for v (widened_record first r) ∷ rows) (rows_wide v first more rs within)

-- what comes later leaves what a view covers up to a cursor of the log, also where its table gains columns
pub covered-go_on : (l more : Log) (v : View) (above to : ℕ) → IsOver l v → to ≤ length l → covered (l ++ more) v above to ≡ covered l v above to
covered-go_on l more v above to over up =
    let first = schema_of l v.source in
    let rest = schema-go_on l more v.source in
    let p = is_between above to in
    let old = records_given l v.source in
    let new = records_from v.source (0 + length l) more in
    let all : filter p (records_given (l ++ more) v.source) ≡ filter p old =
    ap (filter p) (records_from-append v.source 0 l more) ∙ filter-append p old new ∙ ap (λ (rs : List Record). filter p old ++ rs) (records_past above to v.source (0 + length l) more (omega (arith, up)))
    ∙ append-nil (filter p old) in
    let wide : length (columns_read (planned_of v.body)) ≤ length first =
    let n = ap length over.columns.is ∙ length-append (columns_read (planned_of v.body)) over.columns.more in omega (arith, n) in
    ap (map (row_for v)) (between_wide above to (schema_of (l ++ more) v.source) (records_given (l ++ more) v.source) ∙ ap (widened_records (schema_of (l ++ more) v.source)) all)
    ∙ ap (λ (fields : List Field). map (row_for v) (widened_records fields (filter p old))) rest.is
    ∙ rows_wide v first rest.more (filter p old) wide
    ∙ sym (ap (map (row_for v)) (between_wide above to first old))
