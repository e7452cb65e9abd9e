-- What is known of a view that stands, and what its rows are made of.
use Rattle.std.proofs.Common.{◌≡◌, ◌≤◌, ◌<◌, ◌^◌, ◌+◌, ◌++◌, ℕ, zero, suc, List, [], ◌∷◌, All, length, map, take, Option, Some, None, Result, refl, sym, ap, ◌∙◌, subst, arith}
use Rattle.std.specs.List.{slice_get}
use Rattle.std.specs.List.Sorted.{IsPermutation}
use Rattle.std.specs.Option.{option_map, unwrap_or}
use Rattle.std.proofs.lemmas.List.{length-map, map_more}
use Rattle.std.proofs.lemmas.List.Sorted.{length_permutation}
use Rattle.std.proofs.lemmas.Option.{get_or_from_slice_get, slice_get_within}
use Rattle.kq_catalog.specs.Seen.{CatalogView, Sound, hist}
use Rattle.kq_catalog.specs.Views.{HoldsPart}
use Rattle.kq_value.specs.declared.fault.EvalFault.{EvalFault}
use Rattle.kq_store_extent.proofs.Wide.{held_records-wide}
use Rattle.kq_store_extent.specs.Seen.{HeldExtents, held_records}
use Rattle.kq_store_extent.specs.Wide.{wide_held}
use Rattle.kq_catalog.specs.kq_run_groups.Groups.{Grouping}
use Rattle.kq_run_plan.specs.kq_run_gather.Bodies.{AnswersMade, IsViewBody, StandsFor, columns_read}
use Rattle.kq_catalog_journal.specs.declared.table.Table.{Table}
use Rattle.kq_catalog_journal.specs.declared.view.View.{View}
use Rattle.kq_catalog_journal.specs.History.{History, Log, Viewed, cursor, log, view_cursor, tables, views}
use Rattle.kq_catalog_journal.specs.Records.{records, rows_in, schema_of}
use Rattle.kq_catalog_journal.specs.Views.{covered}
use Rattle.kq_catalog_journal.proofs.Views.{IsOver, materialized, over}
use Rattle.kq_run_plan.specs.Operators.{AnswersOne}
use Rattle.kq_run_plan.specs.Outcomes.{Row}
use Rattle.kq_plan.specs.declared.work.LeafKind.{LeafKind}
use Rattle.kq_plan.specs.declared.work.LeafKind.TheVariants as kind
use Rattle.kq_plan.specs.Plans.{planned_of}
use Rattle.kq_run_plan.specs.kq_run_scan.Ranges.{rows_between}
use Rattle.kq_value.specs.declared.schema.Field.{Field}
use Rattle.kq_value.specs.Typed.{HasTypes}
use Rattle.kq_store_rows.specs.Widened.{widened_record}
use Rattle.kq_engine_query.specs.Views.{ViewGives, columns_of_view, read_to, up_to, view_numbered, view_of}
use Rattle.kq_engine_query.proofs.Covering.{all_covered, covered_typed}
use Rattle.kq_engine_query.proofs.Giving.{answers_gives}

-- ---- a view that stands

-- the view of a number, with the cursor that made it
pub record IsNumbered (h : History) (n : ℕ) (v : View) : Type 0 where
  pub viewed : Viewed
  pub at : slice_get (views (log h)) n ≡ Some viewed
  pub is : viewed.view ≡ v

pub numbered : (h : History) (n : ℕ) (v : View) → view_numbered h n ≡ Some v → IsNumbered h n v
numbered h n v = by_option (slice_get (views (log h)) n) refl
  where
    by_option : (o : Option Viewed) → slice_get (views (log h)) n ≡ o → option_map view_of o ≡ Some v → IsNumbered h n v
    by_option None same is = absurd cc
    by_option (Some viewed) same is = record { viewed = viewed; at = same; is = cc }

pub view_within : (h : History) (n : ℕ) (v : View) → view_numbered h n ≡ Some v → n < length (views (log h))
view_within h n v is = let one = numbered h n v is in slice_get_within (views (log h)) n one.viewed one.at

pub view_over : (c : CatalogView) (n : ℕ) (v : View) → Sound c → view_numbered (hist c) n ≡ Some v → IsOver (log (hist c)) v
view_over c n v sound is = let one = numbered (hist c) n v is in subst (IsOver (log (hist c))) one.is (over c.limits (hist c) sound.lawful n one.viewed one.at)

pub view_part : (h : History) (n : ℕ) (v : View) (g : Grouping) → view_numbered h n ≡ Some v → ((w : Viewed) → slice_get (views (log h)) n ≡ Some w → HoldsPart h n w.view g) → HoldsPart h n v g
view_part h n v g is holds = let one = numbered h n v is in subst (λ (x : View). HoldsPart h n x g) one.is (holds one.viewed one.at)

pub view_from : (c : CatalogView) (n : ℕ) (v : View) → Sound c → view_numbered (hist c) n ≡ Some v → v.base ≤ view_cursor (hist c) n
view_from c n v sound is =
    let one = numbered (hist c) n v is in
    subst (λ (x : View). x.base ≤ view_cursor (hist c) n) one.is (materialized c.limits (hist c) sound.lawful n one.viewed one.at).from

pub view_up : (c : CatalogView) (n : ℕ) (v : View) (k : LeafKind) → Sound c → view_numbered (hist c) n ≡ Some v → view_cursor (hist c) n ≤ read_to (hist c) k n
view_up c n v k sound is = by_kind k
  where
    within : view_cursor (hist c) n ≤ cursor (hist c)
    within = let one = numbered (hist c) n v is in (materialized c.limits (hist c) sound.lawful n one.viewed one.at).within

    by_kind : (k : LeafKind) → view_cursor (hist c) n ≤ read_to (hist c) k n
    by_kind kind.Table = within
    by_kind kind.View = within
    by_kind kind.Part = omega arith

-- as the code comes to it
pub reaches : (h : History) (k : LeafKind) (n to above last : ℕ) → to ≡ up_to k above last → above ≡ view_cursor h n → last ≡ cursor h → to ≡ read_to h k n
reaches h k n to above last is from up = is ∙ ap (λ (m : ℕ). up_to k m last) from ∙ ap (up_to k (view_cursor h n)) up

-- ---- its table

record HasItem {X : Type 0} (xs : List X) (n : ℕ) : Type 0 where
  item : X
  at : slice_get xs n ≡ Some item

has_item : {X : Type 0} (xs : List X) (n : ℕ) → n < length xs → HasItem xs n
has_item [] n within = absurd (omega (arith, within))
has_item (x ∷ xs) zero within = record { item = x; at = refl }
has_item (x ∷ xs) (suc n) within = let rest = has_item xs n (omega (arith, within)) in record { item = rest.item; at = rest.at }

pub table_typed : (h : History) (t : ℕ) → t < length (tables (log h)) → ((x : Table) → slice_get (tables (log h)) t ≡ Some x → All (HasTypes x.schema) (rows_in h t)) → All (HasTypes (schema_of (log h) t)) (rows_in h t)
table_typed h t within typed =
    let one = has_item (tables (log h)) t within in
    let same : schema_of (log h) t ≡ one.item.schema = ap (λ (o : Option Table). unwrap_or (option_map (λ (x : Table). x.schema) o) []) one.at in
    subst (λ (fs : List Field). All (HasTypes fs) (rows_in h t)) (sym same) (typed one.item one.at)

-- no more records are held than the table has
pub few_held : (h : History) (t : ℕ) (held : HeldExtents) → IsPermutation (held_records (wide_held (schema_of (log h) t) held)) (records (log h) t) → length (records (log h) t) < 2 ^ 63
    → length (held_records held) < 2 ^ 63
few_held h t held same few =
    let schema = schema_of (log h) t in
    let wide = ap length (held_records-wide schema held) ∙ length-map (held_records held) (widened_record schema) in
    let all = length_permutation (held_records (wide_held schema held)) (records (log h) t) same in
    omega (arith, wide, all, few)

-- ---- its rows

pub has_body : (l : Log) (v : View) → IsOver l v → IsViewBody (planned_of v.body)
has_body l v over_table = record { table = over_table.name; columns = columns_read (planned_of v.body); body = over_table.body }

module _ (h : History) (n : ℕ) (v : View) (k : LeafKind) (held : HeldExtents) (part : Grouping) (over_table : IsOver (log h) v) (same : IsPermutation (held_records (wide_held (schema_of (log h) v.source) held)) (records (log h) v.source)) where
  abbrev columns : List Field
  columns = columns_read (planned_of v.body)

  abbrev delta : List Row
  delta = rows_between (view_cursor h n) (read_to h k n) columns (held_records held)

  pub gives_rows : (r : Result (List Row) EvalFault) → v.base ≤ view_cursor h n → view_cursor h n ≤ read_to h k n → HoldsPart h n v part → All (HasTypes (schema_of (log h) v.source)) (rows_in h v.source)
      → ((had : List Row) → StandsFor (planned_of v.body) had part → AnswersMade (planned_of v.body) (had ++ delta) r) → AnswersOne (ViewGives h k n v) r
  gives_rows r low high holds typed made =
      answers_gives over_table.name columns (planned_of v.body) over_table.body (covered (log h) v v.base (read_to h k n)) (covered_typed v (log h) over_table.columns v.base (read_to h k n) typed) (covered (log h) v v.base (view_cursor h n) ++ delta)
      (all_covered v (log h) over_table.columns held v.base (view_cursor h n) (read_to h k n) low high same) r (made (covered (log h) v v.base (view_cursor h n)) holds)

-- ---- its columns

-- the columns of one view more
pub columns_more : (h : History) (n : ℕ) (made : List Field) → n < length (views (log h)) → ((v : Viewed) → slice_get (views (log h)) n ≡ Some v → made ≡ columns_of_view v)
    → map columns_of_view (take n (views (log h))) ++ made ∷ [] ≡ map columns_of_view (take (n + 1) (views (log h)))
columns_more h n made within is =
    let vs = views (log h) in
    let one = has_item vs n within in
    ap (λ (cs : List Field). map columns_of_view (take n vs) ++ cs ∷ []) (is one.item one.at ∙ ap columns_of_view (sym (get_or_from_slice_get vs n one.item one.item one.at)))
    ∙ sym (map_more columns_of_view vs n one.item within)
