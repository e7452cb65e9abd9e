-- What is exported stays so as the history grows, and with a range or an export more.
use Rattle.std.proofs.Common.{◌≡◌, ◌≤◌, ◌<◌, ◌+◌, ◌⊎◌, inl, inr, refl, ℕ, Bool, true, false, cond, List, [], ◌∷◌, ◌++◌, All, length, length-append, nat_eq, nat_lt, Some, None, Option, ap, sym, ◌∙◌, subst, arith, append_assoc, append-nil}
use Rattle.std.specs.Prelude.{pos}
use mathlib.Core.List.{IsPrefix}
use Rattle.std.specs.List.{AllZip, filter, slice_get}
use Rattle.std.proofs.lemmas.Bool.{eq-eqb, ltb-false, ltb-true, ne_eqb}
use Rattle.std.proofs.lemmas.Bool.Decides.{eqb_tells}
use Rattle.std.proofs.lemmas.List.Elements.{All-cons, All-head, All-nil, All-tail, filter-append}
use Rattle.std.proofs.lemmas.Option.{get_or_from_slice_get, slice_get_within}
use Rattle.kq_catalog_journal.specs.History.{History, Log, cursor, log, tables}
use Rattle.kq_catalog_journal.specs.Records.{schema_of}
use Rattle.kq_catalog_journal.proofs.Growing.{no_fewer_of, schema-go_on}
use Rattle.kq_catalog_journal.proofs.Histories.{log-append}
use Rattle.kq_catalog_journal.proofs.Places.{get-first}
use Rattle.kq_run_plan.specs.declared.outcome.Outcome.TheVariants as outcome
use Rattle.kq_run_plan.specs.Gives.{Gives}
use Rattle.kq_run_plan.specs.Outcomes.{Row}
use Rattle.kq_value.specs.declared.schema.Field.{Field}
use Rattle.kq_world.specs.Outside.{Put}
use Rattle.kq_export_ranges.specs.declared.range.ExportRange.{ExportRange}
use Rattle.kq_export_ranges.proofs.Ledgers.{last_push, other_ranges, own_ranges, turn_push}
use Rattle.kq_export_ranges.specs.Exported.{AreConsecutive, IsCommitted, IsDefined, IsExported, alone, rows_of_range}
use Rattle.kq_export_ranges.specs.Exports.{AreInTurn, ExportView, Exports, end_of, export_numbered, exported, last_end, no_exports, ranges_of}
use Rattle.kq_export_ranges.proofs.Names.{apart_push}
use Rattle.kq_export_ranges.proofs.Ranges.{rows-go_on}

pub got : {X : Type 0} (P : X → Type 0) (xs : List X) (n : ℕ) (x : X) → All P xs → slice_get xs n ≡ Some x → P x
got P xs n x all at = subst P (get_or_from_slice_get xs n x x at) (all n x (slice_get_within xs n x at))

all_later : {X : Type 0} (P Q : X → Type 0) (xs : List X) → ((x : X) → P x → Q x) → All P xs → All Q xs
all_later P Q xs f all = λ n d within. f _ (all n d within)

zip_later : {X Y : Type 0} (P Q : X → Y → Type 0) (xs : List X) (ys : List Y) → ((x : X) (y : Y) → P x y → Q x y) → AllZip P xs ys → AllZip Q xs ys
zip_later P Q [] [] f all = tt
zip_later P Q [] (y ∷ ys) f all = absurd all
zip_later P Q (x ∷ xs) [] f all = absurd all
zip_later P Q (x ∷ xs) (y ∷ ys) f all = (f x y all.0, zip_later P Q xs ys f all.1)

zip_push : {X Y : Type 0} (P : X → Y → Type 0) (xs : List X) (ys : List Y) (x : X) (y : Y) → AllZip P xs ys → P x y → AllZip P (xs ++ x ∷ []) (ys ++ y ∷ [])
zip_push P [] [] x y all here = (here, tt)
zip_push P [] (b ∷ ys) x y all here = absurd all
zip_push P (a ∷ xs) [] x y all here = absurd all
zip_push P (a ∷ xs) (b ∷ ys) x y all here = (all.0, zip_push P xs ys x y all.1 here)

-- ---- a longer history

IsDefined-later : (l more : Log) (e : ExportView) → IsDefined l e → IsDefined (l ++ more) e
IsDefined-later l more e is =
    let rest = schema-go_on l more e.table in
    let few = no_fewer_of l more in
    let stands = is.stands in
    record {
      stands = omega (arith, few, stands);
      more = is.more ++ rest.more;
      columns = rest.is ∙ ap (λ (fs : List Field). fs ++ rest.more) is.columns ∙ append_assoc e.columns is.more rest.more;
      fits = is.fits;
    }

pub width_within : (l : Log) (e : ExportView) → IsDefined l e → length e.columns ≤ length (schema_of l e.table)
width_within l e is = let long = ap length is.columns ∙ length-append e.columns is.more in omega (arith, long)

IsCommitted-later : (l more : Log) (defined : List ExportView) → All (IsDefined l) defined → (r : ExportRange) (p : Put) → IsCommitted l defined r p → IsCommitted (l ++ more) defined r p
IsCommitted-later l more defined all r p is =
    let e = is.export in
    let here = got (IsDefined l) defined r.export e all is.stands in
    let within = is.within in
    let same = rows-go_on l more e.table (length e.columns) r.above r.to (width_within l e here) within in
    record {
      export = e;
      stands = is.stands;
      within = let long = length-append l more in omega (arith, within, long);
      ordered = is.ordered;
      rows = is.rows;
      gives = subst (λ (rows : List Row). Gives e.body (alone e.source e.columns rows) (pos 0) (outcome.Table is.ordered is.rows)) (sym same) is.gives;
      named = is.named;
      bytes = is.bytes;
    }

IsExported-on : (h more : History) (x : Exports) (puts : List Put) → IsExported h x puts → IsExported (h ++ more) x puts
IsExported-on h more x puts is =
    let longer = log-append h more in
    let rise : cursor h ≤ cursor (h ++ more) = (let n = ap length longer ∙ length-append (log h) (log more) in omega (arith, n)) in
    record {
      defined = subst (λ (l : Log). All (IsDefined l) x.defined) (sym longer) (all_later (IsDefined (log h)) (IsDefined (log h ++ log more)) x.defined (IsDefined-later (log h) (log more)) is.defined);
      apart = is.apart;
      committed = subst (λ (l : Log). AllZip (IsCommitted l x.defined) x.ranges puts) (sym longer)
          (zip_later (IsCommitted (log h) x.defined) (IsCommitted (log h ++ log more) x.defined) x.ranges puts (IsCommitted-later (log h) (log more) x.defined is.defined) is.committed);
      ranges = λ n. let one = is.ranges n in let within = one.within in record { in_turn = one.in_turn; within = omega (arith, within, rise) };
    }

-- what is exported over a history is over each that goes on from it
pub IsExported-later : (h later : History) (x : Exports) (puts : List Put) → IsPrefix h later → IsExported h x puts → IsExported later x puts
IsExported-later h later x puts goes_on is = subst (λ (g : History). IsExported g x puts) goes_on.1 (IsExported-on h goes_on.0 x puts is)

-- ---- nothing yet

pub IsExported-none : (h : History) → IsExported h no_exports []
IsExported-none h = record { defined = All-nil (IsDefined (log h)); apart = λ i j d low within. absurd (omega (arith, within)); committed = tt; ranges = λ n. record { in_turn = tt; within = omega arith } }

-- ---- an export more

committed_more : (l : Log) (defined : List ExportView) (new : ExportView) (r : ExportRange) (p : Put) → IsCommitted l defined r p → IsCommitted l (defined ++ new ∷ []) r p
committed_more l defined new r p is = record {
  export = is.export;
  stands = get-first defined (new ∷ []) r.export (slice_get_within defined r.export is.export is.stands) ∙ is.stands;
  within = is.within;
  ordered = is.ordered;
  rows = is.rows;
  gives = is.gives;
  named = is.named;
  bytes = is.bytes;
}

all_push : {X : Type 0} (P : X → Type 0) (xs : List X) (x : X) → All P xs → P x → All P (xs ++ x ∷ [])
all_push P [] x all here = All-cons P x [] here (All-nil P)
all_push P (y ∷ xs) x all here = All-cons P y (xs ++ x ∷ []) (All-head P y xs all) (all_push P xs x (All-tail P y xs all) here)

pub IsExported-defined : (h : History) (x : Exports) (puts : List Put) (new : ExportView) → IsExported h x puts → export_numbered new.name x.defined ≡ None → IsDefined (log h) new → IsExported h (record x { defined = x.defined ++ new ∷ [] }) puts
IsExported-defined h x puts new is unknown here = record {
  defined = all_push (IsDefined (log h)) x.defined new is.defined here;
  apart = apart_push x.defined new is.apart unknown;
  committed = zip_later (IsCommitted (log h) x.defined) (IsCommitted (log h) (x.defined ++ new ∷ [])) x.ranges puts (committed_more (log h) x.defined new) is.committed;
  ranges = is.ranges;
}

-- an export that isn't there has no ranges
pub none_past : (l : Log) (defined : List ExportView) (rs : List ExportRange) (puts : List Put) (n : ℕ) → AllZip (IsCommitted l defined) rs puts → length defined ≤ n → ranges_of n rs ≡ []
none_past l defined [] puts n all past = refl
none_past l defined (r ∷ rs) [] n all past = absurd all
none_past l defined (r ∷ rs) (p ∷ puts) n all past =
    let within = slice_get_within defined r.export all.0.export all.0.stands in
    ap (λ (b : Bool). cond b (r ∷ ranges_of n rs) (ranges_of n rs)) (ne_eqb r.export n (λ same. absurd (omega (arith, same, within, past)))) ∙ none_past l defined rs puts n all.1 past

-- ---- a range more

module _ (h : History) (x : Exports) (n to : ℕ) (ahead : end_of n x < to) (up : to ≤ cursor h) where
  abbrev next : ExportRange
  next = record { export = n; above = end_of n x; to = to }

  consecutive : (k : ℕ) → AreConsecutive h (ranges_of k x.ranges) → AreConsecutive h (ranges_of k (exported x n to).ranges)
  consecutive k is = by_test (eqb_tells n k)
    where
      by_test : ((nat_eq n k ≡ true) × (n ≡ k)) ⊎ ((nat_eq n k ≡ false) × (n ≡ k → ⊥)) → AreConsecutive h (ranges_of k (x.ranges ++ next ∷ []))
      by_test (inl same) =
          let from : next.above ≡ last_end 0 (ranges_of k x.ranges) = ap (λ (m : ℕ). end_of m x) same.1 in
          subst (AreConsecutive h) (sym (own_ranges k x.ranges next same.1)) (record {
            in_turn = turn_push 0 (ranges_of k x.ranges) next is.in_turn from ahead;
            within = let last = last_push 0 (ranges_of k x.ranges) next in omega (arith, last, up);
          })
      by_test (inr other) = subst (AreConsecutive h) (sym (other_ranges k x.ranges next other.1)) is

  pub IsExported-range : (puts : List Put) (p : Put) → IsExported h x puts → IsCommitted (log h) x.defined next p → IsExported h (exported x n to) (puts ++ p ∷ [])
  IsExported-range puts p is here = record {
    defined = is.defined;
    apart = is.apart;
    committed = zip_push (IsCommitted (log h) x.defined) x.ranges puts next p is.committed here;
    ranges = λ k. consecutive k (is.ranges k);
  }
