-- The records of extents that have a later one.
use Rattle.std.proofs.Common.{◌≡◌, ◌<◌, ◌≤◌, ◌+◌, ℕ, Bool, true, false, cond, List, [], ◌∷◌, ◌++◌, length, map, take, drop, get_or, refl, sym, ap, ◌∙◌, arith, append-nil, length-append}
use Rattle.std.specs.List.{All, Contains, filter, list_any}
use Rattle.std.specs.Prelude.{nat_lt}
use Rattle.std.proofs.lemmas.Bool.{le-ltb, lt-ltb, ltb-false, ltb-true}
use Rattle.std.proofs.lemmas.List.{get_or-map, length-map, take-append-drop, take_more}
use Rattle.std.proofs.lemmas.List.Concat.{flat_map-append}
use Rattle.std.proofs.lemmas.List.Elements.{filter-append}
use Rattle.std.proofs.lemmas.List.Folds.{list_any_at, list_any_none}
use Rattle.kq_store_column.specs.Bounds.{AreBounds}
use Rattle.kq_store_extent.specs.Cells.{cursor_of, cursors_of}
use Rattle.kq_store_extent.specs.Seen.{ExtentView, id_of, records_in}
use Rattle.kq_value.specs.declared.record.Record.{Record}
use Rattle.kq_run_scan.specs.Ranges.{count_read, is_later}

-- ---- by the greatest cursor

at_cursor : ℕ → Record
at_cursor n = record { id = record { cursor = n; ordinal = 0 }; row = [] }

cursor_at : (rs : List Record) (k n : ℕ) → k < length rs → get_or (cursors_of rs) k n ≡ (get_or rs k (at_cursor n)).id.cursor
cursor_at rs k n within =
    let m = length-map rs id_of in
    get_or-map cursor_of (map id_of rs) k (at_cursor n).id n (omega (arith, within, m)) ∙ ap cursor_of (get_or-map id_of rs k (at_cursor n) (at_cursor n).id within)

within_cursors : (rs : List Record) (k : ℕ) → k < length (cursors_of rs) → k < length rs
within_cursors rs k h = let m = length-map rs id_of in let n = length-map (map id_of rs) cursor_of in omega (arith, h, m, n)

module _ (above greatest : ℕ) (rs : List Record) where
  abbrev Later : Record → Bool
  Later r = nat_lt above r.id.cursor

  some_later : above < greatest → Contains (cursors_of rs) greatest → list_any Later rs ≡ true
  some_later less (k, within, is) =
      let here = within_cursors rs k within in
      list_any_at Later rs k (at_cursor greatest) here (ap (nat_lt above) (sym (cursor_at rs k greatest here) ∙ is) ∙ lt-ltb above greatest less)

  none_later : greatest ≤ above → All (λ n. n ≤ greatest) (cursors_of rs) → list_any Later rs ≡ false
  none_later most all =
      list_any_none Later rs (λ k d h.
      let m = length-map rs id_of in
      let n = length-map (map id_of rs) cursor_of in
      let is : get_or (cursors_of rs) k 0 ≡ (get_or rs k d).id.cursor = get_or-map cursor_of (map id_of rs) k d.id 0 (omega (arith, h, m)) ∙ ap cursor_of (get_or-map id_of rs k d d.id h) in
      let below = all k 0 (omega (arith, h, m, n)) in
      le-ltb above (get_or rs k d).id.cursor (omega (arith, below, most, is)))

  pub later_by_greatest : (least : ℕ) → AreBounds ◌≤◌ (cursors_of rs) least greatest → nat_lt above greatest ≡ list_any Later rs
  later_by_greatest least bounds = by_test (nat_lt above greatest) refl
    where
      by_test : (b : Bool) → nat_lt above greatest ≡ b → b ≡ list_any Later rs
      by_test true holds = sym (some_later (ltb-true above greatest holds) bounds.greatest_stands)
      by_test false fails = sym (none_later (ltb-false above greatest fails) bounds.none_above)

-- ---- extents one after another

read_so : (above : ℕ) (e : ExtentView) (b : Bool) → is_later above e ≡ b → count_read above (e ∷ []) ≡ length (records_in (cond b (e ∷ []) []))
read_so above e b is = ap (λ (c : Bool). length (records_in (cond c (e ∷ []) []))) is

pub read_later : (above : ℕ) (e : ExtentView) → is_later above e ≡ true → length e.records ≡ count_read above (e ∷ [])
read_later above e holds = ap length (sym (append-nil e.records)) ∙ sym (read_so above e true holds)

pub read_none : (above : ℕ) (e : ExtentView) → is_later above e ≡ false → 0 ≡ count_read above (e ∷ [])
read_none above e fails = sym (read_so above e false fails)

count_read-append : (above : ℕ) (xs ys : List ExtentView) → count_read above (xs ++ ys) ≡ count_read above xs + count_read above ys
count_read-append above xs ys =
    ap (λ (es : List ExtentView). length (records_in es)) (filter-append (is_later above) xs ys)
    ∙ ap length (flat_map-append (λ (e : ExtentView). e.records) (filter (is_later above) xs) (filter (is_later above) ys))
    ∙ length-append (records_in (filter (is_later above) xs)) (records_in (filter (is_later above) ys))

-- no more than there are
pub count_read-most : (above : ℕ) (es : List ExtentView) → count_read above es ≤ length (records_in es)
count_read-most above [] = omega arith
count_read-most above (e ∷ es) =
    let a = one (is_later above e) refl in
    let b = count_read-most above es in
    let c = count_read-append above (e ∷ []) es in
    let d = length-append e.records (records_in es) in
    omega (arith, a, b, c, d)
  where
    one : (b : Bool) → is_later above e ≡ b → count_read above (e ∷ []) ≤ length e.records
    one true holds = let h = read_later above e holds in omega (arith, h)
    one false fails = let h = read_none above e fails in omega (arith, h)

pub count_read-next : (above : ℕ) (es : List ExtentView) (i : ℕ) (e : ExtentView) → i < length es → get_or es i e ≡ e → count_read above (take (i + 1) es) ≡ count_read above (take i es) + count_read above (e ∷ [])
count_read-next above es i e within is =
    ap (count_read above) (take_more es i e within ∙ ap (λ (x : ExtentView). take i es ++ x ∷ []) is) ∙ count_read-append above (take i es) (e ∷ [])

pub count_read-first : (above n : ℕ) (es : List ExtentView) → count_read above (take n es) ≤ length (records_in es)
count_read-first above n es =
    let a = count_read-most above es in
    let b = ap (count_read above) (take-append-drop n es) in
    let c = count_read-append above (take n es) (drop n es) in
    omega (arith, a, b, c)
