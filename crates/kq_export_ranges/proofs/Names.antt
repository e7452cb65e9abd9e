-- The name of an artefact tells its export and its range, so no two ranges have artefacts of one name.
use Rattle.std.proofs.Common.{◌≡◌, ◌≢◌, ◌<◌, ◌≤◌, ◌+◌, ◌^◌, ◌⊎◌, inl, inr, refl, ℕ, Bool, true, false, cond, List, [], ◌∷◌, ◌++◌, All, AllPairs, length, nat_eq, nat_lt, drop, get_or, Option, Some, None, ap, sym, ◌∙◌, subst, arith, append_assoc, codes, decimal, position}
use Rattle.std.specs.List.{AllZip, position_or_len, slice_get}
use Rattle.std.specs.Cmp.Lexicographic.{other_text}
use Rattle.std.specs.Str.Parse.{AllDigits}
use Rattle.std.proofs.lemmas.Bool.{cases_lt, eq-eqb, ltb-false, ne_eqb}
use Rattle.std.proofs.lemmas.Bool.Decides.{eqb_tells}
use Rattle.std.proofs.lemmas.Fmt.{decimal_injective, decimal_is_IsNumeral}
use Rattle.std.proofs.lemmas.List.{append_cancel_right}
use Rattle.std.proofs.lemmas.List.Elements.{All-cons, All-nil}
use Rattle.std.proofs.lemmas.List.Kept.{AllPairs-cons}
use Rattle.std.proofs.lemmas.List.Quantifiers.{all_pairs_push}
use Rattle.std.proofs.lemmas.List.Sums.{fails_before_first}
use Rattle.std.proofs.lemmas.Option.{get_or_from_slice_get, slice_get_within}
use Rattle.std.proofs.lemmas.Str.Parse.{digit_from_value}
use Rattle.kq_catalog_journal.specs.History.{Log}
use Rattle.kq_export_ranges.specs.declared.range.ExportRange.{ExportRange}
use Rattle.kq_world.specs.Outside.{Put}
use Rattle.kq_export_ranges.specs.Exported.{AreApart, IsCommitted}
use Rattle.kq_export_ranges.specs.Exports.{AreInTurn, ExportView, artefact_name, export_numbered, is_named, ranges_of}

-- ---- a name is read from its end

no_dash : (ys es : List ℕ) → AllDigits 10 (ys ++ 45 ∷ es) → ⊥
no_dash [] es all = omega (arith, digit_from_value 45 all.0)
no_dash (y ∷ ys) es all = no_dash ys es all.1

-- behind the last dash there are only digits
last_dash : (xs ys ds es : List ℕ) → AllDigits 10 ds → AllDigits 10 es → xs ++ 45 ∷ ds ≡ ys ++ 45 ∷ es → (xs ≡ ys) × (ds ≡ es)
last_dash [] [] ds es digits others same = (refl, ap (drop 1) same)
last_dash [] (y ∷ ys) ds es digits others same = absurd (no_dash ys es (subst (AllDigits 10) (ap (drop 1) same) digits))
last_dash (x ∷ xs) [] ds es digits others same = absurd (no_dash xs ds (subst (AllDigits 10) (sym (ap (drop 1) same)) others))
last_dash (x ∷ xs) (y ∷ ys) ds es digits others same =
    let rest = last_dash xs ys ds es digits others (ap (drop 1) same) in
    let head : x ≡ y = ap (λ (l : List ℕ). get_or l 0 0) same in
    (ap (λ (l : List ℕ). x ∷ l) rest.0 ∙ ap (λ (n : ℕ). n ∷ ys) head, rest.1)

digits_of : (n : ℕ) → n < 2 ^ 64 → AllDigits 10 (decimal n)
digits_of n within = (decimal_is_IsNumeral n within).0.1

-- two artefacts of one name are of one export and of one range
pub one_name : (name other : List ℕ) (above from to last : ℕ) → above < to → to < 2 ^ 64 → from < last → last < 2 ^ 64
    → artefact_name name above to ≡ artefact_name other from last → (name ≡ other) × (above ≡ from) × (to ≡ last)
one_name name other above from to last ahead fits behind room same =
    let front = (name ++ codes "-") ++ decimal (above + 1) in
    let other_front = (other ++ codes "-") ++ decimal (from + 1) in
    let whole : (front ++ codes "-") ++ decimal to ≡ (other_front ++ codes "-") ++ decimal last = append_cancel_right ((front ++ codes "-") ++ decimal to) ((other_front ++ codes "-") ++ decimal last) (codes ".csv") same in
    let ends = last_dash front other_front (decimal to) (decimal last) (digits_of to fits) (digits_of last room)
    (sym (append_assoc front (codes "-") (decimal to)) ∙ whole ∙ append_assoc other_front (codes "-") (decimal last)) in
    let low : above + 1 < 2 ^ 64 = omega (arith, ahead, fits) in
    let high : from + 1 < 2 ^ 64 = omega (arith, behind, room) in
    let begins = last_dash name other (decimal (above + 1)) (decimal (from + 1)) (digits_of (above + 1) low) (digits_of (from + 1) high)
    (sym (append_assoc name (codes "-") (decimal (above + 1))) ∙ ends.0 ∙ append_assoc other (codes "-") (decimal (from + 1))) in
    let first = decimal_injective (above + 1) (from + 1) low high begins.1 in
    (begins.0, omega (arith, first), decimal_injective to last fits room ends.1)

-- ---- an export of a new name

unnamed : (name : List ℕ) (es : List ExportView) → export_numbered name es ≡ None → (k : ℕ) (d : ExportView) → k < length es → is_named name (get_or es k d) ≡ false
unnamed name es none k d within = fails_before_first (is_named name) es k d (let all = past (nat_lt at (length es)) refl none in omega (arith, within, all))
  where
    at : ℕ
    at = position_or_len (is_named name) es

    past : (b : Bool) → nat_lt at (length es) ≡ b → cond b (Some at) None ≡ None → length es ≤ at
    past true e is = absurd cc
    past false e is = ltb-false at (length es) e

pub apart_push : (es : List ExportView) (new : ExportView) → AreApart es → export_numbered new.name es ≡ None → AreApart (es ++ new ∷ [])
apart_push es new is none =
    all_pairs_push (λ (e f : ExportView). e.name ≢ f.name) es new is (λ k d within. other_text (get_or es k d).name new.name (sym (unnamed new.name es none k d within)))

-- two exports of one name have one number
one_number : (es : List ExportView) (n m : ℕ) (e f : ExportView) → AreApart es → slice_get es n ≡ Some e → slice_get es m ≡ Some f → e.name ≡ f.name → n ≢ m → ⊥
one_number es n m e f apart at there same differ = by_order (cases_lt n m) (cases_lt m n)
  where
    first : get_or es n e ≡ e
    first = get_or_from_slice_get es n e e at

    second : get_or es m e ≡ f
    second = get_or_from_slice_get es m f e there

    by_order : (n < m) ⊎ (m ≤ n) → (m < n) ⊎ (n ≤ m) → ⊥
    by_order (inl low) other = apart n m e low (slice_get_within es m f there) (ap (λ (x : ExportView). x.name) first ∙ same ∙ ap (λ (x : ExportView). x.name) (sym second))
    by_order (inr up) (inl high) = apart m n e high (slice_get_within es n e at) (ap (λ (x : ExportView). x.name) second ∙ sym same ∙ ap (λ (x : ExportView). x.name) (sym first))
    by_order (inr up) (inr down) = differ (omega (arith, up, down))

-- ---- ranges that are in turn, from wherever they begin

abbrev Turns : List ExportRange → Type 0
Turns rs = (n : ℕ) → (at : ℕ) × AreInTurn at (ranges_of n rs)

own_turn : (s : ExportRange) (rs : List ExportRange) (n at : ℕ) → s.export ≡ n → AreInTurn at (ranges_of n (s ∷ rs)) → AreInTurn at (s ∷ ranges_of n rs)
own_turn s rs n at own is = subst (λ (b : Bool). AreInTurn at (cond b (s ∷ ranges_of n rs) (ranges_of n rs))) (eq-eqb s.export n own) is

other_turn : (s : ExportRange) (rs : List ExportRange) (n at : ℕ) → (s.export ≡ n → ⊥) → AreInTurn at (ranges_of n (s ∷ rs)) → AreInTurn at (ranges_of n rs)
other_turn s rs n at other is = subst (λ (b : Bool). AreInTurn at (cond b (s ∷ ranges_of n rs) (ranges_of n rs))) (ne_eqb s.export n other) is

-- what holds of a first range, and of those behind it
ahead_of : (s : ExportRange) (rs : List ExportRange) → Turns (s ∷ rs) → s.above < s.to
ahead_of s rs turns = let t = turns s.export in let own = own_turn s rs s.export t.0 refl t.1 in let a = own.0 in let b = own.1 in omega (arith, a, b)

turns_behind : (s : ExportRange) (rs : List ExportRange) → Turns (s ∷ rs) → Turns rs
turns_behind s rs turns n = by_test (eqb_tells s.export n) (turns n)
  where
    by_test : ((nat_eq s.export n ≡ true) × (s.export ≡ n)) ⊎ ((nat_eq s.export n ≡ false) × (s.export ≡ n → ⊥)) → (at : ℕ) × AreInTurn at (ranges_of n (s ∷ rs)) → (at : ℕ) × AreInTurn at (ranges_of n rs)
    by_test (inl same) t = (s.to, (own_turn s rs n t.0 same.1 t.1).2)
    by_test (inr other) t = (t.0, other_turn s rs n t.0 other.1 t.1)

-- the ranges of an export that begin no earlier than a cursor
abbrev From : ℕ → ℕ → List ExportRange → Type 0
From n low rs = (at : ℕ) × (low ≤ at) × AreInTurn at (ranges_of n rs)

from_behind : (s : ExportRange) (rs : List ExportRange) (n low : ℕ) → From n low (s ∷ rs) → From n low rs
from_behind s rs n low from = by_test (eqb_tells s.export n)
  where
    by_test : ((nat_eq s.export n ≡ true) × (s.export ≡ n)) ⊎ ((nat_eq s.export n ≡ false) × (s.export ≡ n → ⊥)) → From n low rs
    by_test (inl same) =
        let own = own_turn s rs n from.0 same.1 from.2 in
        let a = own.1 in
        let b = from.1 in
        (s.to, omega (arith, a, b), own.2)
    by_test (inr other) = (from.0, from.1, other_turn s rs n from.0 other.1 from.2)

-- ---- what was put

abbrev Differ : Put → Put → Type 0
Differ p q = p.name ≢ q.name

module _ (l : Log) (defined : List ExportView) (apart : AreApart defined) (fits : length l < 2 ^ 64) where
  -- a later range has an artefact of another name
  one_differs : (r s : ExportRange) (p q : Put) (rs : List ExportRange) → IsCommitted l defined r p → IsCommitted l defined s q → r.above < r.to → Turns (s ∷ rs) → From r.export r.to (s ∷ rs) → p.name ≡ q.name → ⊥
  one_differs r s p q rs is later ahead turns from same = by_test (eqb_tells s.export r.export)
    where
      parts : (is.export.name ≡ later.export.name) × (r.above ≡ s.above) × (r.to ≡ s.to)
      parts =
          let room = is.within in
          let space = later.within in
          one_name is.export.name later.export.name r.above s.above r.to s.to ahead (omega (arith, room, fits)) (ahead_of s rs turns) (omega (arith, space, fits)) (sym is.named ∙ same ∙ later.named)

      by_test : ((nat_eq s.export r.export ≡ true) × (s.export ≡ r.export)) ⊎ ((nat_eq s.export r.export ≡ false) × (s.export ≡ r.export → ⊥)) → ⊥
      by_test (inl own) =
          let turn = own_turn s rs r.export from.0 own.1 from.2 in
          let begins = turn.0 in
          let low = from.1 in
          let above = parts.1 in
          omega (arith, begins, low, above, ahead)
      by_test (inr other) = one_number defined s.export r.export later.export is.export apart later.stands is.stands (sym parts.0) other.1

  later_differ : (r : ExportRange) (p : Put) (rs : List ExportRange) (puts : List Put) → IsCommitted l defined r p → AllZip (IsCommitted l defined) rs puts → r.above < r.to → Turns rs → From r.export r.to rs → All (Differ p) puts
  later_differ r p [] [] is all ahead turns from = All-nil (Differ p)
  later_differ r p [] (q ∷ puts) is all ahead turns from = absurd all
  later_differ r p (s ∷ rs) [] is all ahead turns from = absurd all
  later_differ r p (s ∷ rs) (q ∷ puts) is all ahead turns from =
      All-cons (Differ p) q puts (one_differs r s p q rs is all.0 ahead turns from)
      (later_differ r p rs puts is all.1 ahead (turns_behind s rs turns) (from_behind s rs r.export r.to from))

  -- all artefacts have different names
  pub put_once : (rs : List ExportRange) (puts : List Put) → AllZip (IsCommitted l defined) rs puts → Turns rs → AllPairs Differ puts
  put_once [] [] all turns = λ i j d low within. absurd (omega (arith, within))
  put_once [] (p ∷ puts) all turns = absurd all
  put_once (r ∷ rs) [] all turns = absurd all
  put_once (r ∷ rs) (p ∷ puts) all turns =
      let t = turns r.export in
      let own = own_turn r rs r.export t.0 refl t.1 in
      AllPairs-cons Differ p puts (later_differ r p rs puts all.0 all.1 (ahead_of r rs turns) (turns_behind r rs turns) (r.to, omega arith, own.2)) (put_once rs puts all.1 (turns_behind r rs turns))
