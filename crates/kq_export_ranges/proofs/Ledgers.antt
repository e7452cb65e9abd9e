-- A range more, and which of them holds a cursor.
use Rattle.std.proofs.Common.{◌≡◌, ◌≤◌, ◌<◌, ◌+◌, ◌⊎◌, inl, inr, refl, ℕ, Bool, true, false, cond, List, [], ◌∷◌, ◌++◌, All, length-append, nat_eq, nat_lt, ap, sym, ◌∙◌, subst, arith, append-nil}
use Rattle.std.proofs.lemmas.Bool.{eq-eqb, ltb-false, ltb-true, ne_eqb}
use Rattle.std.proofs.lemmas.Bool.Decides.{eqb_tells}
use Rattle.std.proofs.lemmas.List.Elements.{All-cons, All-nil, filter-append}
use Rattle.kq_world.specs.Outside.{Put}
use Rattle.kq_export_ranges.specs.declared.range.ExportRange.{ExportRange}
use Rattle.kq_export_ranges.specs.Ledgers.{IsKept}
use Rattle.kq_export_ranges.specs.Ranges.{AreInTurn, Holds, InOne, end_in, last_end, ranges_of}

pub turn_push : (at : ℕ) (rs : List ExportRange) (r : ExportRange) → AreInTurn at rs → r.above ≡ last_end at rs → r.above < r.to → AreInTurn at (rs ++ r ∷ [])
turn_push at [] r all from to = (from, omega (arith, from, to), tt)
turn_push at (x ∷ rs) r all from to = (all.0, all.1, turn_push x.to rs r all.2 from to)

pub last_push : (at : ℕ) (rs : List ExportRange) (r : ExportRange) → last_end at (rs ++ r ∷ []) ≡ r.to
last_push at [] r = refl
last_push at (x ∷ rs) r = last_push x.to rs r

pub own_ranges : (n : ℕ) (rs : List ExportRange) (r : ExportRange) → r.export ≡ n → ranges_of n (rs ++ r ∷ []) ≡ ranges_of n rs ++ r ∷ []
own_ranges n rs r own = filter-append (λ (x : ExportRange). nat_eq x.export n) rs (r ∷ []) ∙ ap (λ (b : Bool). ranges_of n rs ++ cond b (r ∷ []) []) (eq-eqb r.export n own)

pub other_ranges : (n : ℕ) (rs : List ExportRange) (r : ExportRange) → (r.export ≡ n → ⊥) → ranges_of n (rs ++ r ∷ []) ≡ ranges_of n rs
other_ranges n rs r other = filter-append (λ (x : ExportRange). nat_eq x.export n) rs (r ∷ []) ∙ ap (λ (b : Bool). ranges_of n rs ++ cond b (r ∷ []) []) (ne_eqb r.export n other) ∙ append-nil (ranges_of n rs)

in_turn_more : (rs : List ExportRange) (r : ExportRange) → r.above ≡ end_in r.export rs → r.above < r.to → (k : ℕ) → AreInTurn 0 (ranges_of k rs) → AreInTurn 0 (ranges_of k (rs ++ r ∷ []))
in_turn_more rs r from ahead k is = by_test (eqb_tells r.export k)
  where
    by_test : ((nat_eq r.export k ≡ true) × (r.export ≡ k)) ⊎ ((nat_eq r.export k ≡ false) × (r.export ≡ k → ⊥)) → AreInTurn 0 (ranges_of k (rs ++ r ∷ []))
    by_test (inl same) = subst (AreInTurn 0) (sym (own_ranges k rs r same.1)) (turn_push 0 (ranges_of k rs) r is (from ∙ ap (λ (m : ℕ). end_in m rs) same.1) ahead)
    by_test (inr other) = subst (AreInTurn 0) (sym (other_ranges k rs r other.1)) is

-- one range more and one artefact more
pub kept_more : (rs : List ExportRange) (puts : List Put) (r : ExportRange) (p : Put) → IsKept rs puts → r.above ≡ end_in r.export rs → r.above < r.to → IsKept (rs ++ r ∷ []) (puts ++ p ∷ [])
kept_more rs puts r p is from ahead = record {
  in_turn = λ k. in_turn_more rs r from ahead k (is.in_turn k);
  one_each = length-append puts (p ∷ []) ∙ ap (λ (n : ℕ). n + 1) is.one_each ∙ sym (length-append rs (r ∷ []));
}

pub kept_none : IsKept [] []
kept_none = record { in_turn = λ n. tt; one_each = refl }

-- ---- which range holds a cursor

later_ranges : (c at : ℕ) (rs : List ExportRange) → AreInTurn at rs → c ≤ at → All (λ (r : ExportRange). Holds c r → ⊥) rs
later_ranges c at [] all low = All-nil (λ (r : ExportRange). Holds c r → ⊥)
later_ranges c at (r ∷ rs) all low =
    All-cons (λ (q : ExportRange). Holds c q → ⊥) r rs (λ holds. let a = holds.0 in let b = all.0 in absurd (omega (arith, a, b, low))) (later_ranges c r.to rs all.2 (let b = all.1 in omega (arith, b, low)))

pub in_one : (c at : ℕ) (rs : List ExportRange) → AreInTurn at rs → at < c → c ≤ last_end at rs → InOne c rs
in_one c at [] all low high = absurd (omega (arith, low, high))
in_one c at (r ∷ rs) all low high = by_order (side c r.to) (λ past. in_one c r.to rs all.2 past high)
  where
    side : (m k : ℕ) → (m ≤ k) ⊎ (k < m)
    side m k = decide (nat_lt k m) refl
      where
        decide : (b : Bool) → nat_lt k m ≡ b → (m ≤ k) ⊎ (k < m)
        decide true e = inr (ltb-true k m e)
        decide false e = inl (ltb-false k m e)

    by_order : (c ≤ r.to) ⊎ (r.to < c) → (r.to < c → InOne c rs) → InOne c (r ∷ rs)
    by_order (inl here) on = record {
      before = [];
      one = r;
      behind = rs;
      parts = refl;
      holds = (let from = all.0 in omega (arith, from, low), here);
      not_before = All-nil (λ (q : ExportRange). Holds c q → ⊥);
      not_behind = later_ranges c r.to rs all.2 here;
    }
    by_order (inr past) on =
        let rest = on past in
        record {
          before = r ∷ rest.before;
          one = rest.one;
          behind = rest.behind;
          parts = ap (λ (l : List ExportRange). r ∷ l) rest.parts;
          holds = rest.holds;
          not_before = All-cons (λ (q : ExportRange). Holds c q → ⊥) r rest.before (λ holds. let high_end = holds.1 in absurd (omega (arith, high_end, past))) rest.not_before;
          not_behind = rest.not_behind;
        }
