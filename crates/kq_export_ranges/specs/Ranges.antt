-- Ranges of cursors.
use Rattle.std.specs.Prelude.{◌≡◌, ◌<◌, ◌≤◌, ℕ, List, [], ◌∷◌, ◌++◌, All, nat_eq}
use Rattle.std.specs.List.{filter}
use Rattle.kq_export_ranges.specs.declared.range.ExportRange.{ExportRange}

-- the ranges of one export, by its number
abbrev pub ranges_of : ℕ → List ExportRange → List ExportRange
ranges_of n = filter (λ (r : ExportRange). nat_eq r.export n)

-- where the last of them ends, or the cursor before the first
abbrev pub last_end : ℕ → List ExportRange → ℕ
last_end at [] = at
last_end at (r ∷ rs) = last_end r.to rs

-- the cursor up to which an export has exported
abbrev pub end_in : ℕ → List ExportRange → ℕ
end_in n rs = last_end 0 (ranges_of n rs)

-- each begins where the one before it ends, and none is empty
abbrev pub AreInTurn : ℕ → List ExportRange → Type 0
AreInTurn at [] = Unit {0}
AreInTurn at (r ∷ rs) = (r.above ≡ at) × (at < r.to) × AreInTurn r.to rs

-- the cursor lies in the range
abbrev pub Holds : ℕ → ExportRange → Type 0
Holds c r = (r.above < c) × (c ≤ r.to)

-- of consecutive ranges exactly one holds a cursor up to the last end: the ranges before it and behind it don't
pub record InOne (c : ℕ) (rs : List ExportRange) : Type 0 where
  pub before : List ExportRange
  pub one : ExportRange
  pub behind : List ExportRange
  pub parts : rs ≡ before ++ one ∷ behind
  pub holds : Holds c one
  pub not_before : All (λ (r : ExportRange). Holds c r → ⊥) before
  pub not_behind : All (λ (r : ExportRange). Holds c r → ⊥) behind
