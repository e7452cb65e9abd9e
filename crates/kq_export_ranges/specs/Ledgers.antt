-- What was put for ranges.
use Rattle.std.specs.Prelude.{◌≡◌, ℕ, List, [], ◌∷◌, ◌++◌, length, Result, Ok, Err}
use Rattle.kq_world.specs.Outside.{Put}
use Rattle.kq_export_ranges.specs.declared.range.ExportRange.{ExportRange}
use Rattle.kq_export_ranges.specs.Ranges.{AreInTurn, ranges_of}

pub record LedgerView : Type 0 where
  pub ranges : List ExportRange
  pub puts : List Put
  pub faults : ℕ

-- the ranges of each export are consecutive from cursor 0 on, and one artefact was put for each
pub record IsKept (ranges : List ExportRange) (puts : List Put) : Type 0 where
  pub in_turn : (n : ℕ) → AreInTurn 0 (ranges_of n ranges)
  pub one_each : length puts ≡ length ranges

-- `Ok` is one range more, and the artefact that was put for it. `Err` leaves both
abbrev pub Commits : {T E : Type 0} → LedgerView → LedgerView → Result T E → ExportRange → List ℕ → List ℕ → Type 0
Commits old new (Ok x) range name bytes = (new.ranges ≡ old.ranges ++ range ∷ []) × (new.puts ≡ old.puts ++ record { name = name; bytes = bytes } ∷ [])
Commits old new (Err e) range name bytes = (new.ranges ≡ old.ranges) × (new.puts ≡ old.puts)
