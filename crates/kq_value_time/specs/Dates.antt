-- The dates of `jiff`.
use Rattle.std.specs.Prelude.{◌≡◌, pos, unsigned_abs}
use Rattle.jiff_core.specs.declared.civil.date.Date.{Date}
use Rattle.kq_value_formats.specs.Civil.{Civil}

-- d is the date c
abbrev pub HasDate : Date → Civil → Type 0
HasDate d c = (d.year ≡ pos c.year) × (d.month ≡ c.month) × (d.day ≡ c.day)

-- a date of `jiff` of the year 0 or later
abbrev pub civil_of : Date → Civil
civil_of d = record { year = unsigned_abs d.year; month = d.month; day = d.day }
