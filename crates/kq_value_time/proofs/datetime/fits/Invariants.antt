use Rattle.std.proofs.Common.{◌≡◌, drop}
use Rattle.kq_value_formats.specs.Datetimes.{fits}
use Rattle.kq_value_time.proofs.datetime.fits.Given as goal

abbrev pub invariant-loop-place : goal.invariant-loop-place
invariant-loop-place l = fits (drop l.place l.form) (drop l.place l.text) ≡ fits l.form l.text
