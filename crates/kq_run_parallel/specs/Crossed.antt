-- That a value may be shared by threads is shown in one way at most.
use mathlib.Core.HLevel.{×_prop, Π_prop, Unit-prop, ⊥_prop}
use base.Fml.{Fml, ftrue, ffalse, feq, flt, fsep, fand, for, fwand, fex, fall, fupd, fhide, fat, froom, fleft, fdies, flft, fdead, fobs, fauth, fres, fown, fbor, fobor, flent, fshr_bor, finv, fnamed, ftok, fkid, fme, fsent}
use base.Shift.{Keyless}
use denote.Param.Send.{IsSync}
use denote.RattleType.{RattleType}

keyless_once : (P : Fml) → IsProp (Keyless P)
keyless_once ftrue = Unit-prop
keyless_once ffalse = Unit-prop
keyless_once (feq d x y) = Unit-prop
keyless_once (flt m n) = Unit-prop
keyless_once (fat q τ b o v) = Unit-prop
keyless_once (froom τ b o) = Unit-prop
keyless_once (fleft q ω τs b o) = Unit-prop
keyless_once (fdies τ b) = Unit-prop
keyless_once (flft κ q) = Unit-prop
keyless_once (fdead κ) = Unit-prop
keyless_once (fobs γ x) = Unit-prop
keyless_once (fauth γ x) = Unit-prop
keyless_once (fres γ x) = Unit-prop
keyless_once (fown R γ x) = Unit-prop
keyless_once (fsep P Q) = ×_prop (keyless_once P) (keyless_once Q)
keyless_once (fand P Q) = ×_prop (keyless_once P) (keyless_once Q)
keyless_once (for P Q) = ×_prop (keyless_once P) (keyless_once Q)
keyless_once (fwand P Q) = ×_prop (keyless_once P) (keyless_once Q)
keyless_once (fupd P) = keyless_once P
keyless_once (fhide P) = keyless_once P
keyless_once (fbor κ P) = keyless_once P
keyless_once (fobor κ q P) = keyless_once P
keyless_once (flent κ P) = keyless_once P
keyless_once (finv P) = keyless_once P
keyless_once (fnamed nm P) = keyless_once P
keyless_once (fex X F) = Π_prop λ x. keyless_once (F x)
keyless_once (fall X F) = Π_prop λ x. keyless_once (F x)
keyless_once (fshr_bor κ Φ) = Π_prop λ q. keyless_once (Φ q)
keyless_once (ftok E) = ⊥_prop
keyless_once (fkid h a) = ⊥_prop
keyless_once (fme h) = ⊥_prop
keyless_once (fsent E) = Unit-prop

pub sync_once : (R : RattleType) → IsProp (IsSync R)
sync_once R p q = λ i. record { shared = λ x b o κ. keyless_once (R.shr_at x b o κ) (p.shared x b o κ) (q.shared x b o κ) i }
