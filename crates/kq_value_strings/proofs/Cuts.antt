-- What makes a cut.
use Rattle.std.proofs.Common.{◌≡◌, ℕ, ◌+◌, ◌-◌, ◌<◌, ◌≤◌, max, arith}
use Rattle.memchr.specs.Critical.{IsCutPlace}
use Rattle.memchr.specs.TwoWay.{IsCut}
use Rattle.memchr.specs.declared.arch.all.twoway.Shift.TheVariants.{Large, Small}
use Rattle.memchr.proofs.lemmas.CriticalLemmas.{IsCut-wide, IsCut-long, IsCut-small}
use Rattle.memchr.proofs.lemmas.SearchLemmas.{IsShift-large, IsShift-small}
use Rattle.kq_value_strings.specs.Cut.{IsCutOf}

module _ (x : ℕ → ℕ) (m c : ℕ) where
  -- after a long shift nothing is known
  from_large : (s : ℕ) → IsCut x m c (Large s) → IsCutOf x m (record { critical = c; shift = s; known = 0 })
  from_large s cut =
      let parts = IsShift-large c cut.shifts in
      record {
        inside = cut.below;
        critical = cut.critical;
        moves = parts.0;
        fits = omega (arith, parts.1);
        least = parts.2;
        compared = λ k h. absurd (omega arith);
        repeats = λ k h. absurd (omega arith);
      }

  -- after a period the rest of the part is known
  from_small : (p : ℕ) → IsCut x m c (Small p) → IsCutOf x m (record { critical = c; shift = p; known = m - p })
  from_small p cut =
      let parts = IsShift-small c cut.shifts in
      let after = parts.1 in
      let fits = parts.2 in
      record {
        inside = cut.below;
        critical = cut.critical;
        moves = parts.0;
        fits = omega arith;
        least = parts.4;
        compared = λ k h. omega arith;
        repeats = λ k h. parts.3 k (omega arith);
      }

  module _ (per : ℕ) (place : IsCutPlace x m c per) where
    -- a cut in the back half
    pub cut-wide : m - c ≤ c → IsCutOf x m (record { critical = c; shift = max c (m - c); known = 0 })
    cut-wide wide = from_large (max c (m - c)) (IsCut-wide x m c per place (omega (arith, place.below)))

    -- what is before the cut doesn't repeat the period of what is after it
    pub cut-long : (((k : ℕ) → k < c → x k ≡ x (k + per)) → ⊥) → IsCutOf x m (record { critical = c; shift = max c (m - c); known = 0 })
    cut-long differs = from_large (max c (m - c)) (IsCut-long x m c per place differs)

    -- it does
    pub cut-small : ((k : ℕ) → k < c → x k ≡ x (k + per)) → IsCutOf x m (record { critical = c; shift = per; known = m - per })
    cut-small same = from_small per (IsCut-small x m c per place same)
