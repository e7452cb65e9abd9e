use Rattle.std.proofs.Common.{◌≡◌, ◌≤◌, ◌<◌, ◌+◌, ℕ, List, [], ◌∷◌, length, take, drop, Option, Some, None, Bor, zero, suc, ◌==◌, false, arith}
use Rattle.std.proofs.lemmas.Bool.{false≢true}
use Rattle.std.specs.Prelude.{MatchOption}
use Rattle.std.specs.Str.Pattern.{FindsText}
use Rattle.std.proofs.lemmas.Str.Pattern.{split_text_parts}
use Rattle.kq_value_formats.specs.Strings.{split}
use Rattle.kq_value_strings.proofs.Pieces.{split-first, split-last}
use Rattle.kq_value_strings.proofs.split.cut.Goals as goal

cut_is : (s t : List ℕ) (r : Option (Bor (List ℕ) × Bor (List ℕ))) → 0 < length t
    → MatchOption r (FindsText t s None) (λ x. (i : ℕ) × (j : ℕ) × FindsText t s (Some (i, j)) × (x.0.now ≡ take i s) × (x.1.now ≡ drop j s) × (i ≤ j) × (length x.0.now ≡ i) × (length x.1.now + j ≡ length s))
    → MatchOption r (split s t ≡ s ∷ []) (λ x. split s t ≡ x.0.now ∷ split x.1.now t)
cut_is s t None some h = split-last s t some h
cut_is s t (Some x) some h = split-first s t x.0.now x.1.now h.0 some (split_text_parts t s (Some x) h) h.6 h.2.0

not_empty : (n : ℕ) → false ≡ (n == 0) → 0 < n
not_empty zero e = absurd (false≢true e)
not_empty (suc n) e = omega arith

pub returns-clause-pieces : goal.returns-clause-pieces
returns-clause-pieces c = cut_is c.args.text.now c.args.part.now c.split_once.result (not_empty (length c.args.part.now) c.if-is_empty.ensures) c.split_once.ensures.cases
