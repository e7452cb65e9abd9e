-- A word that says which form comes, and then that form.
use Rattle.std.specs.Prelude.{◌≡◌, List, [], ◌∷◌, Option, Some, None, Ok, Err}
use Rattle.kq_read_symbols.specs.Forms.{Language, Outcome, Parser, bind, ◌<$>◌}

-- ---- the same with the token kept

abbrev pub Marks : {T K : Type 0} → (T → Option K) → T × K → Language T
Marks key_of p ts = (key_of p.0 ≡ Some p.1) × (ts ≡ p.0 ∷ [])

abbrev pub expect_mark_at : {T K : Type 0} → Option K → T → List T → Outcome T (T × K)
expect_mark_at (Some key) t ts = Ok ((t, key), ts)
expect_mark_at None t ts = Err (t ∷ ts)

abbrev pub expect_mark : {T K : Type 0} → (T → Option K) → Parser T (T × K)
expect_mark key_of [] = Err []
expect_mark key_of (t ∷ ts) = expect_mark_at (key_of t) t ts

abbrev pub keyed : {T K A : Type 0} → (T → Option K) → (K → Parser T A) → Parser T (T × A)
keyed key_of arm = (λ p. (p.0.0, p.1)) <$> bind (expect_mark key_of) (λ m. arm m.1)
