-- A word that says which form comes, without the token kept; and forms of both.
use Rattle.std.specs.Prelude.{◌≡◌, List, [], ◌∷◌, Option, Some, None, Ok, Err}
use Rattle.kq_read_symbols.specs.Forms.{Language, ◌⨾◌, Outcome, Parser, bind, ◌<$>◌}
use Rattle.kq_read_symbols.specs.Switching.{Marks}

-- a token that is the key
abbrev pub Key : {T K : Type 0} → (T → Option K) → K → Language T
Key {T = T} key_of key ts = (t : T) × (key_of t ≡ Some key) × (ts ≡ t ∷ [])

abbrev pub expect_key_at : {T K : Type 0} → Option K → T → List T → Outcome T K
expect_key_at (Some key) t ts = Ok (key, ts)
expect_key_at None t ts = Err (t ∷ ts)

abbrev pub expect_key : {T K : Type 0} → (T → Option K) → Parser T K
expect_key key_of [] = Err []
expect_key key_of (t ∷ ts) = expect_key_at (key_of t) t ts

abbrev pub switch : {T K A : Type 0} → (T → Option K) → (K → Parser T A) → Parser T A
switch key_of arm = (λ p. p.1) <$> bind (expect_key key_of) arm

abbrev pub Keyed : {T K A : Type 0} → (T → Option K) → (A → K) → (A → Language T) → T × A → Language T
Keyed key_of key body p = Marks key_of (p.0, key p.1) ⨾ body p.1
