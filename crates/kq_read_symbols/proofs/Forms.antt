-- What a reader of a form does; a form behind another, and what comes of its values.
use Rattle.std.specs.Prelude.{◌≡◌, Bool, false, List, [], ◌∷◌, ◌++◌, Ok, Err}
use Rattle.kq_read_symbols.specs.Forms.{◌⨾◌, Outcome}

-- the tokens that a form may go on with are `more`, and none of these comes
abbrev pub Stops : {T : Type 0} → (T → Bool) → List T → Type 0
Stops more [] = Unit {0}
Stops more (t ∷ ts) = more t ≡ false

-- both end here, or both go on with the same token
abbrev pub Alike : {T : Type 0} → List T → List T → Type 0
Alike [] [] = Unit {0}
Alike [] (s ∷ ss) = ⊥
Alike (t ∷ ts) [] = ⊥
Alike (t ∷ ts) (s ∷ ss) = t ≡ s

-- A reader of the form took the front of the tokens as x, and left the rest.
pub record Parses {T A : Type 0} (form : A → List T → Type 0) (more : T → Bool) (ts : List T) (x : A) (rest : List T) : Type 0 where
  pub front : List T
  pub split : ts ≡ front ++ rest
  pub spelled : form x front
  -- whatever follows the token after the front, there is no other reading
  pub only : (y : A) (u z ahead : List T) → form y u → Stops more z → Alike rest ahead → u ++ z ≡ front ++ ahead → (y ≡ x) × (z ≡ ahead)

-- A reader of the form could not go on at the rest.
pub record Stuck {T A : Type 0} (form : A → List T → Type 0) (more : T → Bool) (ts : List T) (rest : List T) : Type 0 where
  pub front : List T
  pub split : ts ≡ front ++ rest
  -- the tokens before it can be completed
  pub value : A
  pub missing : List T
  pub completed : form value (front ++ missing)
  -- the tokens through it can't, whatever follows
  pub never : (y : A) (u z ahead : List T) → form y u → Stops more z → Alike rest ahead → u ++ z ≡ front ++ ahead → ⊥

abbrev pub Meets : {T A : Type 0} → (A → List T → Type 0) → (T → Bool) → List T → Outcome T A → Type 0
Meets form more ts (Ok p) = Parses form more ts p.0 p.1
Meets form more ts (Err rest) = Stuck form more ts rest

-- a value and then another; what spells the second may depend on the first
abbrev pub Bind : {T A B : Type 0} → (A → List T → Type 0) → (A → B → List T → Type 0) → A × B → List T → Type 0
Bind first second p = ◌⨾◌ (first p.0) (second p.0 p.1)

abbrev pub Then : {T A B : Type 0} → (A → List T → Type 0) → (B → List T → Type 0) → A × B → List T → Type 0
Then first second = Bind first (λ _. second)

-- the values f x of the x that a form spells
pub record Image {T A B : Type 0} (f : A → B) (form : A → List T → Type 0) (y : B) (ts : List T) : Type 0 where
  pub value : A
  pub is : y ≡ f value
  pub spelled : form value ts
