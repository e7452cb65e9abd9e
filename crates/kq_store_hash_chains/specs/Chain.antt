-- What a chain is.
use Rattle.std.specs.Prelude.{◌≡◌, ◌<◌, ◌==◌, ℕ, zero, suc, if◌then◌else◌, List, [], ◌∷◌, length, slice_index, slice_index_or, Option, Some, None}

-- a chain: the number of its heads, and for each link, from 0, the head that it was added to
pub record ChainState : Type 0 where
  pub heads : ℕ
  pub added : List ℕ

-- the links below n that were added to the head, newest first
abbrev pub links : List ℕ → ℕ → ℕ → List ℕ
links added head zero = []
links added head (suc n) = if slice_index added n == head then n ∷ links added head n else links added head n

-- a walk over the links of the head below n goes on at this link, or ends
abbrev pub LeadsTo : List ℕ → ℕ → ℕ → Option ℕ → Type 0
LeadsTo added head n None = links added head n ≡ []
LeadsTo added head n (Some link) = (link < n) × (slice_index added link ≡ head) × (links added head n ≡ link ∷ links added head link)

-- each head and each link leads to the link that follows it in the walk
pub record IsLinked (firsts nexts : List (Option ℕ)) (added : List ℕ) : Type 0 where
  pub count : length nexts ≡ length added
  pub from_heads : (head : ℕ) → head < length firsts → LeadsTo added head (length added) (slice_index_or firsts head None)
  pub from_links : (link : ℕ) → link < length added → LeadsTo added (slice_index added link) link (slice_index_or nexts link None)
