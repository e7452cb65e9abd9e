-- A walk over a chain.
use Rattle.std.proofs.Common.{◌≡◌, ◌≤◌, ◌+◌, ℕ, List, ◌++◌, length, Option, Some, None}
use Rattle.kq_store_hash_chains.specs.Chain.{links, LeadsTo}

-- these links were visited, and the walk goes on here: what a loop over a chain keeps
pub record IsOnTheWay (added : List ℕ) (head : ℕ) (visited : List ℕ) (at : Option ℕ) : Type 0 where
  pub below : ℕ
  pub within : below ≤ length added
  pub leads : LeadsTo added head below at
  pub all : links added head (length added) ≡ visited ++ links added head below

-- how many links there can be ahead: the measure of such a loop
abbrev pub links_ahead : Option ℕ → ℕ
links_ahead None = 0
links_ahead (Some link) = link + 1
