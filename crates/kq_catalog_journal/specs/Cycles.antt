-- When rows of a table may come back to it.
use Rattle.std.specs.Prelude.{◌≡◌, ℕ, List, Contains}
use Rattle.kq_catalog_journal.specs.declared.policy.Entry.{Entry}
use Rattle.kq_catalog_journal.specs.Force.{policy_at}

-- an entry of a target's policy, enabled or not, has this source; the other tables that its query reads don't matter
pub record Feeds (policies : List (List Entry)) (source target : ℕ) : Type 0 where
  pub entry : Entry
  pub stands : Contains (policy_at policies target) entry
  pub names : entry.source ≡ source

-- batches of a table come to another by one entry, or by one after another
pub data Reaches (policies : List (List Entry)) : ℕ → ℕ → Type 0 where
  at_once : {s t : ℕ} → Feeds policies s t → Reaches policies s t
  by_way_of : {s t : ℕ} (m : ℕ) → Feeds policies s m → Reaches policies m t → Reaches policies s t

-- and to itself
abbrev pub IsOnCycle : List (List Entry) → ℕ → Type 0
IsOnCycle policies t = Reaches policies t t
