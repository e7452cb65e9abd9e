-- Groups in shards, by the hashes of their keys.
use Rattle.std.specs.Prelude.{◌≡◌, ◌<◌, ◌≤◌, ◌+◌, ◌%◌, ℕ, min, Bool, nat_eq, List, [], ◌∷◌, ◌++◌, length, map, get_or, Result}
use Rattle.std.specs.List.{All, flat_map}
use Rattle.kq_run_groups.specs.kq_run_aggregates.Holds.{Kept}
use Rattle.kq_run_groups.specs.kq_run_aggregates.Tables.{Numbered}
use Rattle.kq_value.specs.Computed.{Computed, Is, and_then}
use Rattle.kq_value.specs.declared.fault.EvalFault.{EvalFault}
use Rattle.kq_store_rows.specs.Chunks.{HasWidth}
use Rattle.kq_value.specs.declared.value.Value.{Value}
use Rattle.kq_value.specs.Same.{times}
use Rattle.kq_run_groups.specs.Grouped.{AggregateShape, FitArgs, IsGrouped}
use Rattle.kq_run_groups.specs.Groups.{EndsWide, Grouping, HasAllGroups, Stands, rows_from, shape_of, state_at}
use Rattle.kq_run_groups.specs.Keys.{key_hash}
use Rattle.kq_run_groups.specs.Merges.{Keeps, NoneBeyond, Under}

-- the shard of a key
abbrev pub shard_of : List Value → ℕ
shard_of k = key_hash k % 64

abbrev pub is_in : ℕ → List Value → Bool
is_in i k = nat_eq (shard_of k) i

abbrev pub nobody : Grouping
nobody = record { width = 0; keys = []; states = [] }

abbrev pub shard_at : List Grouping → ℕ → Grouping
shard_at shards i = get_or shards i nobody

-- ---- all shards together

abbrev pub keys_in : List Grouping → List (List Value)
keys_in shards = flat_map (λ (g : Grouping). g.keys) shards

-- what an aggregate, by its number, keeps of the groups
abbrev pub kept_in : ℕ → List Grouping → List Kept
kept_in a shards = flat_map (λ (g : Grouping). (state_at g.states a).kept) shards

-- the states of the aggregates whose numbers begin with this one
abbrev pub states_from : List AggregateShape → ℕ → List Grouping → List Numbered
states_from [] a shards = []
states_from (g ∷ aggregates) a shards = record { kind = g.kind; types = g.types; kept = kept_in a shards } ∷ states_from aggregates (a + 1) shards

-- the groups of all shards, one shard after another
abbrev pub all_of : ℕ → List AggregateShape → List Grouping → Grouping
all_of width aggregates shards = record { width = width; keys = keys_in shards; states = states_from aggregates 0 shards }

-- ---- shards

-- groups of different keys that belong to the shard with this number
pub record IsShard (width : ℕ) (aggregates : List AggregateShape) (i : ℕ) (g : Grouping) : Type 0 where
  pub width_is : g.width ≡ width
  pub shapes : map shape_of g.states ≡ aggregates
  pub whole : HasAllGroups g
  pub wide : All (HasWidth width) g.keys
  pub apart : (k : List Value) → times k g.keys ≤ 1
  pub filed : (k : List Value) → 0 < times k g.keys → shard_of k ≡ i

pub record AreShards (width : ℕ) (aggregates : List AggregateShape) (shards : List Grouping) : Type 0 where
  pub count : length shards ≡ 64
  pub each : (i : ℕ) → i < length shards → IsShard width aggregates i (shard_at shards i)

-- a shard with those of other groups that belong to it
pub record FoldsShard (width : ℕ) (aggregates : List AggregateShape) (i : ℕ) (delta old new : Grouping) : Type 0 where
  pub shard : IsShard width aggregates i new
  pub counts : (k : List Value) → shard_of k ≡ i → times k new.keys ≡ min 1 (times k old.keys + times k delta.keys)
  pub under : (first rest : Under) → Keeps first old → Keeps rest delta → NoneBeyond first old.keys new.keys → NoneBeyond rest delta.keys new.keys → Keeps (λ a k. first a k ++ rest a k) new

pub record AreFolded (width : ℕ) (aggregates : List AggregateShape) (delta : Grouping) (olds news : List Grouping) : Type 0 where
  pub count : length news ≡ length olds
  pub each : (i : ℕ) → i < length olds → FoldsShard width aggregates i delta (shard_at olds i) (shard_at news i)

-- ---- rows

-- the rows of the shards, one shard after another
abbrev pub rows_in : List Grouping → Computed (List (List Value))
rows_in [] = Is []
rows_in (g ∷ shards) = and_then (rows_from g.states g.keys 0) (λ x. and_then (rows_in shards) (λ y. Is (x ++ y)))

-- the answer is that of a summarize over any rows for which the groups stand
abbrev pub AreGrouped : Grouping → Result (List (List Value)) EvalFault → Type 0
AreGrouped g r =
    (keys : List (List Value)) (args : List (List (List Value))) → Stands keys args g → length args ≡ length g.states
    → IsGrouped g.width (map shape_of g.states) keys args r

-- each shard ends with rows, all of one width
pub record AreFinishable (shards : List Grouping) : Type 0 where
  pub whole : All (λ g. HasAllGroups g) shards
  pub ends : All (λ (g : Grouping). All EndsWide g.states) shards
  pub width : ℕ
  pub wide : (i : ℕ) (rows : List (List Value)) → i < length shards → rows_from (shard_at shards i).states (shard_at shards i).keys 0 ≡ Is rows → All (HasWidth width) rows

-- they are the groups of some rows, whose arguments fit
pub record IsOfRows (g : Grouping) : Type 0 where
  pub keys : List (List Value)
  pub args : List (List (List Value))
  pub stands : Stands keys args g
  pub fit : FitArgs (map shape_of g.states) args
