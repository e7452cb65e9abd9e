-- How other groups come to groups, key by key.
use Rattle.std.specs.Prelude.{◌≡◌, ◌<◌, ◌≤◌, ◌+◌, ℕ, min, List, [], ◌∷◌, ◌++◌, length, map, nat_eq, if◌then◌else◌}
use Rattle.std.specs.List.{All}
use Rattle.kq_run_aggregates.specs.Holds.{Kept, Holds}
use Rattle.kq_run_aggregates.specs.Steps.{kept_at}
use Rattle.kq_run_aggregates.specs.Tables.{Numbered, SameShape}
use Rattle.kq_run_aggregates.specs.declared.kind.Kind.{Kind}
use Rattle.kq_store_rows.specs.Chunks.{HasWidth, row_at}
use Rattle.kq_value.specs.declared.value.Value.{Value}
use Rattle.kq_value.specs.Same.{times}
use Rattle.kq_run_groups.specs.Grouped.{AggregateShape}
use Rattle.kq_run_groups.specs.Groups.{Grouping, HasAllGroups, Stands, args_at, beside, shape_of, state_at}

-- the rows of arguments under each key, for each aggregate
abbrev pub Under : Type 0
Under = ℕ → List Value → List (List Value)

-- each state stands for what is under its key
abbrev pub Keeps : Under → Grouping → Type 0
Keeps under g = (a n : ℕ) → a < length g.states → n < length g.keys → Holds (state_at g.states a).kind (under a (row_at g.keys n)) (kept_at (state_at g.states a).kept n)

-- of these keys those that aren't among the others have nothing under them
abbrev pub NoneBeyond : Under → List (List Value) → List (List Value) → Type 0
NoneBeyond under others keys = (a : ℕ) (k : List Value) → 0 < times k keys → times k others ≡ 0 → under a k ≡ []

-- no groups
pub record Lacks (width : ℕ) (aggregates : List AggregateShape) (g : Grouping) : Type 0 where
  pub width_is : g.width ≡ width
  pub shapes : map shape_of g.states ≡ aggregates
  pub whole : HasAllGroups g
  pub none : g.keys ≡ []

-- the groups of both, each key once: a state stands for what is under its key in the one and then in the other
pub record Merges (other old new : Grouping) : Type 0 where
  pub width_is : new.width ≡ old.width
  pub shapes : map shape_of new.states ≡ map shape_of old.states
  pub whole : HasAllGroups new
  pub wide : All (HasWidth new.width) new.keys
  pub counts : (k : List Value) → times k new.keys ≡ min 1 (times k old.keys + times k other.keys)
  pub under : (first rest : Under) → Keeps first old → Keeps rest other → NoneBeyond first old.keys new.keys → NoneBeyond rest other.keys new.keys → Keeps (λ a k. first a k ++ rest a k) new
  pub more : (before keys : List (List Value)) (had args : List (List (List Value))) → Stands before had old → Stands keys args other → Stands (before ++ keys) (beside had args) new

abbrev pub picked_states : List ℕ → Numbered → Numbered
picked_states ns s = record { kind = s.kind; types = s.types; kept = map (kept_at s.kept) ns }

-- the groups with these numbers
abbrev pub picked : List ℕ → Grouping → Grouping
picked ns g = record { width = g.width; keys = map (row_at g.keys) ns; states = map (picked_states ns) g.states }

-- ---- the states of one aggregate

-- the rows of arguments that stand beside this number, one after another
abbrev pub of_groups : ℕ → List ℕ → List (List (List Value)) → List (List Value)
of_groups g [] those = []
of_groups g (h ∷ hs) [] = []
of_groups g (h ∷ hs) (rows ∷ those) = if nat_eq g h then rows ++ of_groups g hs those else of_groups g hs those

-- others stand for these rows
abbrev pub StandFor : Kind → List ℕ → List (List (List Value)) → List Kept → Type 0
StandFor k ns those others = (i : ℕ) → i < length ns → Holds k (args_at those i) (kept_at others i)

-- each group has the rows too that the others beside its number stand for
pub record TakesOver (k : Kind) (numbers : List ℕ) (others olds news : List Kept) : Type 0 where
  pub more : (g : ℕ) (before : List (List Value)) (those : List (List (List Value))) → g < length olds → Holds k before (kept_at olds g) → StandFor k numbers those others
      → Holds k (before ++ of_groups g numbers those) (kept_at news g)
  pub count : length news ≡ length olds

-- groups of no rows come last, up to so many, and then each has those rows
pub record Absorbs (numbers : List ℕ) (others : List Kept) (count : ℕ) (old new : Numbered) : Type 0 where
  pub shape : SameShape old new
  pub count_is : length new.kept ≡ count
  pub more : (h : ℕ) (before : List (List Value)) (those : List (List (List Value))) → h < length old.kept → Holds old.kind before (kept_at old.kept h) → StandFor old.kind numbers those others
      → Holds old.kind (before ++ of_groups h numbers those) (kept_at new.kept h)
  pub fresh : (h : ℕ) (those : List (List (List Value))) → length old.kept ≤ h → h < count → StandFor old.kind numbers those others → Holds old.kind (of_groups h numbers those) (kept_at new.kept h)

-- the same of all aggregates, with those of the others that have these places
pub record AbsorbAll (numbers places : List ℕ) (others : List Numbered) (count : ℕ) (olds news : List Numbered) : Type 0 where
  pub each : (a : ℕ) → a < length olds → Absorbs numbers (map (kept_at (state_at others a).kept) places) count (state_at olds a) (state_at news a)
