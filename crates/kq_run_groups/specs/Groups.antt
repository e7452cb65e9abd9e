-- What groups keep, by number, and how a piece of rows comes to it.
use Rattle.std.specs.Prelude.{◌≡◌, ◌<◌, ◌≤◌, ◌+◌, ℕ, List, [], ◌∷◌, ◌++◌, length, map, get_or}
use Rattle.std.specs.List.{All}
use Rattle.kq_run_aggregates.specs.Holds.{Holds, finished}
use Rattle.kq_run_aggregates.specs.Steps.{kept_at, of_group}
use Rattle.kq_run_aggregates.specs.Tables.{Numbered, SameShape}
use Rattle.kq_run_aggregates.specs.declared.kind.Kind.TheVariants as kind
use Rattle.kq_value.specs.Computed.{Computed, Is, and_then}
use Rattle.kq_store_rows.specs.Chunks.{row_at}
use Rattle.kq_value.specs.declared.value.Value.{Value}
use Rattle.kq_run_groups.specs.Grouped.{AggregateShape, AreKeys, args_of}

-- the number of a key's cells, the keys of the groups, and the states of each aggregate
pub record Grouping : Type 0 where
  pub width : ℕ
  pub keys : List (List Value)
  pub states : List Numbered

abbrev pub shape_of : Numbered → AggregateShape
shape_of s = record { kind = s.kind; types = s.types }

abbrev pub nothing : Numbered
nothing = record { kind = kind.Count; types = []; kept = [] }

-- the states of an aggregate, by its number
abbrev pub state_at : List Numbered → ℕ → Numbered
state_at states a = get_or states a nothing

-- the rows of its arguments
abbrev pub args_at : List (List (List Value)) → ℕ → List (List Value)
args_at args a = get_or args a []

-- for each aggregate the rows of arguments of both, one after another
abbrev pub beside : List (List (List Value)) → List (List (List Value)) → List (List (List Value))
beside [] more = more
beside (rows ∷ args) [] = rows ∷ args
beside (rows ∷ args) (others ∷ more) = (rows ++ others) ∷ beside args more

-- each aggregate has a state for each group
abbrev pub HasGroups : ℕ → Numbered → Type 0
HasGroups n s = length s.kept ≡ n

abbrev pub HasAllGroups : Grouping → Type 0
HasAllGroups g = All (HasGroups (length g.keys)) g.states

-- the groups are those of rows with these keys and arguments: each state stands for the arguments of the rows with its key
pub record Stands (keys : List (List Value)) (args : List (List (List Value))) (g : Grouping) : Type 0 where
  pub of_rows : AreKeys g.width keys g.keys
  pub along : (a : ℕ) → a < length g.states → length (args_at args a) ≡ length keys
  pub holds : (a n : ℕ) → a < length g.states → n < length g.keys → Holds (state_at g.states a).kind (args_of (row_at g.keys n) keys (args_at args a)) (kept_at (state_at g.states a).kept n)

-- groups of no rows, for these aggregates
pub record Starts (width : ℕ) (aggregates : List AggregateShape) (g : Grouping) : Type 0 where
  pub width_is : g.width ≡ width
  pub shapes : map shape_of g.states ≡ aggregates
  pub whole : HasAllGroups g
  pub stands : Stands [] [] g

-- with rows more
pub record AddsRows (keys : List (List Value)) (args : List (List (List Value))) (old new : Grouping) : Type 0 where
  pub width_is : new.width ≡ old.width
  pub shapes : map shape_of new.states ≡ map shape_of old.states
  pub whole : HasAllGroups new
  pub more : (before : List (List Value)) (had : List (List (List Value))) → Stands before had old → Stands (before ++ keys) (beside had args) new

-- ---- the states of one aggregate

-- groups of no rows come last, up to so many
pub record Lengthens (count : ℕ) (old new : Numbered) : Type 0 where
  pub shape : SameShape old new
  pub count_is : length new.kept ≡ count
  pub others : (h : ℕ) → h < length old.kept → kept_at new.kept h ≡ kept_at old.kept h
  pub fresh : (h : ℕ) → length old.kept ≤ h → h < count → Holds old.kind [] (kept_at new.kept h)

pub record HasNoRows (count : ℕ) (s : Numbered) : Type 0 where
  pub count_is : length s.kept ≡ count
  pub fresh : (h : ℕ) → h < count → Holds s.kind [] (kept_at s.kept h)

-- and each has the rows beside its number too
pub record Gathers (numbers : List ℕ) (rows : List (List Value)) (count : ℕ) (old new : Numbered) : Type 0 where
  pub shape : SameShape old new
  pub count_is : length new.kept ≡ count
  pub more : (h : ℕ) (before : List (List Value)) → h < length old.kept → Holds old.kind before (kept_at old.kept h) → Holds old.kind (before ++ of_group h numbers rows) (kept_at new.kept h)
  pub fresh : (h : ℕ) → length old.kept ≤ h → h < count → Holds old.kind (of_group h numbers rows) (kept_at new.kept h)

-- the same of all aggregates
pub record GatherAll (numbers : List ℕ) (args : List (List (List Value))) (count : ℕ) (olds news : List Numbered) : Type 0 where
  pub each : (a : ℕ) → a < length olds → Gathers numbers (args_at args a) count (state_at olds a) (state_at news a)

-- ---- rows

-- the cells of a group, or an overflow
abbrev pub cells_from : List Numbered → ℕ → Computed (List Value)
cells_from [] n = Is []
cells_from (s ∷ states) n = and_then (finished s.types (kept_at s.kept n)) (λ x. and_then (cells_from states n) (λ y. Is (x ++ y)))

-- the rows of the groups with these keys, whose numbers begin with this one
abbrev pub rows_from : List Numbered → List (List Value) → ℕ → Computed (List (List Value))
rows_from states [] n = Is []
rows_from states (k ∷ keys) n = and_then (cells_from states n) (λ x. and_then (rows_from states keys (n + 1)) (λ rows. Is ((k ++ x) ∷ rows)))

-- what an aggregate ends with has a cell for each of its columns
pub record EndsWide (s : Numbered) : Type 0 where
  pub each : (n : ℕ) (cells : List Value) → n < length s.kept → finished s.types (kept_at s.kept n) ≡ Is cells → length cells ≡ length s.types
