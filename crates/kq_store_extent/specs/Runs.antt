-- Ids by runs, and rows under ids.
use Rattle.std.specs.Prelude.{ℕ, zero, suc, ◌+◌, ◌<◌, ◌^◌, List, [], ◌∷◌}
use Rattle.std.specs.List.{flat_map}
use Rattle.kq_value.specs.declared.record.Record.{Record}
use Rattle.kq_value.specs.declared.record_id.RecordId.{RecordId}
use Rattle.kq_value.specs.declared.value.Value.{Value}
use Rattle.kq_store_extent.specs.declared.run.Run.{Run}

-- so many ids of one commit, under the ordinals from a number on
abbrev pub ids_from : ℕ → ℕ → ℕ → List RecordId
ids_from cursor ordinal zero = []
ids_from cursor ordinal (suc n) = record { cursor = cursor; ordinal = ordinal } ∷ ids_from cursor (ordinal + 1) n

abbrev pub ids_of : Run → List RecordId
ids_of run = ids_from run.cursor run.first run.count

-- the ids of runs, one run after another
abbrev pub ids_by : List Run → List RecordId
ids_by = flat_map ids_of

-- no ordinal of the run is too great
abbrev pub IsInRange : Run → Type 0
IsInRange run = run.first + run.count < 2 ^ 63

-- rows under ids, each row under its own
abbrev pub named : List RecordId → List (List Value) → List Record
named [] rows = []
named (id ∷ ids) [] = []
named (id ∷ ids) (r ∷ rows) = record { id = id; row = r } ∷ named ids rows
