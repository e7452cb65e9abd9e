-- How a reader's fields stand to what it has taken and given.
use Rattle.std.specs.Prelude.{⊤, ◌≡◌, ◌<◌, ◌++◌, ◌-◌, ℕ, true, false, List, [], ◌∷◌, length, take, drop, Option, Some, None}
use Rattle.kq_world.specs.Told.{IsEmpty}
use Rattle.kq_world.specs.Outside.{SourceView}
use Rattle.kq_script_blocks.specs.Item.{IsItemOf}
use Rattle.kq_script_blocks.specs.Script.{Block, Script}
use Rattle.kq_script_blocks.specs.Open.{IsOpen, open_run, open_line}
use Rattle.kq_script_blocks.specs.declared.reader.ScriptReader.{ScriptReader}
use Rattle.kq_script_blocks.specs.declared.reader.Phase.{Phase}
use Rattle.kq_script_blocks.specs.declared.reader.Phase.TheVariants as phases
use Rattle.kq_script_blocks.specs.declared.item.Item.{Item}
use Rattle.kq_script_blocks.specs.declared.item.Item.TheVariants.{Finished}

-- the bytes taken that the reader hasn't looked at
abbrev pub unread : ScriptReader → List ℕ
unread reader = take (reader.end - reader.at) (drop reader.at reader.piece.items)

-- before the end is read: what was given are the blocks closed by the bytes looked at, and the open block is what
-- stands open after them
pub record HasLooked (command : ℕ) (reader : ScriptReader) (taken : List ℕ) (given : List Block) : Type 0 where
  pub looked : List ℕ
  pub ahead : taken ≡ looked ++ unread reader
  pub given_all : Script command looked false given
  pub block : IsOpen reader.block (open_run looked) (open_line looked)

-- a source that told its bytes from the first has none left
abbrev pub IsDrained : Option (List ℕ) → Option (List ℕ) → Type 0
IsDrained None left = ⊤
IsDrained (Some bytes) left = IsEmpty left

-- the source's end was read
pub record IsAtEnd (first source : SourceView) : Type 0 where
  pub ended : source.ended ≡ true
  pub drained : IsDrained first.left source.left

-- after it: all was given, and the limit wasn't reached
pub record HasEnded (command input : ℕ) (first source : SourceView) (taken : List ℕ) (given : List Block) : Type 0 where
  pub given_all : Script command taken true given
  pub at_end : IsAtEnd first source
  pub below : length taken < input

abbrev pub IsAt : Phase → ℕ → ℕ → ScriptReader → SourceView → SourceView → List ℕ → List Block → Type 0
IsAt phases.Reading command input reader first source taken given = HasLooked command reader taken given × (source.ended ≡ first.ended)
IsAt phases.Ended command input reader first source taken given = HasEnded command input first source taken given
IsAt phases.Closed command input reader first source taken given = ⊥

-- at the end: the last block, after which all was given, or the answer that all was given
abbrev pub GivesLast : ℕ → Item → Phase → List ℕ → List Block → Type 0
GivesLast command Finished phase taken given = (phase ≡ phases.Closed) × Script command taken true given
GivesLast command item phase taken given = (phase ≡ phases.Ended) × (block : Block) × IsItemOf command item block × Script command taken true (given ++ block ∷ [])
