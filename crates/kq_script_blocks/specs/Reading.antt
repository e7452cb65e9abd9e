-- What a reader has taken and given, and what a call adds.
use Rattle.std.specs.Prelude.{◌≡◌, ◌≢◌, ◌≤◌, ◌<◌, ◌++◌, ◌⊎◌, ℕ, true, false, List, [], ◌∷◌, length, Result, Ok, Err}
use Rattle.kq_world.specs.Outside.{SourceView, Delivers, Rose}
use Rattle.kq_script_blocks.specs.Item.{IsItemOf}
use Rattle.kq_script_blocks.specs.Script.{Block, Script, script_blocks}
use Rattle.kq_script_blocks.specs.State.{IsAt, IsAtEnd}
use Rattle.kq_script_blocks.specs.declared.reader.ScriptReader.{ScriptReader}
use Rattle.kq_script_blocks.specs.declared.reader.Phase.TheVariants as phases
use Rattle.kq_script_blocks.specs.declared.item.Item.{Item}
use Rattle.kq_script_blocks.specs.declared.item.Item.TheVariants.{Finished}
use Rattle.kq_script_blocks.specs.declared.item.ScriptFault.{ScriptFault}
use Rattle.kq_script_blocks.specs.declared.item.ScriptFault.TheVariants.{ReadFault, InputLimit}

-- one list begins with another
abbrev pub IsPrefix : {X : Type 0} → List X → List X → Type 0
IsPrefix {X} front whole = (more : List X) × (whole ≡ front ++ more)

-- neither a fault nor the end was answered before
abbrev pub IsUnclosed : ScriptReader → Type 0
IsUnclosed reader = reader.phase ≢ phases.Closed

-- a reader with these limits has taken these bytes from a source that told this at first and tells this now, and has given
-- these blocks. They begin the script's blocks, among which the last one counts only where the end was read
pub record IsReading (command input : ℕ) (reader : ScriptReader) (first source : SourceView) (taken : List ℕ) (given : List Block) : Type 0 where
  pub command_limit : reader.block.limit ≡ command
  pub input_limit : reader.input ≡ input
  pub counted : reader.taken ≡ length taken
  pub within : length taken ≤ input
  pub gives : Delivers first source taken
  pub prefix : IsPrefix given (script_blocks command taken source.ended)
  pub state : IsAt reader.phase command input reader first source taken given

-- what came of a call, with these bytes taken by then
abbrev pub ItemOutcome : ℕ → ℕ → Result Item ScriptFault → ScriptReader → SourceView → SourceView → List ℕ → List Block → Type 0
ItemOutcome command input (Ok Finished) reader first source taken given = Script command taken true given × IsAtEnd first source × (length taken < input)
ItemOutcome command input (Ok item) reader first source taken given = (block : Block) × IsItemOf command item block × IsReading command input reader first source taken (given ++ block ∷ [])
ItemOutcome command input (Err ReadFault) reader first source taken given = Script command taken false given × (length taken < input) × (source.ended ≡ first.ended)
ItemOutcome command input (Err InputLimit) reader first source taken given = Script command taken false given × (length taken ≡ input) × (source.ended ≡ first.ended)

-- one call: the bytes that the source gave are those taken. The last piece of them was taken only because the bytes
-- before it left no closed block, and the fault at the limit comes wherever it is due
pub record ReadsItem (command input : ℕ) (result : Result Item ScriptFault) (reader : ScriptReader) (first source source' : SourceView) (taken : List ℕ) (given : List Block) : Type 0 where
  pub before : List ℕ
  pub last : List ℕ
  pub gives : Delivers source source' (before ++ last)
  pub piece : length last ≤ 4096
  pub needed : (before ++ last ≡ []) ⊎ Script command (taken ++ before) false given
  pub outcome : ItemOutcome command input result reader first source' (taken ++ (before ++ last)) given
  pub at_limit : length (taken ++ (before ++ last)) ≡ input → Script command (taken ++ (before ++ last)) false given → result ≡ Err InputLimit

-- the count of faults rises exactly at a read fault
abbrev pub CausedBy : ℕ → ℕ → Result Item ScriptFault → Type 0
CausedBy before now (Ok item) = now ≡ before
CausedBy before now (Err ReadFault) = Rose before now
CausedBy before now (Err InputLimit) = now ≡ before
