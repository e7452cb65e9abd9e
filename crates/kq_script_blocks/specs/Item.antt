-- What an item says of a block.
use Rattle.std.specs.Prelude.{◌≡◌, ◌≤◌, ℕ, List, length}
use Rattle.kq_script_blocks.specs.Script.{Block, command, too_long}
use Rattle.kq_script_blocks.specs.declared.item.Item.{Item}
use Rattle.kq_script_blocks.specs.declared.item.Item.TheVariants.{Command, TooLong, Lost, Finished}

-- the item is this block. `Lost` stands for a command within the limit
abbrev pub IsItemOf : ℕ → Item → Block → Type 0
IsItemOf limit (Command bytes) block = block ≡ command bytes
IsItemOf limit (TooLong bytes) block = block ≡ too_long bytes
IsItemOf limit Lost block = (bytes : List ℕ) × (length bytes ≤ limit) × (block ≡ command bytes)
IsItemOf limit Finished block = ⊥
