-- The block that stands open: what is kept of it, and what comes of it.
use Rattle.std.specs.Prelude.{◌≡◌, ◌++◌, ℕ, false, List, [], ◌∷◌, length, take, Option, Some, None, MatchBool}
use Rattle.std.specs.List.{flat_map, list_all}
use Rattle.kq_script_blocks.specs.Script.{Block, block_of, is_comment, is_blank, is_line_end, lines_of, runs_of, all_but_last}
use Rattle.kq_script_blocks.specs.Item.{IsItemOf}
use Rattle.kq_script_blocks.specs.Line.{shown_by}
use Rattle.kq_script_blocks.specs.declared.block.OpenBlock.{OpenBlock}
use Rattle.kq_script_blocks.specs.declared.item.Item.{Item}

-- the bytes of these whole lines, each with its LF, and of the line after them
abbrev pub text_of : List (List ℕ) → List ℕ → List ℕ
text_of run line = flat_map (λ l. l ++ 10 ∷ []) run ++ line

-- the last of some lists
abbrev pub last_of : {X : Type 0} → List (List X) → List X
last_of [] = []
last_of (x ∷ []) = x
last_of (x ∷ y ∷ xs) = last_of (y ∷ xs)

-- the line that stands open after these bytes, and the whole lines before it that no blank line follows yet
abbrev pub open_line : List ℕ → List ℕ
open_line bytes = last_of (lines_of bytes)

abbrev pub open_run : List ℕ → List (List ℕ)
open_run bytes = last_of (runs_of (all_but_last (lines_of bytes)))

-- the open block has these whole lines, and this line after them
pub record IsOpen (block : OpenBlock) (run : List (List ℕ)) (line : List ℕ) : Type 0 where
  pub counted : block.count ≡ length (text_of run line)
  pub started : block.start ≡ length (text_of run [])
  pub comment : block.comment ≡ list_all is_comment run
  pub line_shown : block.line ≡ shown_by line
  pub kept : block.lost ≡ false → block.kept.items ≡ take block.limit (text_of run line)

-- the item is the one of these blocks, and without an item there are none
abbrev pub AreItem : ℕ → Option Item → List Block → Type 0
AreItem limit None blocks = blocks ≡ []
AreItem limit (Some item) blocks = (block : Block) × IsItemOf limit item block × (blocks ≡ block ∷ [])

-- one byte more: an LF ends the line. It joins the whole lines, or, where it is blank, their block is given and all
-- starts anew
abbrev pub AddsByte : ℕ → OpenBlock → List (List ℕ) → List ℕ → ℕ → Option Item → Type 0
AddsByte limit block run line byte item =
    MatchBool (is_line_end byte)
    (MatchBool (is_blank line)
    (IsOpen block [] [] × AreItem limit item (block_of limit run))
    (IsOpen block (run ++ line ∷ []) [] × (item ≡ None)))
    (IsOpen block run (line ++ byte ∷ []) × (item ≡ None))

-- the item is the block that comes after those before
abbrev pub AppendsItem : ℕ → Option Item → List Block → List Block → Type 0
AppendsItem limit item before after = (blocks : List Block) × AreItem limit item blocks × (after ≡ before ++ blocks)
