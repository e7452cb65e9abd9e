-- A script is its bytes split at blank lines.
use Rattle.std.specs.Prelude.{◌≡◌, ℕ, ◌==◌, ◌||◌, nat_le, nat_eq, Bool, true, false, List, [], ◌∷◌, length, drop, if◌then◌else◌, codes}
use Rattle.std.specs.List.{slice_split, list_all, flat_map, join_with_byte, starts_with, prefix_len}

-- what a script holds that is no comment
pub data Block : Type 0 where
  command : List ℕ → Block
  too_long : ℕ → Block

-- LF
abbrev pub is_line_end : ℕ → Bool
is_line_end b = b == 10

-- a space or a tab
abbrev pub is_space : ℕ → Bool
is_space b = (b == 32) || (b == 9)

-- a line of spaces, tabs and CR alone
abbrev pub is_blank : List ℕ → Bool
is_blank line = list_all (λ b. is_space b || (b == 13)) line

-- a line that begins, after spaces and tabs, with two slashes
abbrev pub is_comment : List ℕ → Bool
is_comment line = starts_with nat_eq (drop (prefix_len is_space line) line) (codes "//")

-- the block of a run of lines, which are joined by LF. Over the limit it is too long, whatever its lines are; else a
-- run of comments is no block, nor is a run of no lines
abbrev pub block_of : ℕ → List (List ℕ) → List Block
block_of limit [] = []
block_of limit (line ∷ lines) =
    let text = join_with_byte 10 (line ∷ lines) in
    if nat_le (length text) limit then (if list_all is_comment (line ∷ lines) then [] else command text ∷ []) else too_long (length text) ∷ []

-- all but the last
abbrev pub all_but_last : {X : Type 0} → List X → List X
all_but_last [] = []
all_but_last (x ∷ []) = []
all_but_last (x ∷ y ∷ xs) = x ∷ all_but_last (y ∷ xs)

-- the lines, split at LF: the last is what follows the last LF
abbrev pub lines_of : List ℕ → List (List ℕ)
lines_of bytes = slice_split is_line_end bytes

-- the runs of lines between the blank lines, some of them of no lines
abbrev pub runs_of : List (List ℕ) → List (List (List ℕ))
runs_of lines = slice_split is_blank lines

-- the blocks of a script, in order. Where its bytes haven't ended, the last line may go on, and so may the last run: a
-- block then counts only if a blank line after it stands there whole
abbrev pub script_blocks : ℕ → List ℕ → Bool → List Block
script_blocks limit bytes true = flat_map (block_of limit) (runs_of (lines_of bytes))
script_blocks limit bytes false = flat_map (block_of limit) (all_but_last (runs_of (all_but_last (lines_of bytes))))

-- these are the blocks of the script of these bytes
abbrev pub Script : ℕ → List ℕ → Bool → List Block → Type 0
Script limit bytes ended blocks = blocks ≡ script_blocks limit bytes ended
