-- What the bytes of a line so far show.
use Rattle.std.specs.Prelude.{ℕ, ◌==◌, ◌||◌, Bool, true, false, List, fold, if◌then◌else◌}
use Rattle.kq_script_blocks.specs.Script.{is_space}
use Rattle.kq_script_blocks.specs.declared.line.Line.{Line}
use Rattle.kq_script_blocks.specs.declared.line.Line.TheVariants.{Spaces, Blank, Slash, Comment, Other}

-- the line with one more byte
abbrev pub line_with : Line → ℕ → Line
line_with Spaces b = if is_space b then Spaces else (if b == 13 then Blank else (if b == 47 then Slash else Other))
line_with Blank b = if is_space b || (b == 13) then Blank else Other
line_with Slash b = if b == 47 then Comment else Other
line_with Comment b = Comment
line_with Other b = Other

-- what a line's bytes show
abbrev pub shown_by : List ℕ → Line
shown_by line = fold line_with Spaces line

abbrev pub shows_blank : Line → Bool
shows_blank Spaces = true
shows_blank Blank = true
shows_blank _ = false

abbrev pub shows_comment : Line → Bool
shows_comment Comment = true
shows_comment _ = false
