-- A script that is read as a source.
use Rattle.std.specs.Prelude.{ℕ, ◌==◌, ◌&&◌, Bool, false, List, Some, drop, length, take}
use Rattle.kq_world.specs.Outside.{SourceView}
use Rattle.kq_script_generated.specs.Commands.{script}

-- its text, how many of its bytes were read, and whether a read met the end
pub record ScriptState : Type 0 where
  pub text : List ℕ
  pub at : ℕ
  pub ended : Bool

-- what it tells: its first bytes were read, the others are left, and the end is met only behind the last one
abbrev pub script_told : ScriptState → SourceView
script_told s = record { taken = take s.at s.text; ended = s.ended && (s.at == length s.text); left = Some (drop s.at s.text) }

-- what the script of n rows tells of which so many bytes were read
abbrev pub script_read : ℕ → ℕ → Bool → SourceView
script_read n at ended = script_told (record { text = script n; at = at; ended = ended })

-- what it tells at first
abbrev pub script_unread : ℕ → SourceView
script_unread n = script_read n 0 false
