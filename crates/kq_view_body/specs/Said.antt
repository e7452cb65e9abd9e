-- What is left of what a name says, as its bytes are read one after another.
use Rattle.std.specs.Prelude.{◌≡◌, ℕ, true, false, List, [], ◌∷◌, ◌++◌, Option, Some, None}
use Rattle.kq_view_body.specs.declared.said.Ahead.{Ahead}
use Rattle.kq_view_body.specs.declared.said.Ahead.TheVariants as ahead
use Rattle.kq_view_body.specs.declared.said.Form.{Form}
use Rattle.kq_view_body.specs.declared.said.Form.TheVariants as form
use Rattle.kq_view_body.specs.declared.said.Rest.{Rest}
use Rattle.kq_read_literals.specs.Strings.{undoubled, unescaped}
use Rattle.kq_read_tokens.specs.declared.delimited.Within.TheVariants.{Quoted}
use Rattle.kq_read_tokens.specs.Delimited.{closes, step}

abbrev pub bytes_ahead : Ahead → List ℕ
bytes_ahead ahead.Nothing = []
bytes_ahead (ahead.One a) = a ∷ []
bytes_ahead (ahead.Two a b) = a ∷ b ∷ []
bytes_ahead (ahead.Three a b c) = a ∷ b ∷ c ∷ []

abbrev pub left_in : Form → List ℕ → List ℕ
left_in form.Plain bytes = bytes
left_in (form.Quoted quote a) bytes = bytes_ahead a ++ unescaped quote 0 bytes
left_in (form.Verbatim quote) bytes = undoubled quote false bytes

-- a quote closes what is quoted
abbrev pub IsSound : Form → List ℕ → Type 0
IsSound (form.Quoted quote a) bytes = closes step (Quoted quote) bytes ≡ true
IsSound _ bytes = Unit {0}

abbrev pub left : Rest → List ℕ
left r = left_in r.form r.bytes.now

abbrev pub IsReadable : Rest → Type 0
IsReadable r = IsSound r.form r.bytes.now

-- a byte and what is left behind it, or none where nothing is left
abbrev pub Goes : List ℕ → Option (ℕ × Rest) → Type 0
Goes bytes None = bytes ≡ []
Goes bytes (Some r) = (bytes ≡ r.0 ∷ left r.1) × IsReadable r.1
