-- How the reader of a body stands between two records.
use Rattle.std.specs.Prelude.{◌≡◌, ℕ, List, Option, Some, true, IsUtf8, ⊤}
use Rattle.std.specs.Borrow.{Bor}
use Rattle.csv.specs.Reading.{Ready, default_config, source_of}
use Rattle.csv.specs.declared.parser.State.{State}
use Rattle.csv.specs.declared.parser.State.TheVariants as st
use Rattle.csv.specs.declared.reader.Reader.{Reader}
use Rattle.csv.specs.declared.reader.Trim.TheVariants as trim

-- all bytes of a body are known
abbrev pub known : Bor (List ℕ) → Option (List ℕ)
known body = Some body.now

-- it reads records as they are, of any number of cells, and the next that it reads is the next of the body
pub record IsPlain (reader : Reader (Bor (List ℕ))) : Type 0 where
  pub untrimmed : reader.trim ≡ trim.None
  pub ready : Ready reader
  pub flexible : reader.flexible ≡ true

-- it isn't inside a comment
abbrev pub NotInComment : State → Type 0
NotInComment st.InComment = ⊥
NotInComment _ = ⊤

-- it reads CSV with no comments, and what is left of the body is text
pub record HasText (reader : Reader (Bor (List ℕ))) : Type 0 where
  pub config : reader.config ≡ default_config
  pub outside : NotInComment reader.state
  pub left : List ℕ
  pub source : source_of known reader ≡ Some left
  pub utf8 : IsUtf8 left
