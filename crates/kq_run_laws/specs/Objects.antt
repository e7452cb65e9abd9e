-- Objects of JSON, whose members may repeat a key.
use Rattle.std.specs.Prelude.{◌≡◌, ℕ, List, if◌then◌else◌, Option, Some, None}
use Rattle.std.specs.Str.{bytes_eq}
use Rattle.json.specs.Json as source
use Rattle.serde_json.specs.Data.{Members}
use Rattle.serde_json.specs.Find.{get_member}
use Rattle.serde_json.specs.Read.{of_json}

abbrev pub or_else : {A : Type 0} → Option A → Option A → Option A
or_else (Some x) y = Some x
or_else None y = y

-- the last value that a key has in a text
abbrev pub last_of : List ℕ → source.Members → Option source.Json
last_of k source.no_members = None
last_of k (source.member l j ms) = or_else (last_of k ms) (if bytes_eq l k then Some j else None)

-- what is kept has at each key the last value of the text, and no other keys
pub record KeepsLast (ms : source.Members) (kept : Members) : Type 0 where
  pub last : (k : List ℕ) (j : source.Json) → last_of k ms ≡ Some j → get_member k kept ≡ of_json j
  pub others : (k : List ℕ) → last_of k ms ≡ None → get_member k kept ≡ None
