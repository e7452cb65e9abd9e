-- Rows that are found by their hashes.
use Rattle.std.specs.Prelude.{◌≡◌, ◌<◌, ◌%◌, ℕ, List, map}
use Rattle.kq_value.specs.declared.value.Value.{Value}
use Rattle.kq_value.specs.Hash.{row_hash}
use Rattle.kq_run_reshape.specs.declared.known.Known.{Known}

-- the head of a row's chain
abbrev pub head_of : ℕ → List Value → ℕ
head_of heads row = row_hash row % heads

-- the links of the chain are the rows, each behind the head of its hash
pub record IsFiled (k : Known) : Type 0 where
  pub some : 0 < k.heads
  pub filed : k.chain ≡ record { heads = k.heads; added = map (head_of k.heads) k.rows }
