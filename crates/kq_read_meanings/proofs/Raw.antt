-- The raw text of a typed literal is a piece of it.
use Rattle.std.proofs.Common.{◌≡◌, ℕ, ◌-◌, cond, List, [], length, length-drop, take, drop, ap, arith}
use Rattle.std.specs.Prelude.{slice_range}
use Rattle.kq_read_literals.specs.Raw.{raw_text_of}
use Rattle.kq_read_meanings.specs.Literals.{raw_said, raw_start}
use Rattle.kq_read_meanings.specs.Pieces.{cut, is_cut}

behind : (bytes : List ℕ) (k : ℕ) → slice_range bytes k (length bytes - 1) ≡ take (length (drop k bytes) - 1) (drop k bytes)
behind bytes k = let same : length bytes - 1 - k ≡ length (drop k bytes) - 1 = omega (arith, length-drop k bytes) in ap (λ n. take n (drop k bytes)) same

raw_piece : (bytes : List ℕ) → slice_range bytes (raw_start bytes) (length bytes - 1) ≡ raw_text_of bytes
unfolding raw_text_of
raw_piece bytes = behind bytes (raw_start bytes)

pub raw_cut : (bytes : List ℕ) → cut bytes (raw_start bytes) (length bytes - 1) ≡ raw_said bytes
raw_cut bytes = ap (λ r. cond (is_cut bytes (raw_start bytes) (length bytes - 1)) r []) (raw_piece bytes)
