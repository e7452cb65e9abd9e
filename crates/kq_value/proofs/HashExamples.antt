-- FNV-1a's own test vectors, and one of MurmurHash3's finish.
use Rattle.std.proofs.Common.{◌≡◌, refl}
use Rattle.std.specs.Prelude.{codes}
use Rattle.kq_value.specs.Hash.{seed, bytes_hash, finish}

a_letter : bytes_hash seed (codes "a") ≡ 0xaf63_dc4c_8601_ec8c
a_letter = refl

a_word : bytes_hash seed (codes "foobar") ≡ 0x8594_4171_f739_67e8
a_word = refl

one_finished : finish 1 ≡ 0xb456_bcfc_34c2_cb2c
one_finished = refl
