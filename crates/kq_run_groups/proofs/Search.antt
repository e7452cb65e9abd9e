-- The search for a key behind the head of its hash.
use Rattle.std.proofs.Common.{◌≡◌, inl, inr, ℕ, List, Option, None, map, sym, ap, ◌∙◌, arith}
use Rattle.std.proofs.lemmas.Bool.{cases_lt}
use Rattle.std.proofs.lemmas.Simd.{map-map}
use Rattle.kq_store_hash_chains.specs.Chain.{ChainState}
use Rattle.kq_store_hash_chains.proofs.Search.{IsSought, sought_in_vain}
use Rattle.kq_value.specs.declared.value.Value.{Value}
use Rattle.kq_value.specs.Same.{times}
use Rattle.kq_value.proofs.SameLemmas.{place_of}
use Rattle.kq_run_groups.specs.declared.key_table.KeyTable.{KeyTable}
use Rattle.kq_run_groups.specs.Keys.{IsTable, head_of, key_hash}

-- the head that a key is filed under
abbrev pub head_for : KeyTable → List Value → ℕ
head_for t key = head_of t.heads (key_hash key)

-- where each key is in the chain
pub filed_keys : (t : KeyTable) → IsTable t → t.chain.added ≡ map (head_for t) t.keys
filed_keys t f = ap (λ (c : ChainState). c.added) f.filed ∙ ap (map (head_of t.heads)) f.hashed ∙ map-map (head_of t.heads) key_hash t.keys

pub sought_none : (t : KeyTable) (key : List Value) (link : Option ℕ) → IsSought t.chain.added (head_for t key) t.keys key link → link ≡ None → times key t.keys ≡ 0
sought_none t key link s is = elim (cases_lt 0 (times key t.keys)) [
  | inl some ↦ let p = place_of key t.keys some in absurd (sought_in_vain t.chain.added (head_for t key) t.keys key link p.0 s is p.1.0 (sym p.1.1))
  | inr none ↦ omega (arith, none)
]
