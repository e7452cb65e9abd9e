-- The equality of values is one, and equal values have one hash.
use Rattle.std.specs.Prelude.{◌≡◌, true, ℕ, List}
use Rattle.std.proofs.Common.{ap}
use Rattle.std.specs.Cmp.{IsEquivalence, IsPartialEquivalence, partial_equiv_from_equiv, eq_by_cmp_equiv}
use Rattle.std.specs.Hash as fed
use Rattle.kq_value.specs.Hash.{hash_of}
use Rattle.kq_value.specs.Values.{is_same}
use Rattle.kq_value.specs.declared.value.Value.{Value}
use Rattle.kq_value.proofs.Equals.{is_same-Decides}
use Rattle.kq_value.proofs.Totals.{value_cmp_total}

pub is_same_equiv : IsEquivalence is_same
is_same_equiv = eq_by_cmp_equiv value_cmp_total

pub is_same_per : IsPartialEquivalence is_same
is_same_per = partial_equiv_from_equiv is_same_equiv

-- what is written to a hasher for a value
abbrev pub written : Value → List (List ℕ)
written v = fed.u64 (hash_of v)

pub written_same : (x y : Value) → is_same x y ≡ true → written x ≡ written y
written_same x y h = ap written ((is_same-Decides x y).0 h)
