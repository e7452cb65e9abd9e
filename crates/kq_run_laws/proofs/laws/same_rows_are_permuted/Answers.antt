use Rattle.kq_value.proofs.SameLemmas.{IsPermutation-from_Same, Same-from_permutation}
use Rattle.kq_run_laws.proofs.laws.same_rows_are_permuted.Goals as goal

pub returns : goal.returns
returns c a b = (λ h. IsPermutation-from_Same a b h, λ h. Same-from_permutation a b h)
