use Rattle.std.proofs.Common.{◌≡◌, ◌++◌, drop, map}
use Rattle.kq_value.specs.Computed.{Is, and_then}
use Rattle.kq_value.specs.declared.value.Value.TheVariants.{Long}
use Rattle.kq_eval_kernels.specs.Pairs.{each_two}
use Rattle.kq_eval_kernels.proofs.zip.zip_longs.Given as goal

-- what has been made, then what the rest gives, is the whole
abbrev pub invariant-loop-i : goal.invariant-loop-i
invariant-loop-i g l =
    let f = g.O.LongOperator.operator in
    each_two f (map Long l.a) (map Long l.b) ≡ and_then (each_two f (drop l.i (map Long l.a)) (drop l.i (map Long l.b))) (λ zs. Is (map Long l.longs.items ++ zs))
