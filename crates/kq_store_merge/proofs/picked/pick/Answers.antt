use Rattle.std.proofs.Common.{◌≡◌, Bool, false, cond, List, None, Some, length, min, nat_lt, take, ap, sym, ◌∙◌, arith}
use Rattle.std.proofs.lemmas.Bool.{le-ltb}
use Rattle.kq_store_merge.proofs.Front.{first_64}
use Rattle.kq_store_merge.proofs.picked.pick.Goals as goal

pub returns : goal.returns
returns c =
    let small = c.args.extents.now.small in
    let n = ap length c.small-small.ensures in
    let many : nat_lt (length small) 2 ≡ false = le-ltb (length small) 2 (omega (arith, n, c.if-len-lt2.false, c.len.ensures.count)) in
    let count : c.min-count.result ≡ min (length small) 64 = omega (arith, n, c.min-count.ensures, c.len-2.ensures.count) in
    ap Some (c.in_ok-first_of.ensures ∙ ap (take c.min-count.result) c.small-small.ensures ∙ first_64 small c.min-count.result count)
    ∙ ap (λ (b : Bool). cond b None (Some (take 64 small))) (sym many)
