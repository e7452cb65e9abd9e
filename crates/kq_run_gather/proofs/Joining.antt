-- Rows whose parts were gathered by themselves come to what they come to as a whole.
use Rattle.std.proofs.Common.{◌≡◌, ◌++◌, ◌∙◌, min, List, drop, length, map, sym, ap, subst}
use Rattle.kq_value.specs.Computed.{Computed, Is, Overflow, and_then}
use Rattle.kq_plan_expressions.specs.Terms.{Term}
use Rattle.kq_run_groups.specs.Groups.{Grouping, beside}
use Rattle.kq_run_groups.specs.Merges.{Merges}
use Rattle.kq_run_scan.specs.kq_eval_pieces.Operators.{Row}
use Rattle.kq_plan.specs.Fits.{ty_of}
use Rattle.kq_plan.specs.Plans.{Aggregating}
use Rattle.kq_run_scan.specs.kq_eval_row.Val.{Surroundings}
use Rattle.kq_run_row_operators.proofs.Laws.{ran_append}
use Rattle.kq_run_row_operators.specs.Ran.{Ran, came, failed, joined}
use Rattle.kq_value.specs.declared.schema.Field.{Field}
use Rattle.kq_value.specs.declared.ty.Ty.{Ty}
use Rattle.kq_run_gather.specs.Arriving.{ArriveAs}
use Rattle.kq_run_gather.specs.Grouping.{GroupsOf, keyed}
use Rattle.kq_run_gather.specs.Joined.{AreAlike, JoinTo}
use Rattle.kq_run_gather.specs.Summaries.{ComesAs, ComesOf, ran_of}
use Rattle.kq_run_gather.specs.declared.arriving.Arrived.{Arrived}
use Rattle.kq_run_gather.specs.declared.arriving.Arrived.TheVariants as arrived
use Rattle.kq_run_gather.specs.declared.summarize.Summarize.{Summarize}
use Rattle.kq_run_gather.proofs.Regrouped.{keyed_append, keyed_more, overflows}

-- the groups of rows in two parts
pub both_groups : (es : List Term) (gs : List Aggregating) (ts : List Ty) (s : Surroundings) (xs ys : List Row) (g h m : Grouping) → GroupsOf es gs ts s xs g → GroupsOf es gs ts s ys h → Merges h g m → GroupsOf es gs ts s (xs ++ ys) m
both_groups es gs ts s xs ys g h m a b merges = record {
  keys = a.keys ++ b.keys;
  args = beside a.args b.args;
  keyed_so = keyed_more es gs s xs ys a.keys b.keys a.args b.args a.keyed_so b.keyed_so;
  width_is = merges.width_is ∙ a.width_is;
  shapes = merges.shapes ∙ a.shapes;
  whole = merges.whole;
  stands = merges.more a.keys b.keys a.args b.args a.stands b.stands;
}

module _ (es : List Term) (gs : List Aggregating) (cs : List Field) (s : Surroundings) where
  lost_first : (xs ys : List Row) → keyed es gs s xs ≡ Overflow → keyed es gs s (xs ++ ys) ≡ Overflow
  lost_first xs ys over = keyed_append es gs s xs ys ∙ ap (λ (c : Computed (List Row × List (List Row))). and_then c (λ u. and_then (keyed es gs s ys) (λ v. Is (u.0 ++ v.0, beside u.1 v.1)))) over

  lost_last : (xs ys : List Row) → keyed es gs s ys ≡ Overflow → keyed es gs s (xs ++ ys) ≡ Overflow
  lost_last xs ys over = keyed_append es gs s xs ys ∙ overflows (keyed es gs s xs) (keyed es gs s ys) over

  pub alike_so : (r q : Ran) (a b : Arrived) → ArriveAs es gs cs s r a → ArriveAs es gs cs s q b → AreAlike a b
  alike_so (came xs) (came ys) (arrived.Groups g) (arrived.Groups h) p q = record { whole = p.whole; other = q.whole; width = q.width_is ∙ sym p.width_is; shapes = q.shapes ∙ sym p.shapes }
  alike_so (came xs) (failed m) (arrived.Groups g) (arrived.Groups h) p q = absurd q
  alike_so (failed n) r (arrived.Groups g) (arrived.Groups h) p q = absurd p
  alike_so r t (arrived.Groups g) arrived.Overflow p q = tt
  alike_so r t (arrived.Groups g) (arrived.Failed m) p q = tt
  alike_so r t arrived.Overflow b p q = tt
  alike_so r t (arrived.Failed n) b p q = tt

  pub arrive_joined : (r q : Ran) (a b c : Arrived) → ArriveAs es gs cs s r a → ArriveAs es gs cs s q b → JoinTo a b c → ArriveAs es gs cs s (joined r q) c
  arrive_joined (came xs) (came ys) (arrived.Groups g) (arrived.Groups h) c p q (m, is, merges) =
      subst (ArriveAs es gs cs s (came (xs ++ ys))) (sym is) (both_groups es gs (map ty_of (drop (length es) cs)) s xs ys g h m p q merges)
  arrive_joined (came xs) (came ys) (arrived.Groups g) arrived.Overflow c p q is = subst (ArriveAs es gs cs s (came (xs ++ ys))) (sym is) (lost_last xs ys q)
  arrive_joined (came xs) (came ys) (arrived.Groups g) (arrived.Failed m) c p q is = absurd q
  arrive_joined (came xs) (came ys) arrived.Overflow (arrived.Groups h) c p q is = subst (ArriveAs es gs cs s (came (xs ++ ys))) (sym is) (lost_first xs ys p)
  arrive_joined (came xs) (came ys) arrived.Overflow arrived.Overflow c p q is = subst (ArriveAs es gs cs s (came (xs ++ ys))) (sym is) (lost_first xs ys p)
  arrive_joined (came xs) (came ys) arrived.Overflow (arrived.Failed m) c p q is = absurd q
  arrive_joined (came xs) (came ys) (arrived.Failed n) b c p q is = absurd p
  arrive_joined (came xs) (failed k) (arrived.Groups g) (arrived.Failed m) c p q is = subst (ArriveAs es gs cs s (failed k)) (sym is) q
  arrive_joined (came xs) (failed k) arrived.Overflow (arrived.Failed m) c p q is = subst (ArriveAs es gs cs s (failed k)) (sym is) q
  arrive_joined (came xs) (failed k) (arrived.Failed n) b c p q is = absurd p
  arrive_joined (came xs) (failed k) (arrived.Groups g) (arrived.Groups h) c p q is = absurd q
  arrive_joined (came xs) (failed k) (arrived.Groups g) arrived.Overflow c p q is = absurd q
  arrive_joined (came xs) (failed k) arrived.Overflow (arrived.Groups h) c p q is = absurd q
  arrive_joined (came xs) (failed k) arrived.Overflow arrived.Overflow c p q is = absurd q
  arrive_joined (failed j) r (arrived.Groups g) b c p q is = absurd p
  arrive_joined (failed j) r arrived.Overflow b c p q is = absurd p
  arrive_joined (failed j) (came ys) (arrived.Failed n) (arrived.Groups h) c p q is = subst (ArriveAs es gs cs s (failed j)) (sym is) p
  arrive_joined (failed j) (came ys) (arrived.Failed n) arrived.Overflow c p q is = subst (ArriveAs es gs cs s (failed j)) (sym is) p
  arrive_joined (failed j) (came ys) (arrived.Failed n) (arrived.Failed m) c p q is = absurd q
  arrive_joined (failed j) (failed k) (arrived.Failed n) (arrived.Groups h) c p q is = absurd q
  arrive_joined (failed j) (failed k) (arrived.Failed n) arrived.Overflow c p q is = absurd q
  arrive_joined (failed j) (failed k) (arrived.Failed n) (arrived.Failed m) c p q is =
      subst (ArriveAs es gs cs s (failed (min j k))) (sym is) (λ i. min (p i) (q i))

-- ---- over rows

-- the whole rows in two parts, of which each came to something
pub alike : (asked : Summarize) (xs ys : List Row) (a b : Arrived) → ComesOf asked xs a → ComesOf asked ys b → AreAlike a b
alike asked xs ys a b p q = alike_so _ _ _ _ (ran_of asked xs) (ran_of asked ys) a b p q

pub comes_joined : (asked : Summarize) (whole xs ys : List Row) (a b c : Arrived) → whole ≡ xs ++ ys → ComesOf asked xs a → ComesOf asked ys b → JoinTo a b c → ComesOf asked whole c
comes_joined asked whole xs ys a b c is p q joins =
    subst (λ (r : Ran). ComesAs asked r c) (sym (ap (ran_of asked) is ∙ ran_append _ _ xs ys))
    (arrive_joined _ _ _ _ (ran_of asked xs) (ran_of asked ys) a b c p q joins)
