use Rattle.std.proofs.Common.{◌≡◌, List, true, false, drop, length, ap, ◌∙◌, arith}
use Rattle.std.specs.Arc.{arc_value}
use Rattle.std.proofs.lemmas.Bool.{lt-ltb, le-ltb}
use Rattle.std.proofs.lemmas.Result.{on_ok_weaker, on_err_weaker}
use Rattle.kq_store_extent.specs.Seen.{ExtentView}
use Rattle.kq_store_extent.specs.Split.{is_small, put, without, without_first}
use Rattle.kq_store_extent.proofs.Filters.{AreSplit-more, AreSplit-without, held_by, put_in_small, put_in_big}
use Rattle.kq_store_extent.proofs.table_extents.TableExtents.merge.Goals as goal

pub returns-then-len-lt-SMALL : goal.returns-then-len-lt-SMALL
returns-then-len-lt-SMALL c =
    let s = c.self.inside in
    let e = arc_value c.args.merged in
    let k = c.args.count in
    let old = c.args.self.now in
    let n = c.len.ensures.count ∙ ap (λ (x : ExtentView). length x.records) c.deref.ensures in
    let is : is_small e ≡ true = lt-ltb (length e.records) 4096 (omega (arith, n, c.if-len-lt-SMALL.true)) in
    let view : held_by (drop k s.small) s.big ≡ without_first k old = ap (without_first k) c.self.view_is in
    record {
      ok = on_ok_weaker c.replace_front.result (λ items. put_in_small (drop k s.small) s.big c.replace_front.new.self (without_first k old) e view is items) c.replace_front.ensures.ok;
      split = on_ok_weaker c.replace_front.result
          (λ items all split. AreSplit-more (without k is_small all) (without_first k old) (held_by c.replace_front.new.self s.big) e (put_in_small (drop k s.small) s.big c.replace_front.new.self (without_first k old) e view is items) (AreSplit-without all k old split))
          c.replace_front.ensures.ok;
      err = on_err_weaker c.replace_front.result (λ same. ap (λ (es : List ExtentView). held_by es s.big) same ∙ c.self.view_is) c.replace_front.ensures.err;
    }

pub returns-in_ok-push : goal.returns-in_ok-push
returns-in_ok-push c =
    let s = c.self.inside in
    let e = arc_value c.args.merged in
    let k = c.args.count in
    let old = c.args.self.now in
    let n = c.len.ensures.count ∙ ap (λ (x : ExtentView). length x.records) c.deref.ensures in
    let is : is_small e ≡ false = le-ltb (length e.records) 4096 (omega (arith, n, c.if-len-lt-SMALL.false)) in
    let view : held_by (drop k s.small) s.big ≡ without_first k old = ap (without_first k) c.self.view_is in
    let ok : held_by c.drop_front.new.self c.push.new.self ≡ put (without_first k old) e =
    ap (λ (es : List ExtentView). held_by es c.push.new.self) c.drop_front.ensures ∙ put_in_big (drop k s.small) s.big c.push.new.self (without_first k old) e view is c.in_ok-push.ensures.ok in
    record {
      ok = ok;
      split = λ all split. AreSplit-more (without k is_small all) (without_first k old) (held_by c.drop_front.new.self c.push.new.self) e ok (AreSplit-without all k old split);
      err = tt;
    }
