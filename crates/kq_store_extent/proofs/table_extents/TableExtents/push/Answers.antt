use Rattle.std.proofs.Common.{◌≡◌, List, true, false, length, ap, ◌∙◌, arith}
use Rattle.std.specs.Arc.{arc_value}
use Rattle.std.proofs.lemmas.Bool.{lt-ltb, le-ltb}
use Rattle.std.proofs.lemmas.Result.{on_ok_weaker, on_err_weaker}
use Rattle.kq_store_extent.specs.Seen.{ExtentView}
use Rattle.kq_store_extent.specs.Split.{is_small}
use Rattle.kq_store_extent.proofs.Filters.{AreSplit-more, held_by, put_in_small, put_in_big}
use Rattle.kq_store_extent.proofs.table_extents.TableExtents.push.Goals as goal

pub returns-then-len-lt-SMALL : goal.returns-then-len-lt-SMALL
returns-then-len-lt-SMALL c =
    let s = c.self.inside in
    let e = arc_value c.args.extent in
    let n = c.len.ensures.count ∙ ap (λ (x : ExtentView). length x.records) c.deref.ensures in
    let is : is_small e ≡ true = lt-ltb (length e.records) 4096 (omega (arith, n, c.if-len-lt-SMALL.true)) in
    record {
      ok = on_ok_weaker c.push.result (λ items. put_in_small s.small s.big c.push.new.self c.args.self.now e c.self.view_is is items) c.push.ensures.ok;
      split = on_ok_weaker c.push.result (λ items all split. AreSplit-more all c.args.self.now (held_by c.push.new.self s.big) e (put_in_small s.small s.big c.push.new.self c.args.self.now e c.self.view_is is items) split) c.push.ensures.ok;
      err = on_err_weaker c.push.result (λ same. ap (λ (es : List ExtentView). held_by es s.big) same ∙ c.self.view_is) c.push.ensures.err;
    }

pub returns-else-len-lt-SMALL : goal.returns-else-len-lt-SMALL
returns-else-len-lt-SMALL c =
    let s = c.self.inside in
    let e = arc_value c.args.extent in
    let n = c.len.ensures.count ∙ ap (λ (x : ExtentView). length x.records) c.deref.ensures in
    let is : is_small e ≡ false = le-ltb (length e.records) 4096 (omega (arith, n, c.if-len-lt-SMALL.false)) in
    record {
      ok = on_ok_weaker c.push-else-len-lt-SMALL.result (λ items. put_in_big s.small s.big c.push-else-len-lt-SMALL.new.self c.args.self.now e c.self.view_is is items) c.push-else-len-lt-SMALL.ensures.ok;
      split = on_ok_weaker c.push-else-len-lt-SMALL.result
          (λ items all split. AreSplit-more all c.args.self.now (held_by s.small c.push-else-len-lt-SMALL.new.self) e (put_in_big s.small s.big c.push-else-len-lt-SMALL.new.self c.args.self.now e c.self.view_is is items) split)
          c.push-else-len-lt-SMALL.ensures.ok;
      err = on_err_weaker c.push-else-len-lt-SMALL.result (λ same. ap (λ (es : List ExtentView). held_by s.small es) same ∙ c.self.view_is) c.push-else-len-lt-SMALL.ensures.err;
    }
