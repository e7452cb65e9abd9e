use Rattle.std.proofs.Common.{ap, ◌∙◌, rules}
use Rattle.std.proofs.lemmas.Iterator.{YieldsList-from_zip}
use Rattle.std.proofs.lemmas.Iterator.Adapters.{YieldsList-from_vec}
use Rattle.std.proofs.lemmas.Iterator.Consumers.{YieldsList-end}
use Rattle.kq_bind_columns.specs.Laying.{all_laid}
use Rattle.kq_bind_columns.specs.Made.{columns_of}
use Rattle.kq_bind_columns.proofs.LaidOver.{laid-more, seen-all}
use Rattle.kq_bind_columns.proofs.laying.all_laid.Goals as goal

pub loop-expr-preserved : goal.loop-expr-preserved
loop-expr-preserved c = laid-more (columns_of c.args.before) (columns_of c.loop-expr.columns) (columns_of c.in_ok-columns.columns) c.loop-expr.yielded c.in-Some.expr c.in-Some.field c.loop-expr.invariant c.in_ok-columns.ensures

pub returns : goal.returns
returns c =
    let pairs = c.into_iter-expr-iterator.result in
    let exprs = YieldsList-from_vec {s = pairs.a} c.args.exprs.items (search rules) (search rules) in
    let fields = YieldsList-from_vec {s = pairs.b} c.args.fields.items (search rules) (search rules) in
    let all = YieldsList-end (YieldsList-from_zip {s = pairs} exprs fields) c.loop-expr.yielded c.loop-expr.expr-iterator c.loop-expr.yielded_by c.next.result c.next.new.self c.in-None.is c.next.ensures.steps in
    c.loop-expr.invariant ∙ ap (all_laid (columns_of c.args.before)) (seen-all c.loop-expr.yielded c.args.exprs.items c.args.fields.items all.0)
