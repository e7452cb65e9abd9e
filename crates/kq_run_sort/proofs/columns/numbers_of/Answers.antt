use Rattle.std.proofs.Common.{rules, sym, ◌∙◌}
use Rattle.std.proofs.lemmas.Option.{IfSome_then}
use Rattle.kq_run_sort.proofs.Gathered.{column_got}
use Rattle.kq_run_sort.proofs.columns.numbers_of.Goals as goal

pub returns-then-j-len : goal.returns-then-j-len
returns-then-j-len c =
    let same = column_got c.args.part.now c.args.j c.index.result.now (search rules) c.index.ensures in
    IfSome_then c.numbers_in.result c.numbers_in.ensures (λ xs is. sym is ∙ same)
