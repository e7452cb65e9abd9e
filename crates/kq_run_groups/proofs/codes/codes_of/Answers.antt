use Rattle.std.proofs.Common.{List, map, pos, subst, sym}
use Rattle.kq_value.specs.declared.value.Value.{Value}
use Rattle.kq_store_column_view.specs.Vectors.{cells_of}
use Rattle.kq_run_groups.specs.Columns.{TellCells}
use Rattle.kq_run_groups.proofs.Columns.{tell_words, told_by}
use Rattle.kq_run_groups.proofs.codes.codes_of.Goals as goal

pub returns-in-Some-words : goal.returns-in-Some-words
returns-in-Some-words c =
    let codes = c.in-Some-words.codes.now in
    told_by c.widened.result (map pos codes) (cells_of c.args.column.now) c.widened.ensures
    (subst (λ (cells : List Value). TellCells (map pos codes) cells) (sym c.in-Some-words.ensures) (tell_words c.in-Some-words.field-0-0.now codes))
