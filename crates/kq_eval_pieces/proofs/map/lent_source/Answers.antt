use Rattle.std.proofs.Common.{◌≡◌, Option, sym, ap, ◌∙◌, subst}
use Rattle.std.specs.Prelude.{IfSome}
use Rattle.kq_store_column_view.specs.Vectors.{cells_of}
use Rattle.kq_store_column_view.specs.declared.vector.Vector.{Vector}
use Rattle.kq_eval_pieces.specs.Pieces.{column_of, piece_of}
use Rattle.kq_eval_pieces.specs.Sources.{cells_from}
use Rattle.kq_eval_pieces.specs.declared.sources.Source.{Source}
use Rattle.kq_eval_pieces.proofs.Mapped.{lent_gives}
use Rattle.kq_eval_pieces.proofs.map.lent_source.Goals as goal

pub returns-in-Some : goal.returns-in-Some
returns-in-Some g c =
    let rows = piece_of (g.R.Relation.rows c.args.relation.now) c.args.from c.args.to in
    let j = c.in-Column.j in
    let is = subst (λ (o : Option Vector). IfSome o (λ (v : Vector). cells_of v ≡ column_of j rows)) c.in-Some.is c.in_ok-column-in-Column.ensures in
    lent_gives c.in-Some.column j rows is ∙ ap (λ (x : Source). cells_from x 0 rows) (sym c.in-Column.is)
