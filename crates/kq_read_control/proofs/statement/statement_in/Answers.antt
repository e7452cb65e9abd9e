use Rattle.kq_read_control.specs.ControlReading as reading
use Rattle.kq_read_control.specs.Controls.{statement_text}
use Rattle.kq_read_control.specs.ControlViews.{statement_of}
use Rattle.kq_read_control.proofs.Following.{statement_goes_on}
use Rattle.kq_read_symbols.specs.Classes.{of}
use Rattle.kq_read_control.proofs.StatementLaws.{statement_exact}
use Rattle.kq_read_queries.proofs.PlaceLaws.{whole_answers}
use Rattle.kq_read_control.proofs.statement.statement_in.Goals as goal

pub returns : goal.returns
returns c =
    let found = rw c.new-cursor.ensures at c.read_statement-found.ensures in
    whole_answers statement_text (of statement_goes_on) reading.statement statement_exact statement_of c.args.symbols.now _ c.args.end _ _ c.in_default.ensures found c.whole.ensures
