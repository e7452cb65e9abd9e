-- The symbols with which a command may go on.
use Rattle.std.specs.Prelude.{◌||◌}
use Rattle.kq_read_queries.proofs.Following.{query_goes_on}
use Rattle.kq_read_symbols.specs.declared.word.ControlWord.TheVariants as w
use Rattle.kq_read_symbols.specs.declared.word.ReservedWord.TheVariants as r
use Rattle.kq_read_symbols.specs.Classes as k
use Rattle.kq_read_symbols.specs.Classes.{Class}

abbrev pub hashed_goes_on : Class
hashed_goes_on = k.control w.Over

abbrev pub statement_goes_on : Class
statement_goes_on x = hashed_goes_on x || query_goes_on x

-- what a query begins with
abbrev pub begins_query : Class
begins_query x = k.reserved r.Let x || k.begins_tabular x
