-- The symbols with which each form may go on. A name of a table, a source in parentheses, an arm and a let go on with none.
use Rattle.std.specs.Prelude.{◌||◌}
use Rattle.kq_read_clauses.proofs.Following.{item_goes_on, items_go_on, grouping_goes_on, keys_go_on}
use Rattle.kq_read_symbols.specs.declared.word.ClauseWord.TheVariants as w
use Rattle.kq_read_symbols.specs.declared.word.ReservedWord.TheVariants as r
use Rattle.kq_read_symbols.specs.Classes as k
use Rattle.kq_read_symbols.specs.Classes.{Class}

-- an arm may be named `kind`
abbrev pub union_goes_on : Class
union_goes_on x = k.comma x || k.assign x

abbrev pub source_goes_on : Class
source_goes_on = items_go_on

abbrev pub summarize_goes_on : Class
summarize_goes_on x = k.reserved r.By x || grouping_goes_on x

abbrev pub expansion_goes_on : Class
expansion_goes_on x = k.clause w.To x || item_goes_on x

abbrev pub operator_goes_on : Class
operator_goes_on x = k.reserved r.By x || k.clause w.To x || items_go_on x || keys_go_on x

abbrev pub tabular_goes_on : Class
tabular_goes_on x = k.pipe x || operator_goes_on x

abbrev pub query_goes_on : Class
query_goes_on x = k.semicolon x || tabular_goes_on x
