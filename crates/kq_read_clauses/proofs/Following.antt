-- The symbols with which each form may go on. A name, an aggregate, a renaming, a join's kind or key, a column and a cell go on with none.
use Rattle.std.specs.Prelude.{◌||◌}
use Rattle.kq_read_clauses.specs.Reading.{begins_argument}
use Rattle.kq_read_grammar.specs.Clauses.{called}
use Rattle.kq_read_grammar.proofs.Precedences.{goes_on}
use Rattle.kq_read_symbols.specs.declared.word.ClauseWord.TheVariants as w
use Rattle.kq_read_symbols.specs.Classes as k
use Rattle.kq_read_symbols.specs.Classes.{Class}

abbrev pub names_go_on : Class
names_go_on = k.comma

abbrev pub item_goes_on : Class
item_goes_on x = k.assign x || goes_on 0 x

abbrev pub items_go_on : Class
items_go_on x = k.comma x || item_goes_on x

abbrev pub grouping_goes_on : Class
grouping_goes_on = items_go_on

abbrev pub key_goes_on : Class
key_goes_on x = k.direction x || k.clause w.Nulls x || goes_on 0 x

abbrev pub keys_go_on : Class
keys_go_on x = k.comma x || key_goes_on x

abbrev pub argument_goes_on : Class
argument_goes_on = goes_on 0

abbrev pub arguments_go_on : Class
arguments_go_on x = k.comma x || begins_argument x || goes_on 0 x

abbrev pub aggregates_go_on : Class
aggregates_go_on = k.comma

abbrev pub renamings_go_on : Class
renamings_go_on = k.comma

abbrev pub join_keys_go_on : Class
join_keys_go_on = k.comma

abbrev pub columns_go_on : Class
columns_go_on = k.comma

-- cells may be none, and a comma may stand behind the last
abbrev pub cells_go_on : Class
cells_go_on x = k.comma x || k.begins_cell x

abbrev pub begins_aggregate : Class
begins_aggregate x = called x || k.open_bracket x
