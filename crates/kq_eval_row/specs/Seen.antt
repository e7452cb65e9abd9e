-- What stands around a row, as the definitions speak of it.
use Rattle.kq_eval_row.specs.declared.rows.Around.{Around}
use Rattle.kq_eval_row.specs.Val.{Surroundings, surroundings}

abbrev pub seen : Around → Surroundings
seen around = surroundings around.now around.lets.now
