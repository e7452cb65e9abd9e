use Rattle.std.proofs.Common.{refl, rules}
use Rattle.kq_run_groups.proofs.Tables.{IsTable-push}
use Rattle.kq_run_groups.proofs.key_table.KeyTable.push_parts.Goals as goal

pub returns-clause-table : goal.returns-clause-table
returns-clause-table c =
    IsTable-push c.args.self.now _ c.args.key.now c.args.hash c.requires.table refl refl c.in_ok-push_copy.ensures.ok (search rules) (search rules) c.requires.hash c.requires.wide c.requires.absent c.requires.room
