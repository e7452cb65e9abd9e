-- The law is proved over the definition.
use Rattle.kq_export_laws.proofs.Foreign.{foreign_found, place_found}
use Rattle.kq_export_laws.proofs.symbols.what_is_foreign_is_found.Goals as goal

pub returns-clause-leftmost : goal.returns-clause-leftmost
returns-clause-leftmost c = foreign_found

pub returns-clause-place : goal.returns-clause-place
returns-clause-place c = place_found
