use Rattle.kq_catalog_journal.specs.History.{log}
use Rattle.kq_export_ranges.proofs.Names.{put_once}
use Rattle.kq_export_ranges.proofs.laws.each_artefact_is_put_once.Goals as goal

pub returns : goal.returns
returns c = λ h x puts is fits. put_once (log h) x.defined is.apart fits x.ranges puts is.committed (λ n. (0, (is.ranges n).in_turn))
