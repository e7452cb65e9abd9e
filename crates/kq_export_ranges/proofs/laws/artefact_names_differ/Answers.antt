use Rattle.kq_export_ranges.proofs.Names.{one_name}
use Rattle.kq_export_ranges.proofs.laws.artefact_names_differ.Goals as goal

pub returns : goal.returns
returns c = λ name other r s ahead fits behind room same. one_name name other r.above s.above r.to s.to ahead fits behind room same
