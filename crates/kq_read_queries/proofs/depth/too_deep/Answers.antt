use Rattle.kq_read_queries.proofs.DepthLaws.{deep_found}
use Rattle.kq_read_queries.proofs.depth.too_deep.Goals as goal

pub returns : goal.returns
returns c = deep_found c.args.symbols.now c.deep_place.result c.deep_place.ensures
