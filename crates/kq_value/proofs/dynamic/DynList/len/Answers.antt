use Rattle.std.proofs.Common.{rules}
use Rattle.kq_value.proofs.Trees.{length-items_of}
use Rattle.kq_value.proofs.dynamic.DynList.len.Goals as goal

pub returns : goal.returns
returns c = search (rules, length-items_of)
