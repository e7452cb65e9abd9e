use Rattle.std.proofs.Common.{rules}
use Rattle.kq_value.proofs.Trees.{length-keys_of}
use Rattle.kq_value.proofs.dynamic.DynBag.len.Goals as goal

pub returns : goal.returns
returns c = search (rules, length-keys_of)
