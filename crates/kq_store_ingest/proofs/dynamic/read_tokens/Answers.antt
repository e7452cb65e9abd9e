use Rattle.std.proofs.Common.{◌≡◌, [], rules}
use Rattle.kq_value.specs.Seen.{tree_of}
use Rattle.kq_store_ingest.proofs.TokenLemmas.{whole_read}
use Rattle.kq_store_ingest.proofs.dynamic.read_tokens.Goals as goal

pub returns : goal.returns
returns c =
    let none : c.read_value.new.reader ≡ [] = search rules in
    whole_read c.args.text.now (tree_of c.in_ok-dynamic.dynamic) (rw (c.in_ok-reader.ensures.ok, none) at c.in_ok-dynamic.ensures.read)
