use Rattle.kq_store_ingest.proofs.TokenLemmas.{put_at}
use Rattle.kq_store_ingest.proofs.dynamic.put.Goals as goal

pub returns : goal.returns
returns c = put_at c.args.bag.now.items c.insert.new.self.items c.in-Some.place c.args.member c.requires c.in-Some.ensures.1 c.in-Some.ensures.2 c.in_ok-insert.ensures.items
