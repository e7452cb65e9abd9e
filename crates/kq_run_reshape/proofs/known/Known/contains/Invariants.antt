use Rattle.kq_store_hash_chains.proofs.Search.{IsSought}
use Rattle.kq_store_hash_chains.proofs.Walks.{links_ahead}
use Rattle.kq_run_reshape.specs.Known.{head_of}
use Rattle.kq_run_reshape.proofs.known.Known.contains.Given as goal

abbrev pub invariant-loop-link : goal.invariant-loop-link
invariant-loop-link l = IsSought l.self.chain.added (head_of l.self.heads l.row) l.self.rows l.row l.link

abbrev pub decreases-loop-link : goal.decreases-loop-link
decreases-loop-link l = links_ahead l.link
