use Rattle.std.proofs.Common.{◌≡◌, [], true, refl, sym, ◌∙◌}
use Rattle.kq_store_hash_chains.proofs.Search.{sought_first, sought_next, sought_within}
use Rattle.kq_run_reshape.specs.Known.{head_of}
use Rattle.kq_run_reshape.proofs.Filed.{filed_rows, sought_none, stands_at}
use Rattle.kq_run_reshape.proofs.known.Known.contains.Goals as goal

pub loop-link-init : goal.loop-link-init
loop-link-init c =
    let k = c.args.self.now in
    sought_first (head_of k.heads) k.chain.added c.head.result k.rows c.args.row.now c.first-link.result (filed_rows k c.requires) c.head.ensures.head c.first-link.ensures

pub returns-then-same_cells : goal.returns-then-same_cells
returns-then-same_cells c =
    let k = c.args.self.now in
    let row = c.args.row.now in
    let within = sought_within k.chain.added (head_of k.heads row) k.rows row c.loop-link.link c.in-Some.i c.loop-link.invariant c.in-Some.is in
    ((λ t. stands_at k.rows row c.in-Some.i within (sym c.row_in.ensures ∙ c.same_cells.ensures.0 c.if-same_cells.true ∙ c.as_slice.ensures)), λ h. refl)

pub loop-link-preserved : goal.loop-link-preserved
loop-link-preserved c =
    let k = c.args.self.now in
    let row = c.args.row.now in
    sought_next k.chain.added (head_of k.heads row) k.rows row [] c.loop-link.link c.next-link.result c.in-Some.i c.loop-link.invariant c.in-Some.is
    (λ e. let same : c.same_cells.result ≡ true = c.same_cells.ensures.1 (c.row_in.ensures ∙ e ∙ sym c.as_slice.ensures) in cc) c.next-link.ensures

pub returns : goal.returns
returns c = ((λ t. absurd (cc)), λ h. absurd (sought_none c.args.self.now c.args.row.now c.loop-link.link c.loop-link.invariant c.in_default.is h))
