-- The search for a row behind the head of its hash.
use Rattle.std.proofs.Common.{◌≡◌, ◌<◌, ℕ, zero, suc, List, [], ◌∷◌, Option, None, length, map, sym, ap, subst, arith}
use Rattle.kq_store_hash_chains.specs.Chain.{ChainState}
use Rattle.kq_store_hash_chains.proofs.Search.{IsSought, sought_in_vain}
use Rattle.kq_store_rows.specs.Chunks.{row_at}
use Rattle.kq_value.specs.declared.value.Value.{Value}
use Rattle.kq_value.specs.Same.{times}
use Rattle.kq_value.proofs.SameLemmas.{place_of, times-itself}
use Rattle.kq_run_reshape.specs.declared.known.Known.{Known}
use Rattle.kq_run_reshape.specs.Known.{IsFiled, head_of}

-- where each row is in the chain
pub filed_rows : (k : Known) → IsFiled k → k.chain.added ≡ map (head_of k.heads) k.rows
filed_rows k f = ap (λ (c : ChainState). c.added) f.filed

pub sought_none : (k : Known) (row : List Value) (link : Option ℕ) → IsSought k.chain.added (head_of k.heads row) k.rows row link → link ≡ None → 0 < times row k.rows → ⊥
sought_none k row link s is h = let p = place_of row k.rows h in sought_in_vain k.chain.added (head_of k.heads row) k.rows row link p.0 s is p.1.0 (sym p.1.1)

-- a row that stands at a place stands there at least once
pub stands_at : (rows : List (List Value)) (row : List Value) (i : ℕ) → i < length rows → row_at rows i ≡ row → 0 < times row rows
stands_at [] row i h e = absurd (omega arith)
stands_at (r ∷ rows) row zero h e = subst (λ (s : List Value). 0 < times s (r ∷ rows)) e (rw times-itself (omega arith))
stands_at (r ∷ rows) row (suc i) h e = let k = stands_at rows row i (omega arith) e in omega arith
