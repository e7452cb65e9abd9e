-- The heads that links were added to.
use Rattle.std.specs.Prelude.{ℕ, List, [], ◌∷◌, ◌++◌}
use Rattle.kq_store_hash_chains.specs.declared.added.Link.{Link}
use Rattle.kq_store_hash_chains.specs.declared.added.Link.TheVariants.{Start, More}

-- the heads before, and one more
abbrev pub heads : Link → List ℕ
heads Start = []
heads (More before head) = before.value ++ head ∷ []
