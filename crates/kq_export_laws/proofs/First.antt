-- The first token of an expression is its first symbol.
use Rattle.std.proofs.Common.{◌≡◌, List, ◌∷◌, ◌++◌, Some, refl}
use Rattle.kq_bind_columns.specs.Defaults.{first_token}
use Rattle.kq_read_grammar.specs.Trees.{Tree, name, literal, group, call, path, signed, compare, within, between, chain}
use Rattle.kq_export_laws.specs.Symbols.{Spoken, sign, tree_symbols, trees_symbols, links_symbols, step_symbols, steps_symbols}
use Rattle.kq_export_laws.specs.Searches.{found, is_any}
use Rattle.kq_export_laws.proofs.Found.{found_in_both}

behind : (e : Tree) (xs : List Spoken) → Some (first_token e) ≡ found is_any (tree_symbols e) → Some (first_token e) ≡ found is_any (tree_symbols e ++ xs)
behind e xs h = found_in_both is_any (tree_symbols e) xs (Some (first_token e)) (found is_any xs) h refl

pub token_first : (e : Tree) → Some (first_token e) ≡ found is_any (tree_symbols e)
token_first (name n) = refl
token_first (literal t) = refl
token_first (group t e) = refl
token_first (call t es) = refl
token_first (path e p ps) = behind e (step_symbols p ++ steps_symbols ps) (token_first e)
token_first (signed t e) = refl
token_first (compare a t b) = behind a (sign t ∷ tree_symbols b) (token_first a)
token_first (within a t e es) = behind a (sign t ∷ tree_symbols e ++ trees_symbols es) (token_first a)
token_first (between a t b c) = behind a (sign t ∷ tree_symbols b ++ tree_symbols c) (token_first a)
token_first (chain l a t b ls) = behind a (sign t ∷ tree_symbols b ++ links_symbols ls) (token_first a)
