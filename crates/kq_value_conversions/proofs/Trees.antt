-- Arrays as lists of dynamics.
use Rattle.std.proofs.Common.{◌≡◌, List, [], ◌∷◌, map, refl, ap, ◌∙◌, sym}
use Rattle.kq_value.specs.Tree.{Tree, string, Trees, no_items, item, items_of, Entries, no_entries, entry, keys_of}
use Rattle.kq_value.specs.Seen.{tree_of, trees_of, entries_of}
use Rattle.kq_value.specs.declared.dynamic.Dyn.{Dyn}
use Rattle.kq_value.specs.declared.dynamic.Member.{Member}
use Rattle.kq_value_formats.specs.Members.{trees_from_list, strings}

pub trees_from-items_of : (ts : Trees) → trees_from_list (items_of ts) ≡ ts
trees_from-items_of no_items = refl
trees_from-items_of (item t ts) = ap (item t) (trees_from-items_of ts)

pub trees_of-map : (ds : List Dyn) → trees_of ds ≡ trees_from_list (map tree_of ds)
trees_of-map [] = refl
trees_of-map (d ∷ ds) = ap (item (tree_of d)) (trees_of-map ds)

pub items_of-strings : (es : Entries) → items_of (strings (keys_of es)) ≡ map string (keys_of es)
items_of-strings no_entries = refl
items_of-strings (entry k t es) = ap (λ ts. string k ∷ ts) (items_of-strings es)

abbrev pub key_of : Member → Tree
key_of m = string m.key

pub keys-map : (ms : List Member) → map string (keys_of (entries_of ms)) ≡ map key_of ms
keys-map [] = refl
keys-map (m ∷ ms) = ap (λ ts. string m.key ∷ ts) (keys-map ms)

-- arrays with the same items are the same
pub same_items : (a b : Trees) → items_of a ≡ items_of b → a ≡ b
same_items a b e = sym (trees_from-items_of a) ∙ ap trees_from_list e ∙ trees_from-items_of b
