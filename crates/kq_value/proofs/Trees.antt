-- Dynamics in a list, as trees.
use Rattle.std.proofs.Common.{◌≡◌, ◌<◌, ℕ, zero, suc, List, [], ◌∷◌, ◌++◌, length, map, refl, ap, arith}
use Rattle.std.specs.Prelude.{slice_get}
use Rattle.std.specs.Option.{option_map}
use Rattle.kq_value.specs.Tree.{Tree, null, bool, long, string, array, bag, Entries, no_entries, entry, tree_depth, trees_depth, entries_depth, items_of, keys_of}
use Rattle.kq_value.specs.Bags.{IsAfter, KeysAscend, IsBag, push_entry}
use Rattle.kq_value.specs.Seen.{tree_of, dyn_of, trees_of, entries_of}
use Rattle.kq_value.specs.declared.dynamic.Dyn.{Dyn}
use Rattle.kq_value.specs.declared.dynamic.Dyn.TheVariants as dyn
use Rattle.kq_value.specs.declared.dynamic.Member.{Member}

pub dyn_of-tree_of : (d : Dyn) → dyn_of (tree_of d) ≡ d
dyn_of-tree_of dyn.Null = refl
dyn_of-tree_of (dyn.Bool b) = refl
dyn_of-tree_of (dyn.Long z) = refl
dyn_of-tree_of (dyn.Text bs) = refl
dyn_of-tree_of (dyn.List ts) = refl
dyn_of-tree_of (dyn.Bag es) = refl

pub tree_of-dyn_of : (t : Tree) → tree_of (dyn_of t) ≡ t
tree_of-dyn_of null = refl
tree_of-dyn_of (bool b) = refl
tree_of-dyn_of (long z) = refl
tree_of-dyn_of (string bs) = refl
tree_of-dyn_of (array ts) = refl
tree_of-dyn_of (bag es) = refl

pub items_of-trees_of : (ds : List Dyn) → items_of (trees_of ds) ≡ map tree_of ds
items_of-trees_of [] = refl
items_of-trees_of (d ∷ ds) = ap (λ ts. tree_of d ∷ ts) (items_of-trees_of ds)

-- the item at a place of the array is the tree of the one in the list
pub slice_get-items_of : (ds : List Dyn) (i : ℕ) → slice_get (items_of (trees_of ds)) i ≡ option_map tree_of (slice_get ds i)
slice_get-items_of [] i = refl
slice_get-items_of (d ∷ ds) zero = refl
slice_get-items_of (d ∷ ds) (suc i) = slice_get-items_of ds i

pub length-items_of : (ds : List Dyn) → length (items_of (trees_of ds)) ≡ length ds
length-items_of [] = refl
length-items_of (d ∷ ds) = ap suc (length-items_of ds)

pub length-keys_of : (ms : List Member) → length (keys_of (entries_of ms)) ≡ length ms
length-keys_of [] = refl
length-keys_of (m ∷ ms) = ap suc (length-keys_of ms)

pub items_of-push : (ds : List Dyn) (d : Dyn) → items_of (trees_of (ds ++ d ∷ [])) ≡ items_of (trees_of ds) ++ tree_of d ∷ []
items_of-push [] d = refl
items_of-push (e ∷ ds) d = ap (λ ts. tree_of e ∷ ts) (items_of-push ds d)

pub trees_depth-push : (ds : List Dyn) (d : Dyn) (n : ℕ) → trees_depth (trees_of ds) < n → tree_depth (tree_of d) < n → trees_depth (trees_of (ds ++ d ∷ [])) < n
trees_depth-push [] d n h k = omega arith
trees_depth-push (e ∷ ds) d n h k = omega (arith, trees_depth-push ds d n (omega arith) k)

pub entries_of-push : (ms : List Member) (m : Member) → entries_of (ms ++ m ∷ []) ≡ push_entry (entries_of ms) m.key (tree_of m.value)
entries_of-push [] m = refl
entries_of-push (l ∷ ms) m = ap (λ es. entry l.key (tree_of l.value) es) (entries_of-push ms m)

KeysAscend-push : (es : Entries) (k : List ℕ) (t : Tree) → KeysAscend es → IsAfter k es → KeysAscend (push_entry es k t)
KeysAscend-push no_entries k t h a = (tt, tt)
KeysAscend-push (entry l u no_entries) k t h a = (a, (tt, tt))
KeysAscend-push (entry l u (entry j v es)) k t h a = (h.0, KeysAscend-push (entry j v es) k t h.1 a)

entries_depth-push : (es : Entries) (k : List ℕ) (t : Tree) (n : ℕ) → entries_depth es < n → tree_depth t < n → entries_depth (push_entry es k t) < n
entries_depth-push no_entries k t n h d = omega arith
entries_depth-push (entry l u es) k t n h d = omega (arith, entries_depth-push es k t n (omega arith) d)

pub IsBag-push : (es : Entries) (k : List ℕ) (t : Tree) → IsBag es → IsAfter k es → tree_depth t < 127 → IsBag (push_entry es k t)
IsBag-push es k t b a d = record { keys_ascend = KeysAscend-push es k t b.keys_ascend a; shallow = entries_depth-push es k t 127 b.shallow d }
