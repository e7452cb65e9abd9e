-- Bags by their members: one member more, the bag at a place, and its value at a key.
use Rattle.std.proofs.Common.{◌≡◌, ◌<◌, ◌+◌, ℕ, List, [], ◌∷◌, ◌++◌, Option, Some, unwrap_or, length, take, slice_get, get_or, refl, sym, ap, ◌∙◌, arith}
use Rattle.std.proofs.lemmas.List.{take_more}
use Rattle.std.proofs.lemmas.List.FromFn.{get_or-map-range_with_len, length-map-range_with_len}
use Rattle.std.proofs.lemmas.Option.{slice_get_read, unwrap_or-slice_get}
use Rattle.kq_value.specs.Bags.{push_entry, value_at}
use Rattle.kq_value.specs.Seen.{dyn_of, entries_of, tree_of}
use Rattle.kq_value.specs.Tree.{Entries, entry, null}
use Rattle.kq_value.specs.declared.dynamic.Dyn.{Dyn}
use Rattle.kq_value.specs.declared.dynamic.Dyn.TheVariants as dyn
use Rattle.kq_value.specs.declared.dynamic.Member.{Member}
use Rattle.kq_value.specs.declared.value.Value.TheVariants.{Dynamic}
use Rattle.kq_value.proofs.Trees.{entries_of-push}
use Rattle.kq_store_column_view.specs.Bags.{bag_at, bags_in, entries_at, member_in}
use Rattle.kq_store_column_view.specs.Vectors.{cell_of, dynamic_of, member_at}
use Rattle.kq_store_column_view.specs.declared.bags.Part.{Part}
use Rattle.kq_store_column_view.proofs.Masked.{cell_got}

pub take_next : {X : Type 0} (xs : List X) (i : ℕ) (x : X) → i < length xs → x ≡ get_or xs i x → take (i + 1) xs ≡ take i xs ++ x ∷ []
take_next {X} xs i x within is = take_more xs i x within ∙ ap (λ (y : X). take i xs ++ y ∷ []) (sym is)

entries_at-push : (ps : List Part) (p : Part) (i : ℕ) → entries_at (ps ++ p ∷ []) i ≡ push_entry (entries_at ps i) p.key (tree_of (member_in p i))
entries_at-push [] p i = refl
entries_at-push (q ∷ ps) p i = ap (λ (es : Entries). entry q.key (tree_of (member_in q i)) es) (entries_at-push ps p i)

-- one member more
pub entries_next : (ms : List Member) (m : Member) (parts : List Part) (k i : ℕ) (p : Part) → k < length parts → p ≡ get_or parts k p → entries_of ms ≡ entries_at (take k parts) i
    → m.key ≡ p.key → m.value ≡ member_in p i → entries_of (ms ++ m ∷ []) ≡ entries_at (take (k + 1) parts) i
entries_next ms m parts k i p within is so_far key value =
    entries_of-push ms m ∙ (λ t. push_entry (so_far t) (key t) (tree_of (value t))) ∙ sym (entries_at-push (take k parts) p i) ∙ ap (λ (ps : List Part). entries_at ps i) (sym (take_next parts k p within is))

pub length-bags_in : (parts : List Part) (count : ℕ) → length (bags_in parts count) ≡ count
length-bags_in parts count = length-map-range_with_len (bag_at parts) 0 count

pub bag_got : (parts : List Part) (count i : ℕ) → i < count → slice_get (bags_in parts count) i ≡ Some (bag_at parts i)
bag_got parts count i h =
    slice_get_read (bags_in parts count) count i (bag_at parts i) (sym (length-bags_in parts count)) h (sym (get_or-map-range_with_len (bag_at parts) 0 count i i (bag_at parts i) h (omega arith)))

-- the bag that stands at a place
pub bag_cell : (parts : List Part) (count i : ℕ) → i < count → bag_at parts i ≡ cell_of (bags_in parts count) i
bag_cell parts count i h = cell_got (bags_in parts count) i (bag_at parts i) (bag_got parts count i h)

-- the member that was found is the value at the key
pub found_member : (key : List ℕ) (parts : List Part) (count i : ℕ) (found : Option Dyn) (members : List Dyn) → i < count → unwrap_or found dyn.Null ≡ get_or members i dyn.Null
    → unwrap_or (slice_get members i) dyn.Null ≡ dyn_of (unwrap_or (value_at key (entries_at parts i)) null) → dynamic_of found ≡ member_at key (cell_of (bags_in parts count) i)
found_member key parts count i found members h got same =
    ap Dynamic (got ∙ sym (unwrap_or-slice_get members i dyn.Null) ∙ same) ∙ ap (member_at key) (bag_cell parts count i h)
