-- JSON that was read, as a dynamic: it nests as deep, and its keys ascend.
use Rattle.std.proofs.Common.{◌≡◌, ◌<◌, ℕ, suc, ◌^◌, max, false, ◌||◌, List, Option, Some, None, refl, ap, ◌∙◌, arith, ℤ, pos, negsuc}
use Rattle.std.specs.Prelude.{IfSome}
use Rattle.std.specs.Option.{option_map, option_and_then}
use Rattle.std.specs.declared.cmp.Ordering.{Ordering}
use Rattle.std.specs.declared.cmp.Ordering.TheVariants.{Less, Equal, Greater}
use Rattle.std.specs.Ordering.{nat_cmp, match_ordering, ordering_reverse}
use Rattle.std.specs.Cmp.Lexicographic.{slice_cmp, nat_list_cmp_total}
use Rattle.std.proofs.lemmas.Bool.Decides.{nat_tests}
use Rattle.json.specs.Json as source
use Rattle.json.specs.Lex.{tokens}
use Rattle.serde_json.specs.Data as json
use Rattle.serde_json.specs.Data.{Data, Items, Members, put, depth, items_depth, members_depth}
use Rattle.serde_json.specs.Find.{as_i64}
use Rattle.serde_json.specs.Read.{number_of, of_json, of_items, of_members, max_depth, read}
use Rattle.serde_json.specs.Written.{has_float, items_have_float, members_have_float}
use Rattle.kq_value.specs.Tree.{Tree, null, bool, long, string, array, bag, Trees, no_items, item, Entries, no_entries, entry, tree_depth, trees_depth, entries_depth}
use Rattle.kq_value.specs.Bags.{IsBefore, KeysAscend}
use Rattle.kq_value_formats.specs.Json.{tree_from, trees_from, entries_from, num_from, data_from, items_from, members_from}

-- ---- what is read nests as deep

flat : (o : Option ℤ) → IfSome (option_map long o) (λ t. tree_depth t ≡ 0)
flat (Some z) = refl
flat None = tt

deep_array : (o : Option Trees) (n : ℕ) → IfSome o (λ ts. trees_depth ts ≡ n) → IfSome (option_map array o) (λ t. tree_depth t ≡ suc n)
deep_array (Some ts) n h = ap suc h
deep_array None n h = tt

deep_bag : (o : Option Entries) (n : ℕ) → IfSome o (λ es. entries_depth es ≡ n) → IfSome (option_map bag o) (λ t. tree_depth t ≡ suc n)
deep_bag (Some es) n h = ap suc h
deep_bag None n h = tt

deep_item : (o : Option Tree) (p : Option Trees) (m n : ℕ) → IfSome o (λ t. tree_depth t ≡ m) → IfSome p (λ ts. trees_depth ts ≡ n) → IfSome (option_and_then (λ t. option_map (item t) p) o) (λ ts. trees_depth ts ≡ max m n)
deep_item (Some t) (Some ts) m n h k = λ i. max (h i) (k i)
deep_item (Some t) None m n h k = tt
deep_item None p m n h k = tt

deep_entry : (key : List ℕ) (o : Option Tree) (p : Option Entries) (m n : ℕ) → IfSome o (λ t. tree_depth t ≡ m) → IfSome p (λ es. entries_depth es ≡ n) → IfSome (option_and_then (λ t. option_map (entry key t) p) o) (λ es. entries_depth es ≡ max m n)
deep_entry key (Some t) (Some es) m n h k = λ i. max (h i) (k i)
deep_entry key (Some t) None m n h k = tt
deep_entry key None p m n h k = tt

mutual
  pub tree_depth-tree_from : (d : Data) → IfSome (tree_from d) (λ t. tree_depth t ≡ depth d)
  tree_depth-tree_from json.null = refl
  tree_depth-tree_from (json.boolean b) = refl
  tree_depth-tree_from (json.number n) = flat (as_i64 n)
  tree_depth-tree_from (json.string s) = refl
  tree_depth-tree_from (json.array ds) = deep_array (trees_from ds) (items_depth ds) (trees_depth-trees_from ds)
  tree_depth-tree_from (json.object ms) = deep_bag (entries_from ms) (members_depth ms) (entries_depth-entries_from ms)

  pub trees_depth-trees_from : (ds : Items) → IfSome (trees_from ds) (λ ts. trees_depth ts ≡ items_depth ds)
  trees_depth-trees_from json.no_items = refl
  trees_depth-trees_from (json.item d ds) = deep_item (tree_from d) (trees_from ds) (depth d) (items_depth ds) (tree_depth-tree_from d) (trees_depth-trees_from ds)

  pub entries_depth-entries_from : (ms : Members) → IfSome (entries_from ms) (λ es. entries_depth es ≡ members_depth ms)
  entries_depth-entries_from json.no_members = refl
  entries_depth-entries_from (json.member k d ms) = deep_entry k (tree_from d) (entries_from ms) (depth d) (members_depth ms) (tree_depth-tree_from d) (entries_depth-entries_from ms)

-- ---- the keys of what is read ascend

abbrev pub IsBeforeMembers : List ℕ → Members → Type 0
IsBeforeMembers k json.no_members = Unit {0}
IsBeforeMembers k (json.member l d ms) = slice_cmp nat_cmp k l ≡ Less

-- in each object the keys stand in byte order, each once
abbrev mutual
  pub Ascends : Data → Type 0
  Ascends json.null = Unit {0}
  Ascends (json.boolean b) = Unit {0}
  Ascends (json.number n) = Unit {0}
  Ascends (json.string s) = Unit {0}
  Ascends (json.array ds) = ItemsAscend ds
  Ascends (json.object ms) = MembersAscend ms

  pub ItemsAscend : Items → Type 0
  ItemsAscend json.no_items = Unit {0}
  ItemsAscend (json.item d ds) = Ascends d × ItemsAscend ds

  pub MembersAscend : Members → Type 0
  MembersAscend json.no_members = Unit {0}
  MembersAscend (json.member k d ms) = IsBeforeMembers k ms × (Ascends d × MembersAscend ms)

other_way : (k l : List ℕ) → slice_cmp nat_cmp k l ≡ Greater → slice_cmp nat_cmp l k ≡ Less
other_way k l e = nat_list_cmp_total.antisymm l k ∙ ap ordering_reverse e

IsBeforeMembers-put : (j k : List ℕ) (d : Data) (ms : Members) (o : Ordering) → IsBeforeMembers j ms → slice_cmp nat_cmp j k ≡ Less → IsBeforeMembers j (put k d ms)
IsBeforeMembers-put j k d json.no_members o h e = e
IsBeforeMembers-put j k d (json.member l u ms) o h e = by_order (slice_cmp nat_cmp k l)
  where
    by_order : (o : Ordering) → IsBeforeMembers j (match_ordering o (json.member k d (json.member l u ms)) (json.member l d ms) (json.member l u (put k d ms)))
    by_order Less = e
    by_order Equal = h
    by_order Greater = h

put_by : (k : List ℕ) (d : Data) (l : List ℕ) (u : Data) (ms : Members) (o : Ordering) → slice_cmp nat_cmp k l ≡ o → Ascends d → MembersAscend (json.member l u ms) → MembersAscend (put k d ms) → MembersAscend (match_ordering o (json.member k d (json.member l u ms)) (json.member l d ms) (json.member l u (put k d ms)))
put_by k d l u ms Less e h r rest = (e, (h, r))
put_by k d l u ms Equal e h r rest = (r.0, (h, r.1.1))
put_by k d l u ms Greater e h r rest = (IsBeforeMembers-put l k d ms Equal r.0 (other_way k l e), (r.1.0, rest))

pub MembersAscend-put : (k : List ℕ) (d : Data) (ms : Members) → Ascends d → MembersAscend ms → MembersAscend (put k d ms)
MembersAscend-put k d json.no_members h r = (tt, (h, tt))
MembersAscend-put k d (json.member l u ms) h r = put_by k d l u ms (slice_cmp nat_cmp k l) refl h r (MembersAscend-put k d ms h r.1.1)

number_ascends : (o : Option json.Num) → IfSome (option_map json.number o) Ascends
number_ascends (Some n) = tt
number_ascends None = tt

array_ascends : (o : Option Items) → IfSome o ItemsAscend → IfSome (option_map json.array o) Ascends
array_ascends (Some ds) h = h
array_ascends None h = tt

object_ascends : (o : Option Members) → IfSome o MembersAscend → IfSome (option_map json.object o) Ascends
object_ascends (Some ms) h = h
object_ascends None h = tt

item_ascends : (o : Option Data) (p : Option Items) → IfSome o Ascends → IfSome p ItemsAscend → IfSome (option_and_then (λ d. option_map (json.item d) p) o) ItemsAscend
item_ascends (Some d) (Some ds) h k = (h, k)
item_ascends (Some d) None h k = tt
item_ascends None p h k = tt

member_ascends : (o : Option Data) (g : Data → Option Members) → IfSome o Ascends → ((d : Data) → Ascends d → IfSome (g d) MembersAscend) → IfSome (option_and_then g o) MembersAscend
member_ascends (Some d) g h k = k d h
member_ascends None g h k = tt

mutual
  of_json-ascends : (j : source.Json) → IfSome (of_json j) Ascends
  of_json-ascends source.null = tt
  of_json-ascends (source.boolean b) = tt
  of_json-ascends (source.number s) = number_ascends (number_of s)
  of_json-ascends (source.string s) = tt
  of_json-ascends (source.array js) = array_ascends (of_items js) (of_items-ascend js)
  of_json-ascends (source.object ms) = object_ascends (of_members ms json.no_members) (of_members-ascend ms json.no_members tt)

  of_items-ascend : (js : source.Items) → IfSome (of_items js) ItemsAscend
  of_items-ascend source.no_items = tt
  of_items-ascend (source.item j js) = item_ascends (of_json j) (of_items js) (of_json-ascends j) (of_items-ascend js)

  of_members-ascend : (ms : source.Members) (found : Members) → MembersAscend found → IfSome (of_members ms found) MembersAscend
  of_members-ascend source.no_members found h = h
  of_members-ascend (source.member k j ms) found h =
      member_ascends (of_json j) (λ d. of_members ms (put k d found)) (of_json-ascends j) (λ d r. of_members-ascend ms (put k d found) (MembersAscend-put k d found r h))

from_source : (o : Option source.Json) → IfSome (option_and_then of_json o) Ascends
from_source (Some j) = of_json-ascends j
from_source None = tt

pub read-ascends : (text : List ℕ) → IfSome (read text) Ascends
read-ascends text = from_source (option_and_then (λ p. source.if_last p.0 p.1) (source.value max_depth (tokens text)))

-- a bag that is read has its keys in order
before_entry : (j key : List ℕ) (o : Option Tree) (p : Option Entries) → slice_cmp nat_cmp j key ≡ Less → IfSome (option_and_then (λ t. option_map (entry key t) p) o) (IsBefore j)
before_entry j key (Some t) (Some es) e = e
before_entry j key (Some t) None e = tt
before_entry j key None p e = tt

before_entries : (j : List ℕ) (ms : Members) → IsBeforeMembers j ms → IfSome (entries_from ms) (IsBefore j)
before_entries j json.no_members h = tt
before_entries j (json.member l d ms) h = before_entry j l (tree_from d) (entries_from ms) h

ascending_entry : (key : List ℕ) (o : Option Tree) (p : Option Entries) → IfSome p (IsBefore key) → IfSome p KeysAscend → IfSome (option_and_then (λ t. option_map (entry key t) p) o) KeysAscend
ascending_entry key (Some t) (Some es) h k = (h, k)
ascending_entry key (Some t) None h k = tt
ascending_entry key None p h k = tt

pub KeysAscend-entries_from : (ms : Members) → MembersAscend ms → IfSome (entries_from ms) KeysAscend
KeysAscend-entries_from json.no_members h = tt
KeysAscend-entries_from (json.member k d ms) h = ascending_entry k (tree_from d) (entries_from ms) (before_entries k ms h.0) (KeysAscend-entries_from ms h.1.1)

-- ---- a dynamic as JSON has no float

whole : (z : ℤ) → has_float (json.number (num_from z)) ≡ false
whole (pos n) = refl
whole (negsuc n) = refl

mutual
  pub has_float-data_from : (t : Tree) → has_float (data_from t) ≡ false
  has_float-data_from null = refl
  has_float-data_from (bool b) = refl
  has_float-data_from (long z) = whole z
  has_float-data_from (string s) = refl
  has_float-data_from (array ts) = items_have_float-items_from ts
  has_float-data_from (bag es) = members_have_float-members_from es

  pub items_have_float-items_from : (ts : Trees) → items_have_float (items_from ts) ≡ false
  items_have_float-items_from no_items = refl
  items_have_float-items_from (item t ts) = λ i. has_float-data_from t i || items_have_float-items_from ts i

  pub members_have_float-members_from : (es : Entries) → members_have_float (members_from es) ≡ false
  members_have_float-members_from no_entries = refl
  members_have_float-members_from (entry k t es) = λ i. has_float-data_from t i || members_have_float-members_from es i

-- ---- and is read back as itself, where its numbers are longs

abbrev pub IsLong : ℤ → Type 0
IsLong (pos n) = n < 2 ^ 63
IsLong (negsuc n) = n < 2 ^ 63

abbrev mutual
  pub HasLongs : Tree → Type 0
  HasLongs null = Unit {0}
  HasLongs (bool b) = Unit {0}
  HasLongs (long z) = IsLong z
  HasLongs (string s) = Unit {0}
  HasLongs (array ts) = ItemsHaveLongs ts
  HasLongs (bag es) = EntriesHaveLongs es

  pub ItemsHaveLongs : Trees → Type 0
  ItemsHaveLongs no_items = Unit {0}
  ItemsHaveLongs (item t ts) = HasLongs t × ItemsHaveLongs ts

  pub EntriesHaveLongs : Entries → Type 0
  EntriesHaveLongs no_entries = Unit {0}
  EntriesHaveLongs (entry k t es) = HasLongs t × EntriesHaveLongs es

number_back : (z : ℤ) → IsLong z → option_map long (as_i64 (num_from z)) ≡ Some (long z)
number_back (pos n) h = grind (arith, nat_tests)
number_back (negsuc n) h = refl

mutual
  pub tree_from-data_from : (t : Tree) → HasLongs t → tree_from (data_from t) ≡ Some t
  tree_from-data_from null h = refl
  tree_from-data_from (bool b) h = refl
  tree_from-data_from (long z) h = number_back z h
  tree_from-data_from (string s) h = refl
  tree_from-data_from (array ts) h = ap (option_map array) (trees_from-items_from ts h)
  tree_from-data_from (bag es) h = ap (option_map bag) (entries_from-members_from es h)

  pub trees_from-items_from : (ts : Trees) → ItemsHaveLongs ts → trees_from (items_from ts) ≡ Some ts
  trees_from-items_from no_items h = refl
  trees_from-items_from (item t ts) h = λ i. option_and_then (λ u. option_map (item u) (trees_from-items_from ts h.1 i)) (tree_from-data_from t h.0 i)

  pub entries_from-members_from : (es : Entries) → EntriesHaveLongs es → entries_from (members_from es) ≡ Some es
  entries_from-members_from no_entries h = refl
  entries_from-members_from (entry k t es) h = λ i. option_and_then (λ u. option_map (entry k u) (entries_from-members_from es h.1 i)) (tree_from-data_from t h.0 i)
