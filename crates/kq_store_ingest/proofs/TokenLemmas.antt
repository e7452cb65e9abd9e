-- The dynamic that tokens of JSON are, a value at a time.
use Rattle.std.proofs.Common.{◌≡◌, ℕ, ◌+◌, ◌-◌, ◌<◌, ◌≤◌, ℤ, List, [], ◌∷◌, ◌++◌, length, take, drop, get_or, Option, Some, None, option_map, option_and_then, refl, sym, ap, subst, ◌∙◌, arith}
use Rattle.std.specs.Prelude.{Bool, insert}
use Rattle.std.specs.declared.cmp.Ordering.{Ordering}
use Rattle.std.specs.declared.cmp.Ordering.TheVariants.{Less, Equal, Greater}
use Rattle.std.specs.Ordering.{nat_cmp, match_ordering, ordering_reverse}
use Rattle.std.specs.Cmp.Lexicographic.{slice_cmp, nat_list_cmp_total}
use Rattle.std.proofs.lemmas.List.{take_more, drop_more, take-append-drop}
use Rattle.json.specs.Token.{Token}
use Rattle.json.specs.Lex.{tokens}
use Rattle.json.specs.Json as json
use Rattle.json.specs.Json.{Parse, parse_map, after_end_array, read_key, if_last, items, members, value}
use Rattle.json.proofs.Grammar.{value_is, value-begin_array, value-begin_object, items_end, items_more, members_end, members_more, read_key-shorter, after_end_array-shorter}
use Rattle.serde_json.specs.Data as source
use Rattle.serde_json.specs.Data.{Num, Data, Items, Members, no_members, member, put}
use Rattle.serde_json.specs.Find.{as_i64}
use Rattle.serde_json.specs.Read.{number_of, of_json, of_items, of_members, converted}
use Rattle.kq_value.specs.Tree.{Tree, null, bool, long, string, array, bag, Trees, no_items, item, Entries, no_entries, entry, tree_depth, trees_depth, entries_depth}
use Rattle.kq_value.specs.Seen.{tree_of, trees_of, entries_of}
use Rattle.kq_value.specs.Bags.{IsBefore, IsAfter, KeysAscend}
use Rattle.kq_value.specs.declared.dynamic.Dyn.{Dyn}
use Rattle.kq_value.specs.declared.dynamic.Member.{Member}
use Rattle.kq_value_formats.specs.Json.{tree_from, trees_from, entries_from, json_of}
use Rattle.kq_store_ingest.specs.Tokens.{tree_in, trees_in, entries_in, put_entry}

-- ---- what an option holds

abbrev pick : {A : Type 0} → A → Option A → A
pick d None = d
pick d (Some a) = a

some-is : {A : Type 0} (x y : A) → Some x ≡ Some y → x ≡ y
some-is x y e = ap (pick x) e

some_of : {A B : Type 0} (f : A → Option B) (o : Option A) (b : B) → option_and_then f o ≡ Some b → (a : A) × (o ≡ Some a) × (f a ≡ Some b)
some_of f None b e = absurd (cc)
some_of f (Some a) b e = (a, refl, e)

-- with what is left
abbrev with_rest : {A : Type 0} → List Token → Option A → Option (A × List Token)
with_rest r o = option_map (λ a. (a, r)) o

rest_of : {A : Type 0} (r s : List Token) (o : Option A) (a : A) → with_rest r o ≡ Some (a, s) → (r ≡ s) × (o ≡ Some a)
rest_of r s None a e = absurd (cc)
rest_of r s (Some b) a e = let same = some-is (b, r) (a, s) e in (ap (λ p. p.1) same, ap (λ p. Some p.0) same)

converted_some : {A B : Type 0} (f : A → Option B) (o : Option (A × List Token)) (b : B) (r : List Token) → converted f o ≡ Some (b, r) → (a : A) × (o ≡ Some (a, r)) × (f a ≡ Some b)
converted_some f None b r e = absurd (cc)
converted_some f (Some p) b r e = let both = rest_of p.1 r (f p.0) b e in (p.0, ap (λ s. Some (p.0, s)) both.0, both.1)

mapped : {A B : Type 0} (g : A → B) (r : List Token) (o : Option A) → with_rest r (option_map g o) ≡ parse_map g (with_rest r o)
mapped g r None = refl
mapped g r (Some a) = refl

-- ---- one value

number_tree : (o : Option Num) (z : ℤ) → option_and_then as_i64 o ≡ Some z → option_and_then tree_from (option_map source.number o) ≡ Some (long z)
number_tree None z e = absurd (cc)
number_tree (Some n) z e = ap (option_map long) e

array_tree : (o : Option Items) → option_and_then tree_from (option_map source.array o) ≡ option_map array (option_and_then trees_from o)
array_tree None = refl
array_tree (Some ds) = refl

bag_tree : (o : Option Members) → option_and_then tree_from (option_map source.object o) ≡ option_map bag (option_and_then entries_from o)
bag_tree None = refl
bag_tree (Some ms) = refl

converted-array : (o : Option (json.Items × List Token)) → converted tree_in (parse_map json.array o) ≡ parse_map array (converted trees_in o)
converted-array None = refl
converted-array (Some p) = ap (with_rest p.1) (array_tree (of_items p.0)) ∙ mapped array p.1 (trees_in p.0)

converted-object : (o : Option (json.Members × List Token)) → converted tree_in (parse_map json.object o) ≡ parse_map bag (converted (entries_in no_members) o)
converted-object None = refl
converted-object (Some p) = ap (with_rest p.1) (bag_tree (of_members p.0 no_members)) ∙ mapped bag p.1 (entries_in no_members p.0)

module _ (depth : ℕ) (ts r : List Token) where
  at : (t : Token) → ts ≡ t ∷ r → converted tree_in (value depth ts) ≡ converted tree_in (value depth (t ∷ r))
  at t e = ap (λ xs. converted tree_in (value depth xs)) e

  pub value-null : ts ≡ Token.null ∷ r → converted tree_in (value depth ts) ≡ Some (null, r)
  value-null e = at Token.null e ∙ ap (converted tree_in) (value_is depth (Token.null ∷ r))

  pub value-boolean : (b : Bool) → ts ≡ Token.boolean b ∷ r → converted tree_in (value depth ts) ≡ Some (bool b, r)
  value-boolean b e = at (Token.boolean b) e ∙ ap (converted tree_in) (value_is depth (Token.boolean b ∷ r))

  pub value-string : (s : List ℕ) → ts ≡ Token.string s ∷ r → converted tree_in (value depth ts) ≡ Some (string s, r)
  value-string s e = at (Token.string s) e ∙ ap (converted tree_in) (value_is depth (Token.string s ∷ r))

  pub value-number : (s : List ℕ) (z : ℤ) → ts ≡ Token.number s ∷ r → option_and_then as_i64 (number_of s) ≡ Some z → converted tree_in (value depth ts) ≡ Some (long z, r)
  value-number s z e is = at (Token.number s) e ∙ ap (converted tree_in) (value_is depth (Token.number s ∷ r)) ∙ ap (with_rest r) (number_tree (number_of s) z is)

  pub value-array : (found : Trees) (rest : List Token) → 0 < depth → ts ≡ Token.begin_array ∷ r → converted trees_in (items (value (depth - 1)) (length r) r) ≡ Some (found, rest)
      → converted tree_in (value depth ts) ≡ Some (array found, rest)
  value-array found rest some e read = at Token.begin_array e ∙ ap (converted tree_in) (value-begin_array depth r some) ∙ converted-array (items (value (depth - 1)) (length r) r) ∙ ap (parse_map array) read

  pub value-object : (found : Entries) (rest : List Token) → 0 < depth → ts ≡ Token.begin_object ∷ r → converted (entries_in no_members) (members (value (depth - 1)) (length r) r) ≡ Some (found, rest)
      → converted tree_in (value depth ts) ≡ Some (bag found, rest)
  value-object found rest some e read = at Token.begin_object e ∙ ap (converted tree_in) (value-begin_object depth r some) ∙ converted-object (members (value (depth - 1)) (length r) r) ∙ ap (parse_map bag) read

-- ---- the whole text

abbrev whole : Option (json.Json × List Token) → Option Tree
whole o = option_and_then tree_from (option_and_then of_json (option_and_then (λ p. if_last p.0 p.1) o))

pub whole_read : (text : List ℕ) (t : Tree) → converted tree_in (value 127 (tokens text)) ≡ Some (t, []) → json_of text ≡ Some t
unfolding json_of
whole_read text t e = let j = converted_some tree_in (value 127 (tokens text)) t [] e in ap whole j.1 ∙ j.2

-- ---- the items of an array

item_tree : (d : Data) (t : Tree) → tree_from d ≡ Some t → (o : Option Items) → option_and_then trees_from (option_map (source.item d) o) ≡ option_map (item t) (option_and_then trees_from o)
item_tree d t e None = refl
item_tree d t e (Some ds) = rw e

with_item : (j : json.Json) (t : Tree) → tree_in j ≡ Some t → (o : Option (json.Items × List Token)) → converted trees_in (parse_map (json.item j) o) ≡ parse_map (item t) (converted trees_in o)
with_item j t e None = refl
with_item j t e (Some p) =
    let (d, is, tree) = some_of tree_from (of_json j) t e in
    rw is (ap (with_rest p.1) (item_tree d t tree (of_items p.0)) ∙ mapped (item t) p.1 (trees_in p.0))

item_read : (p : Parse json.Json) (n : ℕ) (ts r : List Token) (t : Tree) → 0 < n → after_end_array ts ≡ None → converted tree_in (p ts) ≡ Some (t, r)
    → converted trees_in (items p n ts) ≡ parse_map (item t) (converted trees_in (items p (n - 1) r))
item_read p n ts r t some going e =
    let (j, is, tree) = converted_some tree_in (p ts) t r e in
    ap (converted trees_in) (items_more p n ts r j some going is) ∙ with_item j t tree _

abbrev trees_before : List Dyn → Trees → Trees
trees_before [] rest = rest
trees_before (d ∷ ds) rest = item (tree_of d) (trees_before ds rest)

trees_before-no_items : (ds : List Dyn) → trees_before ds no_items ≡ trees_of ds
trees_before-no_items [] = refl
trees_before-no_items (d ∷ ds) = ap (item (tree_of d)) (trees_before-no_items ds)

trees_before-push : (ds : List Dyn) (d : Dyn) (rest : Trees) → trees_before ds (item (tree_of d) rest) ≡ trees_before (ds ++ d ∷ []) rest
trees_before-push [] d rest = refl
trees_before-push (e ∷ ds) d rest = ap (item (tree_of e)) (trees_before-push ds d rest)

one_more_item : (ds : List Dyn) (d : Dyn) (r : Option (Trees × List Token)) → parse_map (trees_before ds) (parse_map (item (tree_of d)) r) ≡ parse_map (trees_before (ds ++ d ∷ [])) r
one_more_item ds d None = refl
one_more_item ds d (Some p) = ap (λ ts. Some (ts, p.1)) (trees_before-push ds d p.0)

none_before : (r : Option (Trees × List Token)) → r ≡ parse_map (trees_before []) r
none_before None = refl
none_before (Some p) = refl

trees_depth-push : (ds : List Dyn) (d : Dyn) (n : ℕ) → trees_depth (trees_of ds) ≤ n → tree_depth (tree_of d) ≤ n → trees_depth (trees_of (ds ++ d ∷ [])) ≤ n
trees_depth-push [] d n h k = omega arith
trees_depth-push (e ∷ ds) d n h k = omega (arith, trees_depth-push ds d n (omega arith) k)

-- the array that begins at `start` has these items before `now`
pub record ItemsRead (depth : ℕ) (start now : List Token) (list : List Dyn) : Type 0 where
  pub turns : ℕ
  pub enough : length now ≤ turns
  pub same : converted trees_in (items (value depth) (length start) start) ≡ parse_map (trees_before list) (converted trees_in (items (value depth) turns now))
  pub shallow : trees_depth (trees_of list) ≤ depth
  pub shorter : length now ≤ length start

pub ItemsRead-none : (depth : ℕ) (start : List Token) → ItemsRead depth start start []
ItemsRead-none depth start = record { turns = length start; enough = omega arith; same = none_before _; shallow = omega arith; shorter = omega arith }

pub ItemsRead-more : (depth : ℕ) (start ts r : List Token) (list new : List Dyn) (d : Dyn) → ItemsRead depth start ts list → after_end_array ts ≡ None → converted tree_in (value depth ts) ≡ Some (tree_of d, r)
    → length r < length ts → tree_depth (tree_of d) ≤ depth → new ≡ list ++ d ∷ [] → ItemsRead depth start r new
ItemsRead-more depth start ts r list new d before going read less deep pushed = rw pushed (record {
  turns = before.turns - 1;
  enough = omega (arith, before.enough);
  same = before.same ∙ ap (parse_map (trees_before list)) (item_read (value depth) before.turns ts r (tree_of d) (omega (arith, before.enough)) going read) ∙ one_more_item list d _;
  shallow = trees_depth-push list d depth before.shallow deep;
  shorter = omega (arith, before.shorter);
})

pub ItemsRead-all : (depth : ℕ) (start ts r : List Token) (list : List Dyn) → ItemsRead depth start ts list → after_end_array ts ≡ Some r
    → converted trees_in (items (value depth) (length start) start) ≡ Some (trees_of list, r)
ItemsRead-all depth start ts r list before over =
    before.same ∙ ap (λ o. parse_map (trees_before list) (converted trees_in o)) (items_end (value depth) before.turns ts r before.enough over) ∙ ap (λ found. Some (found, r)) (trees_before-no_items list)

pub ItemsRead-shorter : (depth : ℕ) (start ts r : List Token) (list : List Dyn) → ItemsRead depth start ts list → after_end_array ts ≡ Some r → length r < length start
ItemsRead-shorter depth start ts r list before over = omega (arith, before.shorter, after_end_array-shorter ts r over)

-- ---- an entry in its place

other_way : (k l : List ℕ) → slice_cmp nat_cmp k l ≡ Greater → slice_cmp nat_cmp l k ≡ Less
other_way k l e = nat_list_cmp_total.antisymm l k ∙ ap ordering_reverse e

IsBefore-put_entry : (j k : List ℕ) (t : Tree) (es : Entries) → IsBefore j es → slice_cmp nat_cmp j k ≡ Less → IsBefore j (put_entry k t es)
IsBefore-put_entry j k t no_entries h e = e
IsBefore-put_entry j k t (entry l u es) h e = by_order (slice_cmp nat_cmp k l)
  where
    by_order : (o : Ordering) → IsBefore j (match_ordering o (entry k t (entry l u es)) (entry l t es) (entry l u (put_entry k t es)))
    by_order Less = e
    by_order Equal = h
    by_order Greater = h

put_by : (o : Ordering) (k : List ℕ) (t : Tree) (l : List ℕ) (u : Tree) (es : Entries) → slice_cmp nat_cmp k l ≡ o → KeysAscend (entry l u es) → KeysAscend (put_entry k t es)
    → KeysAscend (match_ordering o (entry k t (entry l u es)) (entry l t es) (entry l u (put_entry k t es)))
put_by Less k t l u es e h rest = (e, h)
put_by Equal k t l u es e h rest = h
put_by Greater k t l u es e h rest = (IsBefore-put_entry l k t es h.0 (other_way k l e), rest)

KeysAscend-put_entry : (k : List ℕ) (t : Tree) (es : Entries) → KeysAscend es → KeysAscend (put_entry k t es)
KeysAscend-put_entry k t no_entries h = (tt, tt)
KeysAscend-put_entry k t (entry l u es) h = put_by (slice_cmp nat_cmp k l) k t l u es refl h (KeysAscend-put_entry k t es h.1)

depth-match_ordering : (o : Ordering) (a b c : Entries) (n : ℕ) → entries_depth a ≤ n → entries_depth b ≤ n → entries_depth c ≤ n → entries_depth (match_ordering o a b c) ≤ n
depth-match_ordering Less a b c n p q r = p
depth-match_ordering Equal a b c n p q r = q
depth-match_ordering Greater a b c n p q r = r

entries_depth-put_entry : (k : List ℕ) (t : Tree) (es : Entries) (n : ℕ) → tree_depth t ≤ n → entries_depth es ≤ n → entries_depth (put_entry k t es) ≤ n
entries_depth-put_entry k t no_entries n p q = omega arith
entries_depth-put_entry k t (entry l u es) n p q =
    depth-match_ordering _ (entry k t (entry l u es)) (entry l t es) (entry l u (put_entry k t es)) n (omega arith) (omega arith) (omega (arith, entries_depth-put_entry k t es n p (omega arith)))

-- what is put among the members of JSON is put among the entries
entry_of : (l : List ℕ) (o : Option Tree) (p : Option Entries) (es : Entries) → option_and_then (λ u. option_map (entry l u) p) o ≡ Some es
    → (u : Tree) × (more : Entries) × (o ≡ Some u) × (p ≡ Some more) × (entry l u more ≡ es)
entry_of l None p es e = absurd (cc)
entry_of l (Some u) None es e = absurd (cc)
entry_of l (Some u) (Some more) es e = (u, more, refl, refl, some-is _ _ e)

put_among : (o : Ordering) (k l : List ℕ) (d e : Data) (t u : Tree) (ms : Members) (more : Entries) → tree_from d ≡ Some t → tree_from e ≡ Some u → entries_from ms ≡ Some more → entries_from (put k d ms) ≡ Some (put_entry k t more)
    → entries_from (match_ordering o (member k d (member l e ms)) (member l d ms) (member l e (put k d ms))) ≡ Some (match_ordering o (entry k t (entry l u more)) (entry l t more) (entry l u (put_entry k t more)))
put_among Less k l d e t u ms more a b c later = rw (a, b, c)
put_among Equal k l d e t u ms more a b c later = rw (a, c)
put_among Greater k l d e t u ms more a b c later = rw (b, later)

entries_from-put : (k : List ℕ) (d : Data) (t : Tree) (ms : Members) (es : Entries) → tree_from d ≡ Some t → entries_from ms ≡ Some es → entries_from (put k d ms) ≡ Some (put_entry k t es)
entries_from-put k d t no_members es is h = rw (← some-is _ _ h) (rw is)
entries_from-put k d t (member l e ms) es is h =
    let (u, more, a, b, all) = entry_of l (tree_from e) (entries_from ms) es h in
    rw (← all) (put_among (slice_cmp nat_cmp k l) k l d e t u ms more is a b (entries_from-put k d t ms more is b))

-- ---- the place of a key in a list of members

IsAfter-last : (front : List Member) (m : Member) (k : List ℕ) → slice_cmp nat_cmp m.key k ≡ Less → IsAfter k (entries_of (front ++ m ∷ []))
IsAfter-last [] m k e = e
IsAfter-last (x ∷ []) m k e = e
IsAfter-last (x ∷ y ∷ front) m k e = IsAfter-last (y ∷ front) m k e

pub after_place : (ms : List Member) (i : ℕ) (m : Member) (k : List ℕ) → 0 < i → i ≤ length ms → m ≡ get_or ms (i - 1) m → slice_cmp nat_cmp m.key k ≡ Less → IsAfter k (entries_of (take i ms))
after_place ms i m k some within is less =
    let on : i ≡ i - 1 + 1 = omega arith in
    let front : take i ms ≡ take (i - 1) ms ++ m ∷ [] = ap (λ n. take n ms) on ∙ take_more ms (i - 1) m (omega arith) ∙ ap (λ x. take (i - 1) ms ++ x ∷ []) (sym is) in
    rw front (IsAfter-last (take (i - 1) ms) m k less)

pub before_place : (ms : List Member) (i : ℕ) (m : Member) (k : List ℕ) → 0 < i → i ≤ length ms → m ≡ get_or ms (i - 1) m → slice_cmp nat_cmp m.key k ≡ Greater → IsBefore k (entries_of (drop (i - 1) ms))
before_place ms i m k some within is more =
    let back : drop (i - 1) ms ≡ m ∷ drop (i - 1 + 1) ms = drop_more ms (i - 1) m (omega arith) ∙ ap (λ x. x ∷ drop (i - 1 + 1) ms) (sym is) in
    rw back (other_way m.key k more)

first_below : (m : Member) (front back : List Member) (k : List ℕ) → KeysAscend (entries_of (m ∷ (front ++ back))) → IsAfter k (entries_of (m ∷ front)) → slice_cmp nat_cmp m.key k ≡ Less
first_below m [] back k h after = after
first_below m (x ∷ front) back k h after = nat_list_cmp_total.trans m.key x.key k h.0 (first_below x front back k h.1 after)

rest_below : (m : Member) (front : List Member) (k : List ℕ) → IsAfter k (entries_of (m ∷ front)) → IsAfter k (entries_of front)
rest_below m [] k after = tt
rest_below m (x ∷ front) k after = after

put_between : (front back : List Member) (m : Member) → KeysAscend (entries_of (front ++ back)) → IsAfter m.key (entries_of front) → IsBefore m.key (entries_of back)
    → entries_of (front ++ m ∷ back) ≡ put_entry m.key (tree_of m.value) (entries_of (front ++ back))
put_between [] [] m h after before = refl
put_between [] (x ∷ back) m h after before = rw before
put_between (x ∷ front) back m h after before =
    let greater : slice_cmp nat_cmp m.key x.key ≡ Greater = nat_list_cmp_total.antisymm m.key x.key ∙ ap ordering_reverse (first_below x front back m.key h after) in
    rw greater (ap (entry x.key (tree_of x.value)) (put_between front back m h.1 (rest_below x front m.key after) before))

pub put_at : (ms new : List Member) (i : ℕ) (m : Member) → KeysAscend (entries_of ms) → IsAfter m.key (entries_of (take i ms)) → IsBefore m.key (entries_of (drop i ms)) → new ≡ insert ms i m
    → entries_of new ≡ put_entry m.key (tree_of m.value) (entries_of ms)
put_at ms new i m h after before inserted =
    let all : take i ms ++ drop i ms ≡ ms = take-append-drop i ms in
    ap entries_of inserted ∙ put_between (take i ms) (drop i ms) m (subst (λ xs. KeysAscend (entries_of xs)) (sym all) h) after before ∙ ap (λ xs. put_entry m.key (tree_of m.value) (entries_of xs)) all

-- ---- the entries of a bag

with_member : (k : List ℕ) (j : json.Json) (d : Data) (old : Members) → of_json j ≡ Some d → (o : Option (json.Members × List Token)) → converted (entries_in old) (parse_map (json.member k j) o) ≡ converted (entries_in (put k d old)) o
with_member k j d old e None = refl
with_member k j d old e (Some p) = rw e

member_read : (p : Parse json.Json) (old : Members) (n : ℕ) (k : List ℕ) (ts s r : List Token) (t : Tree) → 0 < n → read_key ts ≡ Some (Some k, s) → converted tree_in (p s) ≡ Some (t, r)
    → (d : Data) × (tree_from d ≡ Some t) × (converted (entries_in old) (members p n ts) ≡ converted (entries_in (put k d old)) (members p (n - 1) r))
member_read p old n k ts s r t some named e =
    let (j, is, tree) = converted_some tree_in (p s) t r e in
    let (d, of, from) = some_of tree_from (of_json j) t tree in (d, from, ap (converted (entries_in old)) (members_more p n k ts s r j some named is) ∙ with_member k j d old of _)

-- the bag that begins at `start` has these entries before `now`
pub record EntriesRead (depth : ℕ) (start now : List Token) (ms : List Member) : Type 0 where
  pub turns : ℕ
  pub enough : length now ≤ turns
  pub before : Members
  pub are : entries_from before ≡ Some (entries_of ms)
  pub same : converted (entries_in no_members) (members (value depth) (length start) start) ≡ converted (entries_in before) (members (value depth) turns now)
  pub ascend : KeysAscend (entries_of ms)
  pub shallow : entries_depth (entries_of ms) ≤ depth
  pub shorter : length now ≤ length start

pub EntriesRead-none : (depth : ℕ) (start : List Token) → EntriesRead depth start start []
EntriesRead-none depth start = record { turns = length start; enough = omega arith; before = no_members; are = refl; same = refl; ascend = tt; shallow = omega arith; shorter = omega arith }

pub EntriesRead-more : (depth : ℕ) (start ts s r : List Token) (ms new : List Member) (k : List ℕ) (t : Tree) → EntriesRead depth start ts ms → read_key ts ≡ Some (Some k, s)
    → converted tree_in (value depth s) ≡ Some (t, r) → length r < length s → tree_depth t ≤ depth → entries_of new ≡ put_entry k t (entries_of ms) → EntriesRead depth start r new
EntriesRead-more depth start ts s r ms new k t read named found less deep added =
    let key = read_key-shorter ts (Some k) s named in
    let (d, is, turn) = member_read (value depth) read.before read.turns k ts s r t (omega (arith, read.enough)) named found in
    record {
      turns = read.turns - 1;
      enough = omega (arith, read.enough);
      before = put k d read.before;
      are = entries_from-put k d t read.before (entries_of ms) is read.are ∙ ap Some (sym added);
      same = read.same ∙ turn;
      ascend = rw added (KeysAscend-put_entry k t (entries_of ms) read.ascend);
      shallow = rw added (entries_depth-put_entry k t (entries_of ms) depth deep read.shallow);
      shorter = omega (arith, read.shorter);
    }

pub EntriesRead-all : (depth : ℕ) (start ts r : List Token) (ms : List Member) → EntriesRead depth start ts ms → read_key ts ≡ Some (None, r)
    → converted (entries_in no_members) (members (value depth) (length start) start) ≡ Some (entries_of ms, r)
EntriesRead-all depth start ts r ms read over =
    read.same ∙ ap (converted (entries_in read.before)) (members_end (value depth) read.turns ts r read.enough over) ∙ ap (with_rest r) read.are

pub EntriesRead-shorter : (depth : ℕ) (start ts r : List Token) (ms : List Member) → EntriesRead depth start ts ms → read_key ts ≡ Some (None, r) → length r < length start
EntriesRead-shorter depth start ts r ms read over = omega (arith, read.shorter, read_key-shorter ts None r over)
