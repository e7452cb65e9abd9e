-- A dynamic as JSON data, item by item and key by key.
use Rattle.std.proofs.Common.{◌≡◌, ℕ, List, [], ◌∷◌, ◌++◌, map, Some, refl, sym, ap, ◌∙◌, append_assoc, ◌<◌, ◌+◌, length, take, drop, get_or}
use Rattle.std.proofs.lemmas.List.{map-append, take_more, take-append-drop}
use Rattle.std.proofs.lemmas.Cmp.{nat_list_cmp_total}
use Rattle.std.specs.Ordering.{nat_cmp, ordering_reverse}
use Rattle.std.specs.declared.cmp.Ordering.TheVariants.{Less, Greater}
use Rattle.std.specs.Cmp.Lexicographic.{slice_cmp}
use Rattle.serde_json.specs.Data as json
use Rattle.serde_json.specs.Data.{put}
use Rattle.serde_json.specs.View.{items_of}
use Rattle.kq_value.specs.Tree.{Tree, Entries, no_entries, entry}
use Rattle.kq_value.specs.Seen.{tree_of, trees_of, entries_of}
use Rattle.kq_value.specs.Bags.{KeysAscend, push_entry}
use Rattle.kq_value_formats.specs.Json.{tree_from, trees_from, entries_from, data_from, items_from, members_from}
use Rattle.kq_value.specs.declared.dynamic.Dyn.{Dyn}
use Rattle.kq_value.specs.declared.dynamic.Member.{Member}
use Rattle.kq_value.proofs.Trees.{entries_of-push}

pub items_of-data : (ds : List Dyn) → items_of (map (λ d. data_from (tree_of d)) ds) ≡ items_from (trees_of ds)
items_of-data [] = refl
items_of-data (d ∷ ds) = ap (json.item (data_from (tree_of d))) (items_of-data ds)

-- ---- what is printed as JSON data is that data as a dynamic

abbrev pub ComeBack : List Dyn → Type 0
ComeBack ds = map (λ d. tree_from (data_from (tree_of d))) ds ≡ map (λ d. Some (tree_of d)) ds

pub trees_from-back : (ds : List Dyn) → ComeBack ds → trees_from (items_from (trees_of ds)) ≡ Some (trees_of ds)
trees_from-back [] e = refl
trees_from-back (d ∷ ds) e =
    let h : tree_from (data_from (tree_of d)) ≡ Some (tree_of d) = cc in
    let r = trees_from-back ds cc in
    rw (h, r)

abbrev pub MembersComeBack : List Member → Type 0
MembersComeBack ms = map (λ m. tree_from (data_from (tree_of m.value))) ms ≡ map (λ m. Some (tree_of m.value)) ms

pub entries_from-back : (ms : List Member) → MembersComeBack ms → entries_from (members_from (entries_of ms)) ≡ Some (entries_of ms)
entries_from-back [] e = refl
entries_from-back (m ∷ ms) e =
    let h : tree_from (data_from (tree_of m.value)) ≡ Some (tree_of m.value) = cc in
    let r = entries_from-back ms cc in
    rw (h, r)

-- ---- a key after all others goes last

below_last : (l : List ℕ) (u : Tree) (es : Entries) (k : List ℕ) (t : Tree) → KeysAscend (push_entry (entry l u es) k t) → slice_cmp nat_cmp l k ≡ Less
below_last l u no_entries k t h = h.0
below_last l u (entry j v es) k t h = nat_list_cmp_total.trans l j k h.0 (below_last j v es k t h.1)

rest_ascends : (l : List ℕ) (u : Tree) (es : Entries) (k : List ℕ) (t : Tree) → KeysAscend (push_entry (entry l u es) k t) → KeysAscend (push_entry es k t)
rest_ascends l u es k t h = h.1

put_last : (es : Entries) (k : List ℕ) (t : Tree) → KeysAscend (push_entry es k t) → put k (data_from t) (members_from es) ≡ members_from (push_entry es k t)
put_last no_entries k t h = refl
put_last (entry l u es) k t h =
    let above : slice_cmp nat_cmp k l ≡ Greater = nat_list_cmp_total.antisymm k l ∙ ap ordering_reverse (below_last l u es k t h) in
    rw above (ap (json.member l (data_from u)) (put_last es k t (rest_ascends l u es k t h)))

before_pushed : (ms more : List Member) → KeysAscend (entries_of (ms ++ more)) → KeysAscend (entries_of ms)
before_pushed [] more h = tt
before_pushed (m ∷ []) more h = (tt, tt)
before_pushed (m ∷ l ∷ ms) more h = (h.0, before_pushed (l ∷ ms) more h.1)

pub members_from-put : (ms : List Member) (m : Member) (more : List Member) → KeysAscend (entries_of (ms ++ m ∷ more))
    → put m.key (data_from (tree_of m.value)) (members_from (entries_of ms)) ≡ members_from (entries_of (ms ++ m ∷ []))
members_from-put ms m more h =
    let whole : KeysAscend (entries_of (ms ++ m ∷ [])) = before_pushed (ms ++ m ∷ []) more (rw append_assoc h) in
    rw entries_of-push (put_last (entries_of ms) m.key (tree_of m.value) (rw entries_of-push at whole))

-- ---- one more, at a loop's step, and all, at its end

pub ComeBack-more : (ds : List Dyn) (i : ℕ) (d : Dyn) → i < length ds → d ≡ get_or ds i d → tree_from (data_from (tree_of d)) ≡ Some (tree_of d) → ComeBack (take i ds) → ComeBack (take (i + 1) ds)
ComeBack-more ds i d h is e back =
    let more : take (i + 1) ds ≡ take i ds ++ d ∷ [] = take_more ds i d h ∙ ap (λ x. take i ds ++ x ∷ []) (sym is) in
    let a = map-append (λ d. tree_from (data_from (tree_of d))) (take i ds) (d ∷ []) in
    let b = map-append (λ d. Some (tree_of d)) (take i ds) (d ∷ []) in
    rw more (a ∙ rw (back, e) (sym b))

pub MembersComeBack-more : (ms : List Member) (i : ℕ) (m : Member) → i < length ms → m ≡ get_or ms i m → tree_from (data_from (tree_of m.value)) ≡ Some (tree_of m.value) → MembersComeBack (take i ms) → MembersComeBack (take (i + 1) ms)
MembersComeBack-more ms i m h is e back =
    let more : take (i + 1) ms ≡ take i ms ++ m ∷ [] = take_more ms i m h ∙ ap (λ x. take i ms ++ x ∷ []) (sym is) in
    let a = map-append (λ m. tree_from (data_from (tree_of m.value))) (take i ms) (m ∷ []) in
    let b = map-append (λ m. Some (tree_of m.value)) (take i ms) (m ∷ []) in
    rw more (a ∙ rw (back, e) (sym b))

pub members_from-more : (ms : List Member) (i : ℕ) (m : Member) → i < length ms → m ≡ get_or ms i m → KeysAscend (entries_of ms)
    → put m.key (data_from (tree_of m.value)) (members_from (entries_of (take i ms))) ≡ members_from (entries_of (take (i + 1) ms))
members_from-more ms i m h is ascend =
    let more : take (i + 1) ms ≡ take i ms ++ m ∷ [] = take_more ms i m h ∙ ap (λ x. take i ms ++ x ∷ []) (sym is) in
    let whole : take i ms ++ m ∷ drop (i + 1) ms ≡ ms = sym (append_assoc (take i ms) (m ∷ []) (drop (i + 1) ms)) ∙ ap (λ xs. xs ++ drop (i + 1) ms) (sym more) ∙ take-append-drop (i + 1) ms in
    rw more (members_from-put (take i ms) m (drop (i + 1) ms) (rw whole ascend))
