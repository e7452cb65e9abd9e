-- JSON data and dynamics, one by one.
use Rattle.std.proofs.Common.{◌≡◌, ◌<◌, ◌≤◌, ℕ, zero, suc, List, [], ◌∷◌, ◌++◌, length, get_or, map, take, string_bytes, string_cmp, Option, Some, None, refl, sym, ap, ◌∙◌, arith}
use Rattle.std.proofs.lemmas.List.{map-append, take_all}
use Rattle.std.specs.Option.{option_map, option_and_then}
use Rattle.std.specs.Map as entries
use Rattle.std.specs.List.Sorted.{IsStrictlySortedBy}
use Rattle.serde_json.specs.View.{view, items_view, members_view}
use Rattle.serde_json.specs.declared.value.Value.{Value}
use Rattle.serde_json.proofs.Views.{Entry}
use Rattle.kq_value.specs.Tree.{item, entry}
use Rattle.kq_value.specs.Seen.{tree_of, trees_of, entries_of}
use Rattle.kq_value.specs.Bags.{KeysAscend}
use Rattle.kq_value_formats.specs.Json.{tree_from, trees_from, entries_from}
use Rattle.kq_value.specs.declared.dynamic.Dyn.{Dyn}
use Rattle.kq_value.specs.declared.dynamic.Member.{Member}

-- each value of the one list is the dynamic at its place in the other
abbrev pub AreItems : List Value → List Dyn → Type 0
AreItems vs ds = map (λ v. tree_from (view v)) vs ≡ map (λ d. Some (tree_of d)) ds

pub trees_from-items : (vs : List Value) (ds : List Dyn) → AreItems vs ds → trees_from (items_view vs) ≡ Some (trees_of ds)
trees_from-items [] [] e = refl
trees_from-items [] (d ∷ ds) e = cc
trees_from-items (v ∷ vs) [] e = cc
trees_from-items (v ∷ vs) (d ∷ ds) e =
    let h : tree_from (view v) ≡ Some (tree_of d) = cc in
    let r = trees_from-items vs ds cc in
    rw (h, r)

none_then : {A B C : Type 0} (f : A → B → C) (o : Option A) → option_and_then (λ a. option_map (f a) None) o ≡ None
none_then f (Some a) = refl
none_then f None = refl

missing_at : (vs : List Value) (i : ℕ) (v : Value) → i < length vs → tree_from (view (get_or vs i v)) ≡ None → trees_from (items_view vs) ≡ None
missing_at [] i v h e = absurd (omega arith)
missing_at (w ∷ vs) zero v h e = rw e
missing_at (w ∷ vs) (suc i) v h e = rw (missing_at vs i v (omega arith) e) (none_then item (tree_from (view w)))

pub trees_from-missing : (vs : List Value) (i : ℕ) (v : Value) → i < length vs → v ≡ get_or vs i v → None ≡ tree_from (view v) → None ≡ trees_from (items_view vs)
trees_from-missing vs i v h is e = sym (missing_at vs i v h (ap (λ w. tree_from (view w)) (sym is) ∙ sym e))

pub AreItems-whole : (vs : List Value) (ds : List Dyn) (i : ℕ) → length vs ≤ i → AreItems (take i vs) ds → AreItems vs ds
AreItems-whole vs ds i h a = rw (take_all i vs h) at a

-- the same of entries
abbrev pub name_of : Entry → List ℕ
name_of e = string_bytes e.0

pub record AreMembers (es : List Entry) (ms : List Member) : Type 0 where
  pub names : map name_of es ≡ map (λ m. m.key) ms
  pub values : map (λ e. tree_from (view e.1)) es ≡ map (λ m. Some (tree_of m.value)) ms

pub entries_from-members : (es : List Entry) (ms : List Member) → AreMembers es ms → entries_from (members_view es) ≡ Some (entries_of ms)
entries_from-members [] [] a = refl
entries_from-members [] (m ∷ ms) a = let e = a.names in cc
entries_from-members (e ∷ es) [] a = let e = a.names in cc
entries_from-members (e ∷ es) (m ∷ ms) a =
    let names = a.names in
    let values = a.values in
    let n : name_of e ≡ m.key = cc in
    let h : tree_from (view e.1) ≡ Some (tree_of m.value) = cc in
    let r = entries_from-members es ms (record { names = cc; values = cc }) in
    rw (h, r, n)

pub entries_from-missing : (done : List Entry) (e : Entry) (left : List Entry) → None ≡ tree_from (view e.1) → None ≡ entries_from (members_view (done ++ e ∷ left))
entries_from-missing [] e left h = rw (← h)
entries_from-missing (first ∷ done) e left h = rw (← entries_from-missing done e left h) (sym (none_then (entry (name_of first)) (tree_from (view first.1))))

pub AreMembers-push : (es : List Entry) (ms : List Member) (e : Entry) (m : Member) → AreMembers es ms → name_of e ≡ m.key → tree_from (view e.1) ≡ Some (tree_of m.value) → AreMembers (es ++ e ∷ []) (ms ++ m ∷ [])
AreMembers-push es ms e m a n h = record {
  names = map-append name_of es (e ∷ []) ∙ rw (a.names, n) (sym (map-append (λ m. m.key) ms (m ∷ [])));
  values = map-append (λ e. tree_from (view e.1)) es (e ∷ []) ∙ rw (a.values, h) (sym (map-append (λ m. Some (tree_of m.value)) ms (m ∷ [])));
}

-- entries that stand in order, each once, are a bag
pub KeysAscend-members : (es : List Entry) (ms : List Member) → IsStrictlySortedBy string_cmp (entries.keys_of es) → map name_of es ≡ map (λ m. m.key) ms → KeysAscend (entries_of ms)
unfolding IsStrictlySortedBy
KeysAscend-members es [] h n = tt
KeysAscend-members es (m ∷ []) h n = (tt, tt)
KeysAscend-members [] (m ∷ l ∷ ms) h n = cc
KeysAscend-members (e ∷ []) (m ∷ l ∷ ms) h n = cc
KeysAscend-members (e ∷ f ∷ es) (m ∷ l ∷ ms) h n =
    let x : name_of e ≡ m.key = cc in
    let y : name_of f ≡ l.key = cc in
    (rw (x, y) at h.0.0, KeysAscend-members (f ∷ es) (l ∷ ms) h.1 cc)
