-- What is inside is less deep, and smaller.
use Rattle.std.proofs.Common.{◌≡◌, ◌<◌, ◌≤◌, ℕ, zero, suc, List, [], ◌∷◌, ◌++◌, length, get_or, Option, Some, arith, sym, subst}
use Rattle.std.specs.Prelude.{IfSome}
use Rattle.serde_json.specs.Data.{Items, Members, depth, items_depth, members_depth}
use Rattle.serde_json.specs.View.{view, items_view, members_view}
use Rattle.serde_json.specs.declared.value.Value.{Value}
use Rattle.serde_json.proofs.Views.{Entry}
use Rattle.kq_value.specs.Tree.{Trees, Entries, trees_depth, entries_depth, tree_size, trees_size, entries_size}
use Rattle.kq_value.specs.Seen.{tree_of, trees_of, entries_of}
use Rattle.kq_value_formats.specs.Json.{trees_from, entries_from}
use Rattle.kq_value.specs.declared.dynamic.Dyn.{Dyn}
use Rattle.kq_value.specs.declared.dynamic.Member.{Member}
use Rattle.kq_value_formats.proofs.JsonLemmas.{trees_depth-trees_from, entries_depth-entries_from}

depth_at : (vs : List Value) (i : ℕ) (v : Value) → i < length vs → depth (view (get_or vs i v)) ≤ items_depth (items_view vs)
depth_at [] i v h = absurd (omega arith)
depth_at (w ∷ vs) zero v h = omega arith
depth_at (w ∷ vs) (suc i) v h = omega (arith, depth_at vs i v (omega arith))

pub depth-item : (vs : List Value) (i : ℕ) (v : Value) → i < length vs → v ≡ get_or vs i v → depth (view v) ≤ items_depth (items_view vs)
depth-item vs i v h e = subst (λ (w : Value). depth (view w) ≤ items_depth (items_view vs)) (sym e) (depth_at vs i v h)

pub depth-member : (done : List Entry) (e : Entry) (left : List Entry) → depth (view e.1) ≤ members_depth (members_view (done ++ e ∷ left))
depth-member [] e left = omega arith
depth-member (first ∷ done) e left = omega (arith, depth-member done e left)

pub trees_depth-from : (ds : Items) (ts : Trees) → trees_from ds ≡ Some ts → trees_depth ts ≡ items_depth ds
trees_depth-from ds ts e = subst (λ (o : Option Trees). IfSome o (λ ts. trees_depth ts ≡ items_depth ds)) e (trees_depth-trees_from ds)

pub entries_depth-from : (ms : Members) (es : Entries) → entries_from ms ≡ Some es → entries_depth es ≡ members_depth ms
entries_depth-from ms es e = subst (λ (o : Option Entries). IfSome o (λ es. entries_depth es ≡ members_depth ms)) e (entries_depth-entries_from ms)

size_at : (ds : List Dyn) (i : ℕ) (d : Dyn) → i < length ds → tree_size (tree_of (get_or ds i d)) < trees_size (trees_of ds)
size_at [] i d h = absurd (omega arith)
size_at (e ∷ ds) zero d h = omega arith
size_at (e ∷ ds) (suc i) d h = omega (arith, size_at ds i d (omega arith))

pub tree_size-item : (ds : List Dyn) (i : ℕ) (d : Dyn) → i < length ds → d ≡ get_or ds i d → tree_size (tree_of d) < trees_size (trees_of ds)
tree_size-item ds i d h e = subst (λ (x : Dyn). tree_size (tree_of x) < trees_size (trees_of ds)) (sym e) (size_at ds i d h)

member_size_at : (ms : List Member) (i : ℕ) (m : Member) → i < length ms → tree_size (tree_of (get_or ms i m).value) < entries_size (entries_of ms)
member_size_at [] i m h = absurd (omega arith)
member_size_at (l ∷ ms) zero m h = omega arith
member_size_at (l ∷ ms) (suc i) m h = omega (arith, member_size_at ms i m (omega arith))

pub tree_size-member : (ms : List Member) (i : ℕ) (m : Member) → i < length ms → m ≡ get_or ms i m → tree_size (tree_of m.value) < entries_size (entries_of ms)
tree_size-member ms i m h e = subst (λ (x : Member). tree_size (tree_of x.value) < entries_size (entries_of ms)) (sym e) (member_size_at ms i m h)
