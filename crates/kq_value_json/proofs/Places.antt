-- The item at a place.
use Rattle.std.proofs.Common.{◌≡◌, ◌<◌, ◌≤◌, ℕ, zero, suc, ◌+◌, ◌-◌, Bool, true, false, cond, List, [], ◌∷◌, length, get_or, pos, negsuc, nat_le, Option, Some, None, Bor, refl, ap, arith}
use Rattle.std.specs.Prelude.{ℤ, MatchOption, slice_get}
use Rattle.std.specs.Option.{option_map}
use Rattle.std.proofs.lemmas.Option.{slice_get_read}
use Rattle.kq_value.specs.Tree.{Tree, items_of}
use Rattle.kq_value.specs.Seen.{tree_of, trees_of}
use Rattle.kq_value_formats.specs.Members.{item_at}
use Rattle.kq_value.specs.declared.dynamic.Dyn.{Dyn}
use Rattle.kq_value.proofs.Trees.{slice_get-items_of}
use Rattle.kq_value_json.specs.Places.{place_of}

within : (b : Bool) (ts : List Tree) (p i : ℕ) → cond b (Some p) None ≡ Some i → cond b (slice_get ts p) None ≡ slice_get ts i
within true ts p i e = let q : p ≡ i = cc in ap (slice_get ts) q
within false ts p i e = absurd (cc)

without : (b : Bool) (ts : List Tree) (p : ℕ) → cond b (Some p) None ≡ None → cond b (slice_get ts p) None ≡ None
without true ts p e = absurd (cc)
without false ts p e = refl

pub item_at-place : (ts : List Tree) (z : ℤ) (i : ℕ) → place_of (length ts) z ≡ Some i → item_at ts z ≡ slice_get ts i
item_at-place ts (pos j) i e = let q : j ≡ i = cc in ap (slice_get ts) q
item_at-place ts (negsuc back) i e = within (nat_le (back + 1) (length ts)) ts (length ts - (back + 1)) i e

slice_get-past : (ts : List Dyn) (i : ℕ) → length ts ≤ i → slice_get ts i ≡ None
slice_get-past [] i h = refl
slice_get-past (t ∷ ts) zero h = absurd (omega arith)
slice_get-past (t ∷ ts) (suc i) h = slice_get-past ts i (omega arith)

pub got : (r : Option (Bor Dyn)) (ds : List Dyn) (i : ℕ) → MatchOption r (length ds ≤ i) (λ x. (i < length ds) × (x.now ≡ get_or ds i x.now)) → option_map (λ d. tree_of d.now) r ≡ slice_get (items_of (trees_of ds)) i
got (Some x) ds i h = let e = slice_get_read ds (length ds) i x.now refl h.0 h.1 in rw (slice_get-items_of ds i, e)
got None ds i h = rw (slice_get-items_of ds i, slice_get-past ds i h)

pub MatchOption-weaker : {A : Type 0} (N : Type 0) {P Q : A → Type 0} (r : Option A) → ((x : A) → P x → Q x) → MatchOption r N P → MatchOption r N Q
MatchOption-weaker N (Some x) f h = f x h
MatchOption-weaker N None f h = h
