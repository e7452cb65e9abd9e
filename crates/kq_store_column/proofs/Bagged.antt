-- Bags by their members: one bag more, and the bags that are lent.
use Rattle.std.proofs.Common.{◌≡◌, ◌<◌, ◌≤◌, ◌+◌, ◌^◌, ℕ, zero, suc, List, [], ◌∷◌, ◌++◌, Option, Some, IsTrue, length, map, take, drop, slice_get, get_or, unwrap_or, refl, sym, ap, subst, ◌∙◌, arith}
use Rattle.std.specs.List.{range_with_len}
use Rattle.std.specs.Ordering.{is_eq}
use Rattle.std.proofs.Math.Seq.{drop-cons}
use Rattle.std.proofs.lemmas.List.{take_all}
use Rattle.std.proofs.lemmas.List.FromFn.{map-range_with_len_more}
use Rattle.std.proofs.lemmas.Option.{slice_get-get_or, slice_get_read, unwrap_or-slice_get}
use Rattle.kq_value.specs.Bags.{IsBag}
use Rattle.kq_value.specs.Seen.{tree_of}
use Rattle.kq_value.specs.TreeOrder.{tree_cmp}
use Rattle.kq_value.specs.declared.dynamic.Dyn.{Dyn}
use Rattle.kq_value.specs.declared.dynamic.Dyn.TheVariants as dyn
use Rattle.kq_value.specs.declared.ty.Ty.TheVariants as ty
use Rattle.kq_value.specs.declared.value.Value.{Value}
use Rattle.kq_value.specs.declared.value.Value.TheVariants.{Null, Dynamic}
use Rattle.kq_value.proofs.Equals.{is_eq-Decides, value_equal}
use Rattle.kq_store_column_view.specs.Bags.{bag_at, bags_in, entries_at, AreBags}
use Rattle.kq_store_column_view.specs.Vectors.{cell_of}
use Rattle.kq_store_column_view.specs.declared.bags.Part.{Part}
use Rattle.kq_store_column_view.proofs.Bagged.{take_next}
use Rattle.kq_store_column.specs.Bags.{AreBagsOf}

-- dynamics that the order doesn't tell apart
pub same_dynamics : (d e : Dyn) → IsTrue (is_eq (tree_cmp (tree_of d) (tree_of e))) → e ≡ d
same_dynamics d e h =
    let same : Dynamic d ≡ Dynamic e = value_equal (Dynamic d) (Dynamic e) ((is_eq-Decides (tree_cmp (tree_of d) (tree_of e))).0 h) in
    cc

-- one bag more
pub bags_next : (parts : List Part) (cells : List Value) (i : ℕ) (v : Value) → i < length cells → v ≡ get_or cells i v → take i cells ≡ bags_in parts i → v ≡ bag_at parts i
    → take (i + 1) cells ≡ bags_in parts (i + 1)
bags_next parts cells i v within is so_far same =
    take_next cells i v within is ∙ (λ t. so_far t ++ same t ∷ []) ∙ sym (map-range_with_len_more (bag_at parts) 0 i i (omega arith))

-- all bags
pub all_bags : (parts : List Part) (cells : List Value) (i : ℕ) → i ≡ length cells → take i cells ≡ bags_in parts i → ((k : ℕ) → k < i → IsBag (entries_at parts k)) → AreBagsOf parts cells
all_bags parts cells i is so_far bags = record {
  same = sym (take_all i cells (omega (arith, is))) ∙ so_far ∙ ap (bags_in parts) is;
  bags = λ k h. bags k (omega (arith, is, h));
}

-- the same of what was lent for the test
pub laid_bags : (parts given : List Part) (cells lent : List Value) (count : ℕ) → given ≡ parts → lent ≡ cells → count ≡ length cells → AreBagsOf given lent → bags_in parts count ≡ cells
laid_bags parts given cells lent count ps cs n are = ap (λ (xs : List Part). bags_in xs count) (sym ps) ∙ ap (bags_in given) n ∙ ap (λ (xs : List Value). bags_in given (length xs)) (sym cs) ∙ sym are.same ∙ cs

pub are_bags : (parts given : List Part) (cells lent : List Value) (count : ℕ) → given ≡ parts → lent ≡ cells → count ≡ length cells → count < 2 ^ 63 → AreBagsOf given lent → AreBags parts count
are_bags parts given cells lent count ps cs n small are =
    let long = ap length cs in
    record { bags = λ i h. subst (λ (xs : List Part). IsBag (entries_at xs i)) ps (are.bags i (omega (arith, h, n, long))); small = small }

-- the member that stands at a place
pub member_read : (members : List Dyn) (i : ℕ) (d : Dyn) → i < length members → d ≡ get_or members i d → d ≡ unwrap_or (slice_get members i) dyn.Null
member_read members i d within is = sym (ap (λ (o : Option Dyn). unwrap_or o dyn.Null) (slice_get_read members (length members) i d refl within is))

-- the cell that stands at a place
pub cell_read : (cells : List Value) (i : ℕ) (v : Value) → i < length cells → v ≡ cell_of cells i → slice_get cells i ≡ Some v
cell_read cells i v within is = slice_get-get_or cells i (Null ty.Long) within ∙ ap (λ (w : Value). Some w) (sym (is ∙ unwrap_or-slice_get cells i (Null ty.Long)))

-- the cells at the places from one on, up to another
pub cells_between : (cells : List Value) (from n : ℕ) → from + n ≤ length cells → map (cell_of cells) (range_with_len from n) ≡ take n (drop from cells)
cells_between cells from zero h = refl
cells_between cells from (suc n) h =
    let first = Null ty.Long in
    let within : from < length cells = omega arith in
    let next : from + 1 ≡ suc from = omega arith in
    (λ t. unwrap_or-slice_get cells from first t ∷ cells_between cells (from + 1) n (omega arith) t) ∙ ap (λ (k : ℕ). get_or cells from first ∷ take n (drop k cells)) next
    ∙ sym (ap (take (suc n)) (drop-cons cells from first within))
