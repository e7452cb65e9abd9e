-- What keys and what is kept of them have side by side.
use Rattle.std.proofs.Common.{◌≡◌, ◌<◌, ◌+◌, ℕ, zero, suc, List, [], ◌∷◌, ◌++◌, length, map, get_or, refl, sym, ap, ◌∙◌, arith, length-append}
use Rattle.std.proofs.lemmas.List.{get_or-map, length-map}
use Rattle.kq_run_groups.specs.kq_run_aggregates.Holds.{Kept}
use Rattle.kq_run_groups.specs.kq_run_aggregates.Steps.{kept_at}
use Rattle.kq_run_groups.specs.kq_run_aggregates.Tables.{Numbered}
use Rattle.kq_store_rows.specs.Chunks.{row_at}
use Rattle.kq_value.specs.declared.value.Value.{Value}
use Rattle.kq_run_groups.specs.Grouped.{AggregateShape}
use Rattle.kq_run_groups.specs.Groups.{Grouping, nothing, shape_of, state_at}
use Rattle.kq_run_shards.specs.Shards.{keys_in, kept_in, shard_at, states_from}

abbrev pub Key : Type 0
Key = List Value

abbrev pub AllBeside : (Key → Kept → Type 0) → List Key → List Kept → Type 0
AllBeside P [] [] = Unit {0}
AllBeside P [] (s ∷ kept) = ⊥
AllBeside P (k ∷ keys) [] = ⊥
AllBeside P (k ∷ keys) (s ∷ kept) = P k s × AllBeside P keys kept

pub beside_from : (P : Key → Kept → Type 0) (keys : List Key) (kept : List Kept) → length kept ≡ length keys → ((n : ℕ) → n < length keys → P (row_at keys n) (kept_at kept n)) → AllBeside P keys kept
beside_from P [] [] long each = tt
beside_from P [] (s ∷ kept) long each = absurd (omega (arith, long))
beside_from P (k ∷ keys) [] long each = absurd (omega (arith, long))
beside_from P (k ∷ keys) (s ∷ kept) long each = (each 0 (omega arith), beside_from P keys kept (omega (arith, long)) (λ n h. each (suc n) (omega (arith, h))))

pub beside_at : (P : Key → Kept → Type 0) (keys : List Key) (kept : List Kept) (n : ℕ) → AllBeside P keys kept → n < length keys → P (row_at keys n) (kept_at kept n)
beside_at P [] kept n all h = absurd (omega (arith, h))
beside_at P (k ∷ keys) [] n all h = absurd all
beside_at P (k ∷ keys) (s ∷ kept) zero all h = all.0
beside_at P (k ∷ keys) (s ∷ kept) (suc n) all h = beside_at P keys kept n all.1 (omega (arith, h))

pub beside_both : (P : Key → Kept → Type 0) (keys more : List Key) (kept others : List Kept) → AllBeside P keys kept → AllBeside P more others → AllBeside P (keys ++ more) (kept ++ others)
beside_both P [] more [] others all rest = rest
beside_both P [] more (s ∷ kept) others all rest = absurd all
beside_both P (k ∷ keys) more [] others all rest = absurd all
beside_both P (k ∷ keys) more (s ∷ kept) others all rest = (all.0, beside_both P keys more kept others all.1 rest)

pub beside_first : (P : Key → Kept → Type 0) (keys more : List Key) (kept others : List Kept) → length kept ≡ length keys → AllBeside P (keys ++ more) (kept ++ others) → AllBeside P keys kept × AllBeside P more others
beside_first P [] more [] others long all = (tt, all)
beside_first P [] more (s ∷ kept) others long all = absurd (omega (arith, long))
beside_first P (k ∷ keys) more [] others long all = absurd (omega (arith, long))
beside_first P (k ∷ keys) more (s ∷ kept) others long all = let rest = beside_first P keys more kept others (omega (arith, long)) all.1 in ((all.0, rest.0), rest.1)

-- ---- shards

-- an aggregate, by its number, keeps as much as there are keys
abbrev pub HasKept : ℕ → List Grouping → Type 0
HasKept a shards = (i : ℕ) → i < length shards → length (state_at (shard_at shards i).states a).kept ≡ length (shard_at shards i).keys

pub length-kept_in : (a : ℕ) (shards : List Grouping) → HasKept a shards → length (kept_in a shards) ≡ length (keys_in shards)
length-kept_in a [] has = refl
length-kept_in a (g ∷ shards) has =
    let here = has 0 (omega arith) in
    let later = length-kept_in a shards (λ i h. has (suc i) (omega (arith, h))) in
    length-append (state_at g.states a).kept (kept_in a shards) ∙ omega (arith, here, later) ∙ sym (length-append g.keys (keys_in shards))

pub beside_all : (P : Key → Kept → Type 0) (a : ℕ) (shards : List Grouping) → ((i : ℕ) → i < length shards → AllBeside P (shard_at shards i).keys (state_at (shard_at shards i).states a).kept) → AllBeside P (keys_in shards) (kept_in a shards)
beside_all P a [] each = tt
beside_all P a (g ∷ shards) each = beside_both P g.keys (keys_in shards) (state_at g.states a).kept (kept_in a shards) (each 0 (omega arith)) (beside_all P a shards (λ i h. each (suc i) (omega (arith, h))))

pub beside_one : (P : Key → Kept → Type 0) (a : ℕ) (shards : List Grouping) (i : ℕ) → HasKept a shards → i < length shards → AllBeside P (keys_in shards) (kept_in a shards)
    → AllBeside P (shard_at shards i).keys (state_at (shard_at shards i).states a).kept
beside_one P a [] i has h all = absurd (omega (arith, h))
beside_one P a (g ∷ shards) zero has h all = (beside_first P g.keys (keys_in shards) (state_at g.states a).kept (kept_in a shards) (has 0 (omega arith)) all).0
beside_one P a (g ∷ shards) (suc i) has h all =
    beside_one P a shards i (λ j l. has (suc j) (omega (arith, l))) (omega (arith, h)) (beside_first P g.keys (keys_in shards) (state_at g.states a).kept (kept_in a shards) (has 0 (omega arith)) all).1

-- ---- aggregates

-- the aggregate with this number
abbrev pub aggregate_at : List AggregateShape → ℕ → AggregateShape
aggregate_at aggregates a = get_or aggregates a (shape_of nothing)

abbrev stated : AggregateShape → List Kept → Numbered
stated g kept = record { kind = g.kind; types = g.types; kept = kept }

pub state_from_at : (aggregates : List AggregateShape) (b a : ℕ) (shards : List Grouping) → a < length aggregates
    → state_at (states_from aggregates b shards) a ≡ record { kind = (aggregate_at aggregates a).kind; types = (aggregate_at aggregates a).types; kept = kept_in (b + a) shards }
state_from_at [] b a shards h = absurd (omega (arith, h))
state_from_at (g ∷ aggregates) b zero shards h = let same : b ≡ b + 0 = omega arith in ap (λ (n : ℕ). stated g (kept_in n shards)) same
state_from_at (g ∷ aggregates) b (suc a) shards h =
    let same : (b + 1) + a ≡ b + suc a = omega arith in
    state_from_at aggregates (b + 1) a shards (omega (arith, h)) ∙ ap (λ (n : ℕ). stated (aggregate_at aggregates a) (kept_in n shards)) same

pub state_of_at : (aggregates : List AggregateShape) (a : ℕ) (shards : List Grouping) → a < length aggregates
    → state_at (states_from aggregates 0 shards) a ≡ record { kind = (aggregate_at aggregates a).kind; types = (aggregate_at aggregates a).types; kept = kept_in a shards }
state_of_at aggregates a shards h = let same : 0 + a ≡ a = omega arith in state_from_at aggregates 0 a shards h ∙ ap (λ (n : ℕ). stated (aggregate_at aggregates a) (kept_in n shards)) same

pub shapes_from : (aggregates : List AggregateShape) (b : ℕ) (shards : List Grouping) → map shape_of (states_from aggregates b shards) ≡ aggregates
shapes_from [] b shards = refl
shapes_from (g ∷ aggregates) b shards = ap (λ (gs : List AggregateShape). g ∷ gs) (shapes_from aggregates (b + 1) shards)

pub length-states_from : (aggregates : List AggregateShape) (b : ℕ) (shards : List Grouping) → length (states_from aggregates b shards) ≡ length aggregates
length-states_from [] b shards = refl
length-states_from (g ∷ aggregates) b shards = ap suc (length-states_from aggregates (b + 1) shards)

pub length_of_shapes : (states : List Numbered) (aggregates : List AggregateShape) → map shape_of states ≡ aggregates → length states ≡ length aggregates
length_of_shapes states aggregates e = sym (length-map states shape_of) ∙ ap length e

pub shape_at : (states : List Numbered) (aggregates : List AggregateShape) (a : ℕ) → map shape_of states ≡ aggregates → a < length aggregates → shape_of (state_at states a) ≡ aggregate_at aggregates a
shape_at states aggregates a e h =
    let long = length_of_shapes states aggregates e in
    sym (get_or-map shape_of states a nothing (shape_of nothing) (omega (arith, h, long))) ∙ ap (λ (gs : List AggregateShape). aggregate_at gs a) e
