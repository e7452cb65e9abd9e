-- The rows of the groups of all shards.
use Rattle.std.proofs.Common.{◌≡◌, ◌<◌, ◌+◌, ℕ, zero, suc, List, [], ◌∷◌, ◌++◌, length, map, drop, Err, refl, sym, ap, ◌∙◌, subst, arith, append_assoc}
use Rattle.std.specs.List.{All}
use Rattle.std.proofs.lemmas.List.{get_or_append_left, get_or-append-add, drop_more}
use Rattle.std.proofs.lemmas.List.Elements.{All-append, All-cons, All-nil}
use Rattle.kq_run_groups.specs.kq_run_aggregates.Holds.{Kept, finished}
use Rattle.kq_run_groups.specs.kq_run_aggregates.Steps.{kept_at}
use Rattle.kq_run_groups.specs.kq_run_aggregates.Tables.{Numbered}
use Rattle.kq_value.specs.Computed.{Answers, Computed, Is, Overflow, and_then}
use Rattle.kq_value.specs.declared.fault.EvalFault.{EvalFault}
use Rattle.kq_value.specs.declared.fault.EvalFault.TheVariants as fault
use Rattle.kq_store_rows.specs.Chunks.{HasWidth, same_width}
use Rattle.kq_run_groups.specs.Grouped.{AggregateShape}
use Rattle.kq_run_groups.specs.Groups.{EndsWide, Grouping, HasAllGroups, cells_from, nothing, rows_from, shape_of, state_at}
use Rattle.kq_run_groups.proofs.Finishing.{cells_wide, columns_of, row_wide}
use Rattle.kq_run_shards.specs.Shards.{AreFinishable, AreShards, IsShard, keys_in, kept_in, nobody, rows_in, shard_at, states_from}
use Rattle.kq_run_shards.proofs.Beside.{Key, HasKept, aggregate_at, beside_at, beside_from, beside_one, length-kept_in, length-states_from, length_of_shapes, shape_at, state_of_at}

-- ---- rows one after another

rows_first : (c : Computed Key) (d e : Computed (List Key)) (k : Key) → and_then c (λ x. and_then (and_then d (λ y. and_then e (λ z. Is (y ++ z)))) (λ rows. Is ((k ++ x) ∷ rows)))
    ≡ and_then (and_then c (λ x. and_then d (λ rows. Is ((k ++ x) ∷ rows)))) (λ y. and_then e (λ z. Is (y ++ z)))
rows_first Overflow d e k = refl
rows_first (Is x) Overflow e k = refl
rows_first (Is x) (Is y) Overflow k = refl
rows_first (Is x) (Is y) (Is z) k = refl

none_first : (e : Computed (List Key)) → e ≡ and_then e (λ z. Is z)
none_first Overflow = refl
none_first (Is z) = refl

rows_from-append : (states : List Numbered) (keys more : List Key) (n : ℕ) → rows_from states (keys ++ more) n ≡ and_then (rows_from states keys n) (λ y. and_then (rows_from states more (n + length keys)) (λ z. Is (y ++ z)))
rows_from-append states [] more n = let same : n ≡ n + 0 = omega arith in ap (rows_from states more) same ∙ none_first (rows_from states more (n + 0))
rows_from-append states (k ∷ keys) more n =
    let same : (n + 1) + length keys ≡ n + suc (length keys) = omega arith in
    ap (λ (d : Computed (List Key)). and_then (cells_from states n) (λ x. and_then d (λ rows. Is ((k ++ x) ∷ rows)))) (rows_from-append states keys more (n + 1))
    ∙ rows_first (cells_from states n) (rows_from states keys (n + 1)) (rows_from states more ((n + 1) + length keys)) k
    ∙ ap (λ (m : ℕ). and_then (rows_from states (k ∷ keys) n) (λ y. and_then (rows_from states more m) (λ z. Is (y ++ z)))) same

rows_from-same : (states others : List Numbered) (keys : List Key) (n m : ℕ) → ((j : ℕ) → j < length keys → cells_from states (n + j) ≡ cells_from others (m + j)) → rows_from states keys n ≡ rows_from others keys m
rows_from-same states others [] n m same = refl
rows_from-same states others (k ∷ keys) n m same =
    let here : n + 0 ≡ n = omega arith in
    let there : m + 0 ≡ m = omega arith in
    ap (λ (c : Computed Key). and_then c (λ x. and_then (rows_from states keys (n + 1)) (λ rows. Is ((k ++ x) ∷ rows)))) (ap (cells_from states) (sym here) ∙ same 0 (omega arith) ∙ ap (cells_from others) there)
    ∙ ap (λ (d : Computed (List Key)). and_then (cells_from others m) (λ x. and_then d (λ rows. Is ((k ++ x) ∷ rows))))
    (rows_from-same states others keys (n + 1) (m + 1) (λ j h.
    let a : (n + 1) + j ≡ n + suc j = omega arith in
    let b : m + suc j ≡ (m + 1) + j = omega arith in
    ap (cells_from states) a ∙ same (suc j) (omega (arith, h)) ∙ ap (cells_from others) b))

-- ---- cells

one_cells : (s t : Numbered) (n m : ℕ) (c d : Computed Key) → s.types ≡ t.types → kept_at s.kept n ≡ kept_at t.kept m → c ≡ d
    → and_then (finished s.types (kept_at s.kept n)) (λ x. and_then c (λ y. Is (x ++ y))) ≡ and_then (finished t.types (kept_at t.kept m)) (λ x. and_then d (λ y. Is (x ++ y)))
one_cells s t n m c d types kept rest = rw (types, kept, rest) refl

cells-same : (states others : List Numbered) (n m : ℕ) → length states ≡ length others → ((a : ℕ) → a < length states → ((state_at states a).types ≡ (state_at others a).types) × (kept_at (state_at states a).kept n ≡ kept_at (state_at others a).kept m))
    → cells_from states n ≡ cells_from others m
cells-same [] [] n m long same = refl
cells-same [] (t ∷ others) n m long same = absurd (omega (arith, long))
cells-same (s ∷ states) [] n m long same = absurd (omega (arith, long))
cells-same (s ∷ states) (t ∷ others) n m long same =
    let here = same 0 (omega arith) in
    one_cells s t n m (cells_from states n) (cells_from others m) here.0 here.1 (cells-same states others n m (omega (arith, long)) (λ a h. same (suc a) (omega (arith, h))))

-- ---- the shards that follow

-- shards as they stand in a row
record AreLike (aggregates : List AggregateShape) (shards : List Grouping) : Type 0 where
  pub shapes : (i : ℕ) → i < length shards → map shape_of (shard_at shards i).states ≡ aggregates
  pub kept : (a : ℕ) → a < length aggregates → HasKept a shards

like_later : (aggregates : List AggregateShape) (g : Grouping) (shards : List Grouping) → AreLike aggregates (g ∷ shards) → AreLike aggregates shards
like_later aggregates g shards like = record {
  shapes = λ i h. like.shapes (suc i) (omega (arith, h));
  kept = λ a h i l. like.kept a h (suc i) (omega (arith, l));
}

first_cells : (aggregates : List AggregateShape) (g : Grouping) (shards : List Grouping) (j : ℕ) → AreLike aggregates (g ∷ shards) → j < length g.keys → cells_from (states_from aggregates 0 (g ∷ shards)) (0 + j) ≡ cells_from g.states (0 + j)
first_cells aggregates g shards j like h =
    let shapes = like.shapes 0 (omega arith) in
    let many = length-states_from aggregates 0 (g ∷ shards) in
    let as_many = length_of_shapes g.states aggregates shapes in
    let same : 0 + j ≡ j = omega arith in
    cells-same (states_from aggregates 0 (g ∷ shards)) g.states (0 + j) (0 + j) (many ∙ sym as_many) (λ a l.
    let inside : a < length aggregates = omega (arith, l, many) in
    let at = state_of_at aggregates a (g ∷ shards) inside in
    let long = like.kept a inside 0 (omega arith) in (
      ap (λ (s : Numbered). s.types) at ∙ sym (ap (λ (x : AggregateShape). x.types) (shape_at g.states aggregates a shapes inside)),
      ap (λ (s : Numbered). kept_at s.kept (0 + j)) at ∙ get_or_append_left (state_at g.states a).kept (kept_in a shards) (kept_at [] 0) (0 + j) (omega (arith, h, long)),
    ))

later_cells : (aggregates : List AggregateShape) (g : Grouping) (shards : List Grouping) (j : ℕ) → AreLike aggregates (g ∷ shards)
    → cells_from (states_from aggregates 0 (g ∷ shards)) ((0 + length g.keys) + j) ≡ cells_from (states_from aggregates 0 shards) (0 + j)
later_cells aggregates g shards j like =
    let many = length-states_from aggregates 0 (g ∷ shards) in
    let as_many = length-states_from aggregates 0 shards in
    cells-same (states_from aggregates 0 (g ∷ shards)) (states_from aggregates 0 shards) ((0 + length g.keys) + j) (0 + j) (many ∙ sym as_many) (λ a l.
    let inside : a < length aggregates = omega (arith, l, many) in
    let at = state_of_at aggregates a (g ∷ shards) inside in
    let then = state_of_at aggregates a shards inside in
    let long = like.kept a inside 0 (omega arith) in
    let here : (0 + length g.keys) + j ≡ length (state_at g.states a).kept + j = omega (arith, long) in
    let there : j ≡ 0 + j = omega arith in (
      ap (λ (s : Numbered). s.types) at ∙ sym (ap (λ (s : Numbered). s.types) then),
      ap (λ (s : Numbered). kept_at s.kept ((0 + length g.keys) + j)) at ∙ ap (kept_at ((state_at g.states a).kept ++ kept_in a shards)) here ∙ get_or-append-add (state_at g.states a).kept (kept_in a shards) j (kept_at [] 0)
          ∙ ap (kept_at (kept_in a shards)) there ∙ sym (ap (λ (s : Numbered). kept_at s.kept (0 + j)) then),
    ))

rows_in_row : (aggregates : List AggregateShape) (shards : List Grouping) → AreLike aggregates shards → rows_from (states_from aggregates 0 shards) (keys_in shards) 0 ≡ rows_in shards
rows_in_row aggregates [] like = refl
rows_in_row aggregates (g ∷ shards) like =
    let states = states_from aggregates 0 (g ∷ shards) in
    rows_from-append states g.keys (keys_in shards) 0
    ∙ ap (λ (d : Computed (List Key)). and_then d (λ y. and_then (rows_from states (keys_in shards) (0 + length g.keys)) (λ z. Is (y ++ z))))
    (rows_from-same states g.states g.keys 0 0 (λ j h. first_cells aggregates g shards j like h))
    ∙ ap (λ (e : Computed (List Key)). and_then (rows_from g.states g.keys 0) (λ y. and_then e (λ z. Is (y ++ z))))
    (rows_from-same states (states_from aggregates 0 shards) (keys_in shards) (0 + length g.keys) 0 (λ j h. later_cells aggregates g shards j like) ∙ rows_in_row aggregates shards (like_later aggregates g shards like))

like_shards : (width : ℕ) (aggregates : List AggregateShape) (shards : List Grouping) → AreShards width aggregates shards → AreLike aggregates shards
like_shards width aggregates shards are = record {
  shapes = λ i h. (are.each i h).shapes;
  kept = λ a h i l.
      let s = are.each i l in
      s.whole a nothing (let long = length_of_shapes (shard_at shards i).states aggregates s.shapes in omega (arith, h, long));
}

-- the rows of all groups are those of the shards
pub rows_of_all : (width : ℕ) (aggregates : List AggregateShape) (shards : List Grouping) → AreShards width aggregates shards → rows_in shards ≡ rows_from (states_from aggregates 0 shards) (keys_in shards) 0
rows_of_all width aggregates shards are = sym (rows_in_row aggregates shards (like_shards width aggregates shards are))

-- ---- widths

abbrev columns_in : List AggregateShape → ℕ
columns_in [] = 0
columns_in (g ∷ aggregates) = length g.types + columns_in aggregates

columns_of_shapes : (states : List Numbered) → columns_of states ≡ columns_in (map shape_of states)
columns_of_shapes [] = refl
columns_of_shapes (s ∷ states) = ap (λ (n : ℕ). length s.types + n) (columns_of_shapes states)

-- these are a row and others
record IsFirst (c : Computed Key) (d : Computed (List Key)) (k : Key) (rows : List Key) : Type 0 where
  pub cells : Key
  pub others : List Key
  pub first : and_then c (λ x. Is (k ++ x)) ≡ Is (k ++ cells)
  pub rest : d ≡ Is others
  pub are : rows ≡ (k ++ cells) ∷ others

is_first : (c : Computed Key) (d : Computed (List Key)) (k : Key) (rows : List Key) → and_then c (λ x. and_then d (λ more. Is ((k ++ x) ∷ more))) ≡ Is rows → IsFirst c d k rows
is_first Overflow d k rows e = absurd cc
is_first (Is x) Overflow k rows e = absurd cc
is_first (Is x) (Is more) k rows e = record { cells = x; others = more; first = refl; rest = refl; are = cc }

rows_wide : (states : List Numbered) (keys : List Key) (n width : ℕ) (rows : List Key) → All (HasWidth width) keys → All EndsWide states → ((j : ℕ) → j < length keys → All (λ (s : Numbered). n + j < length s.kept) states)
    → rows_from states keys n ≡ Is rows → All (HasWidth (width + columns_of states)) rows
rows_wide states [] n width rows wide ends within e = let none : rows ≡ [] = cc in subst (All (HasWidth (width + columns_of states))) (sym none) (All-nil (HasWidth (width + columns_of states)))
rows_wide states (k ∷ keys) n width rows wide ends within e =
    let f = is_first (cells_from states n) (rows_from states keys (n + 1)) k rows e in
    let here : n + 0 ≡ n = omega arith in
    let all : All (λ (s : Numbered). n < length s.kept) states = subst (λ (m : ℕ). All (λ (s : Numbered). m < length s.kept) states) here (within 0 (omega arith)) in
    subst (All (HasWidth (width + columns_of states))) (sym f.are)
    (All-cons (HasWidth (width + columns_of states)) (k ++ f.cells) f.others
    (row_wide (cells_from states n) k (k ++ f.cells) width (columns_of states) (wide 0 [] (omega arith)) (λ x. cells_wide states n x ends all) f.first)
    (rows_wide states keys (n + 1) width f.others (λ i d h. wide (suc i) d (omega (arith, h))) ends
    (λ j h. let next : n + suc j ≡ (n + 1) + j = omega arith in subst (λ (m : ℕ). All (λ (s : Numbered). m < length s.kept) states) next (within (suc j) (omega (arith, h)))) f.rest))

-- what is kept ends with so many cells
abbrev ends_in : AggregateShape → Key → Kept → Type 0
ends_in g k s = (cells : Key) → finished g.types s ≡ Is cells → length cells ≡ length g.types

ends_at : (states : List Numbered) → ((a : ℕ) → a < length states → EndsWide (state_at states a)) → All EndsWide states
ends_at [] each i d h = absurd (omega (arith, h))
ends_at (s ∷ states) each zero d h = each 0 (omega arith)
ends_at (s ∷ states) each (suc i) d h = ends_at states (λ a l. each (suc a) (omega (arith, l))) i d (omega (arith, h))

-- a shard ends as all do
ends_one : (width : ℕ) (aggregates : List AggregateShape) (shards : List Grouping) (i : ℕ) → AreShards width aggregates shards → All EndsWide (states_from aggregates 0 shards) → i < length shards → All EndsWide (shard_at shards i).states
ends_one width aggregates shards i are ends l = ends_at g.states one
  where
    g : Grouping
    g = shard_at shards i

    s : IsShard width aggregates i g
    s = are.each i l

    one : (a : ℕ) → a < length g.states → EndsWide (state_at g.states a)
    one a h =
        let long = length_of_shapes g.states aggregates s.shapes in
        let inside : a < length aggregates = omega (arith, h, long) in
        let has = (like_shards width aggregates shards are).kept a inside in
        let there : a < length (states_from aggregates 0 shards) = let many = length-states_from aggregates 0 shards in omega (arith, inside, many) in
        let shape = aggregate_at aggregates a in
        let long_in = length-kept_in a shards has in
        let all : EndsWide (record { kind = shape.kind; types = shape.types; kept = kept_in a shards }) = subst EndsWide (state_of_at aggregates a shards inside) (ends a nothing there) in
        let both = beside_from (ends_in shape) (keys_in shards) (kept_in a shards) long_in (λ n m cells. all.each n cells (omega (arith, m, long_in))) in
        let mine = beside_one (ends_in shape) a shards i has l both in
        let types : shape.types ≡ (state_at g.states a).types = sym (ap (λ (x : AggregateShape). x.types) (shape_at g.states aggregates a s.shapes inside)) in
        record {
          each = λ n cells m e.
              let as_many = has i l in
              subst (λ ts. finished ts (kept_at (state_at g.states a).kept n) ≡ Is cells → length cells ≡ length ts) types
              (beside_at (ends_in shape) g.keys (state_at g.states a).kept n mine (omega (arith, m, as_many)) cells) e;
        }

pub AreFinishable-shards : (width : ℕ) (aggregates : List AggregateShape) (shards : List Grouping) → AreShards width aggregates shards → All EndsWide (states_from aggregates 0 shards) → AreFinishable shards
AreFinishable-shards width aggregates shards are ends = record {
  whole = from_each (λ g. HasAllGroups g) shards (λ i h. (are.each i h).whole);
  ends = from_each (λ (g : Grouping). All EndsWide g.states) shards (λ i h. ends_one width aggregates shards i are ends h);
  width = width + columns_in aggregates;
  wide = λ i rows h e.
      let s = are.each i h in
      let g = shard_at shards i in
      let columns : columns_of g.states ≡ columns_in aggregates = columns_of_shapes g.states ∙ ap columns_in s.shapes in
      subst (λ (n : ℕ). All (HasWidth (width + n)) rows) columns
      (rows_wide g.states g.keys 0 width rows s.wide (ends_one width aggregates shards i are ends h)
      (λ j l m d k. let w = s.whole m d k in omega (arith, l, w)) e);
}
  where
    from_each : (P : Grouping → Type 0) (gs : List Grouping) → ((i : ℕ) → i < length gs → P (shard_at gs i)) → All P gs
    from_each P [] each i d h = absurd (omega (arith, h))
    from_each P (g ∷ gs) each zero d h = each 0 (omega arith)
    from_each P (g ∷ gs) each (suc i) d h = from_each P gs (λ j l. each (suc j) (omega (arith, l))) i d (omega (arith, h))

-- ---- the loop

-- the rows so far, and those of the shards that are left
pub record IsEnding (shards : List Grouping) (i : ℕ) (rows : List Key) : Type 0 where
  pub whole : rows_in shards ≡ and_then (rows_in (drop i shards)) (λ rest. Is (rows ++ rest))
  pub width : ℕ
  pub wide : All (HasWidth width) rows
  pub each : (j : ℕ) (more : List Key) → j < length shards → rows_from (shard_at shards j).states (shard_at shards j).keys 0 ≡ Is more → All (HasWidth width) more

through : (d : Computed (List Key)) (rows more : List Key) → and_then (and_then d (λ y. Is (more ++ y))) (λ rest. Is (rows ++ rest)) ≡ and_then d (λ rest. Is ((rows ++ more) ++ rest))
through Overflow rows more = refl
through (Is y) rows more = ap Is (sym (append_assoc rows more y))

next_shard : (shards : List Grouping) (i : ℕ) (rows : List Key) → IsEnding shards i rows → i < length shards
    → rows_in shards ≡ and_then (and_then (rows_from (shard_at shards i).states (shard_at shards i).keys 0) (λ x. and_then (rows_in (drop (i + 1) shards)) (λ y. Is (x ++ y)))) (λ rest. Is (rows ++ rest))
next_shard shards i rows e h = e.whole ∙ ap (λ (gs : List Grouping). and_then (rows_in gs) (λ rest. Is (rows ++ rest))) (drop_more shards i nobody h)

pub IsEnding-more : (shards : List Grouping) (i : ℕ) (rows more : List Key) → IsEnding shards i rows → i < length shards → rows_from (shard_at shards i).states (shard_at shards i).keys 0 ≡ Is more → IsEnding shards (i + 1) (rows ++ more)
IsEnding-more shards i rows more e h is = record {
  whole = next_shard shards i rows e h
      ∙ ap (λ (c : Computed (List Key)). and_then (and_then c (λ x. and_then (rows_in (drop (i + 1) shards)) (λ y. Is (x ++ y)))) (λ rest. Is (rows ++ rest))) is
      ∙ through (rows_in (drop (i + 1) shards)) rows more;
  width = e.width;
  wide = All-append (HasWidth e.width) rows more e.wide (e.each i more h is);
  each = e.each;
}

-- both have the width
pub IsEnding-wide : (shards : List Grouping) (i : ℕ) (rows more : List Key) → IsEnding shards i rows → i < length shards → rows_from (shard_at shards i).states (shard_at shards i).keys 0 ≡ Is more → same_width (rows ++ more)
IsEnding-wide shards i rows more e h is = all_same (rows ++ more) e.width (All-append (HasWidth e.width) rows more e.wide (e.each i more h is))
  where
    all_same : (all : List Key) (w : ℕ) → All (HasWidth w) all → same_width all
    all_same [] w wide = tt
    all_same (r ∷ all) w wide = let one = wide 0 [] (omega arith) in (λ j d l. let other = wide (suc j) d (omega (arith, l)) in other ∙ sym one)

pub IsEnding-lost : (shards : List Grouping) (i : ℕ) (rows : List Key) → IsEnding shards i rows → i < length shards → rows_from (shard_at shards i).states (shard_at shards i).keys 0 ≡ Overflow → rows_in shards ≡ Overflow
IsEnding-lost shards i rows e h is =
    next_shard shards i rows e h ∙ ap (λ (c : Computed (List Key)). and_then (and_then c (λ x. and_then (rows_in (drop (i + 1) shards)) (λ y. Is (x ++ y)))) (λ rest. Is (rows ++ rest))) is

-- a fault of a shard is one of all
pub IsEnding-fault : (shards : List Grouping) (i : ℕ) (rows : List Key) (r : EvalFault) → IsEnding shards i rows → i < length shards → Answers (rows_from (shard_at shards i).states (shard_at shards i).keys 0) (Err r) → Answers (rows_in shards) (Err r)
IsEnding-fault shards i rows fault.Overflow e h a = IsEnding-lost shards i rows e h a
IsEnding-fault shards i rows fault.Memory e h a = tt
