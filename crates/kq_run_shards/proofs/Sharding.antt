-- Shards, and the groups of all of them.
use Rattle.std.proofs.Common.{◌≡◌, ◌<◌, ◌≤◌, ◌+◌, ◌-◌, inl, inr, ℕ, zero, suc, min, Bool, true, false, cond, List, [], ◌∷◌, ◌++◌, length, map, get_or, replicate, refl, sym, ap, ◌∙◌, subst, arith, append-nil}
use Rattle.std.specs.List.{All, filter}
use Rattle.std.proofs.lemmas.Bool.{cases_lt, false≢true}
use Rattle.std.proofs.lemmas.Bool.Decides.{Decides-eqb}
use Rattle.std.proofs.lemmas.List.{get_or-map, get_or-replicate, get_or_append_left, get_or_push, length-map, length-replicate, replicate_more}
use Rattle.std.proofs.lemmas.List.Elements.{All-append, All-cons, All-nil}
use Rattle.kq_run_groups.specs.kq_run_aggregates.Holds.{Kept, Holds}
use Rattle.kq_run_groups.specs.kq_run_aggregates.Steps.{kept_at}
use Rattle.kq_run_groups.specs.kq_run_aggregates.Tables.{Numbered}
use Rattle.kq_run_groups.specs.kq_run_aggregates.Kind.{Kind}
use Rattle.kq_store_rows.specs.Chunks.{HasWidth, row_at}
use Rattle.kq_value.specs.Same.{times}
use Rattle.kq_value.specs.Values.{is_same_row}
use Rattle.kq_value.proofs.Equals.{is_same_row-Decides}
use Rattle.kq_value.proofs.SameLemmas.{NoOftener-filter, times-append}
use Rattle.kq_run_groups.specs.Grouped.{AggregateShape, AreKeys}
use Rattle.kq_run_groups.specs.Groups.{Grouping, HasGroups, HasAllGroups, Starts, nothing, shape_of, state_at}
use Rattle.kq_run_groups.specs.Merges.{Keeps, Lacks, Merges, NoneBeyond, Under, picked, picked_states}
use Rattle.kq_run_groups.proofs.Merging.{Stands-both}
use Rattle.kq_run_groups.proofs.Tables.{stands_at}
use Rattle.kq_run_shards.specs.Shards.{AreFolded, AreShards, FoldsShard, IsShard, all_of, is_in, keys_in, kept_in, nobody, shard_at, shard_of, states_from}
use Rattle.kq_run_shards.proofs.Beside.{Key, AllBeside, HasKept, aggregate_at, beside_all, beside_at, beside_from, beside_one, length-kept_in, length-states_from, length_of_shapes, shape_at, shapes_from, state_of_at}

-- ---- what the shards keep, all keep

has_kept : (width : ℕ) (aggregates : List AggregateShape) (shards : List Grouping) (a : ℕ) → AreShards width aggregates shards → a < length aggregates → HasKept a shards
has_kept width aggregates shards a are h i l =
    let s = are.each i l in
    let long = length_of_shapes (shard_at shards i).states aggregates s.shapes in
    s.whole a nothing (omega (arith, h, long))

-- this is kept of a key
abbrev held : Kind → (Key → List Key) → Key → Kept → Type 0
held kind under k s = Holds kind (under k) s

kind_in : (width : ℕ) (aggregates : List AggregateShape) (i : ℕ) (g : Grouping) (a : ℕ) → IsShard width aggregates i g → a < length aggregates → (state_at g.states a).kind ≡ (aggregate_at aggregates a).kind
kind_in width aggregates i g a s h = ap (λ (x : AggregateShape). x.kind) (shape_at g.states aggregates a s.shapes h)

pub keeps_one : (width : ℕ) (aggregates : List AggregateShape) (shards : List Grouping) (under : Under) (i : ℕ) → AreShards width aggregates shards → i < length shards → Keeps under (all_of width aggregates shards) → Keeps under (shard_at shards i)
keeps_one width aggregates shards under i are l keeps a n h within =
    let s = are.each i l in
    let g = shard_at shards i in
    let kind = (aggregate_at aggregates a).kind in
    let inside : a < length aggregates = let long = length_of_shapes g.states aggregates s.shapes in omega (arith, h, long) in
    let has = has_kept width aggregates shards a are inside in
    let there : a < length (states_from aggregates 0 shards) = let long = length-states_from aggregates 0 shards in omega (arith, inside, long) in
    let all : AllBeside (held kind (under a)) (keys_in shards) (kept_in a shards) =
    beside_from (held kind (under a)) (keys_in shards) (kept_in a shards) (length-kept_in a shards has)
    (λ m k. subst (λ (t : Numbered). Holds t.kind (under a (row_at (keys_in shards) m)) (kept_at t.kept m)) (state_of_at aggregates a shards inside) (keeps a m there k)) in
    subst (λ (k : Kind). Holds k (under a (row_at g.keys n)) (kept_at (state_at g.states a).kept n)) (sym (kind_in width aggregates i g a s inside))
    (beside_at (held kind (under a)) g.keys (state_at g.states a).kept n (beside_one (held kind (under a)) a shards i has l all) within)

pub keeps_all : (width : ℕ) (aggregates : List AggregateShape) (shards : List Grouping) (under : Under) → AreShards width aggregates shards → ((i : ℕ) → i < length shards → Keeps under (shard_at shards i)) → Keeps under (all_of width aggregates shards)
keeps_all width aggregates shards under are each a n h within =
    let kind = (aggregate_at aggregates a).kind in
    let inside : a < length aggregates = let long = length-states_from aggregates 0 shards in omega (arith, h, long) in
    let has = has_kept width aggregates shards a are inside in
    subst (λ (t : Numbered). Holds t.kind (under a (row_at (keys_in shards) n)) (kept_at t.kept n)) (sym (state_of_at aggregates a shards inside))
    (beside_at (held kind (under a)) (keys_in shards) (kept_in a shards) n
    (beside_all (held kind (under a)) a shards (λ i l.
    let s = are.each i l in
    let g = shard_at shards i in
    let long = length_of_shapes g.states aggregates s.shapes in
    beside_from (held kind (under a)) g.keys (state_at g.states a).kept (has i l)
    (λ m k. subst (λ (d : Kind). Holds d (under a (row_at g.keys m)) (kept_at (state_at g.states a).kept m)) (kind_in width aggregates i g a s inside) (each i l a m (omega (arith, inside, long)) k)))) within)

whole_from : (n : ℕ) (aggregates : List AggregateShape) (b : ℕ) (shards : List Grouping) → ((a : ℕ) → a < length aggregates → length (kept_in (b + a) shards) ≡ n) → All (HasGroups n) (states_from aggregates b shards)
whole_from n [] b shards each i d h = absurd (omega (arith, h))
whole_from n (g ∷ aggregates) b shards each zero d h = let same : b ≡ b + 0 = omega arith in ap (λ (c : ℕ). length (kept_in c shards)) same ∙ each 0 (omega arith)
whole_from n (g ∷ aggregates) b shards each (suc i) d h =
    whole_from n aggregates (b + 1) shards (λ a l. let same : (b + 1) + a ≡ b + suc a = omega arith in ap (λ (c : ℕ). length (kept_in c shards)) same ∙ each (suc a) (omega (arith, l))) i d (omega (arith, h))

pub all_whole : (width : ℕ) (aggregates : List AggregateShape) (shards : List Grouping) → AreShards width aggregates shards → HasAllGroups (all_of width aggregates shards)
all_whole width aggregates shards are = whole_from (length (keys_in shards)) aggregates 0 shards (λ a h. let same : 0 + a ≡ a = omega arith in ap (λ (c : ℕ). length (kept_in c shards)) same ∙ length-kept_in a shards (has_kept width aggregates shards a are h))

wide_keys : (width : ℕ) (shards : List Grouping) → ((i : ℕ) → i < length shards → All (HasWidth width) (shard_at shards i).keys) → All (HasWidth width) (keys_in shards)
wide_keys width [] each = All-nil (HasWidth width)
wide_keys width (g ∷ shards) each = All-append (HasWidth width) g.keys (keys_in shards) (each 0 (omega arith)) (wide_keys width shards (λ i h. each (suc i) (omega (arith, h))))

pub all_wide : (width : ℕ) (aggregates : List AggregateShape) (shards : List Grouping) → AreShards width aggregates shards → All (HasWidth width) (keys_in shards)
all_wide width aggregates shards are = wide_keys width shards (λ i h. (are.each i h).wide)

-- ---- keys

-- a key that is there is in its shard; the numbers of the shards begin with this one
abbrev FiledFrom : Key → ℕ → List Grouping → Type 0
FiledFrom k m shards = (j : ℕ) → j < length shards → 0 < times k (shard_at shards j).keys → shard_of k ≡ m + j

none_or : (n : ℕ) → (0 < n → ⊥) → n ≡ 0
none_or zero h = refl
none_or (suc n) h = absurd (h (omega arith))

filed_later : (k : Key) (m : ℕ) (g : Grouping) (shards : List Grouping) → FiledFrom k m (g ∷ shards) → FiledFrom k (suc m) shards
filed_later k m g shards filed j h some = let e = filed (suc j) (omega (arith, h)) some in omega (arith, e)

none_from : (k : Key) (m : ℕ) (shards : List Grouping) → FiledFrom k m shards → shard_of k < m → times k (keys_in shards) ≡ 0
none_from k m [] filed h = refl
none_from k m (g ∷ shards) filed h =
    let here = none_or (times k g.keys) (λ some. let e = filed 0 (omega arith) some in omega (arith, e, h)) in
    let later = none_from k (suc m) shards (filed_later k m g shards filed) (omega (arith, h)) in
    times-append k g.keys (keys_in shards) ∙ omega (arith, here, later)

times_from : (k : Key) (m j : ℕ) (shards : List Grouping) → FiledFrom k m shards → shard_of k ≡ m + j → times k (keys_in shards) ≡ times k (shard_at shards j).keys
times_from k m zero [] filed is = refl
times_from k m (suc j) [] filed is = refl
times_from k m zero (g ∷ shards) filed is =
    let later = none_from k (suc m) shards (filed_later k m g shards filed) (omega (arith, is)) in
    times-append k g.keys (keys_in shards) ∙ omega (arith, later)
times_from k m (suc j) (g ∷ shards) filed is =
    let here = none_or (times k g.keys) (λ some. let e = filed 0 (omega arith) some in omega (arith, e, is)) in
    let later = times_from k (suc m) j shards (filed_later k m g shards filed) (omega (arith, is)) in
    times-append k g.keys (keys_in shards) ∙ omega (arith, here, later)

from_zero : (n : ℕ) → n ≡ 0 + n
from_zero n = omega arith

-- a key stands in all shards as often as in its own
pub times_in : (width : ℕ) (aggregates : List AggregateShape) (shards : List Grouping) (k : Key) → AreShards width aggregates shards → times k (keys_in shards) ≡ times k (shard_at shards (shard_of k)).keys
times_in width aggregates shards k are = times_from k 0 (shard_of k) shards (λ j h some. (are.each j h).filed k some ∙ from_zero j) (from_zero (shard_of k))

shard_below : (k : Key) → shard_of k < 64
shard_below k = omega arith

-- ---- shards with others

-- all shards with others, each with its own
pub AreShards-folded : (width : ℕ) (aggregates : List AggregateShape) (delta : Grouping) (olds news : List Grouping) → AreShards width aggregates olds → AreFolded width aggregates delta olds news → AreShards width aggregates news
AreShards-folded width aggregates delta olds news are folded = record {
  count = folded.count ∙ are.count;
  each = λ i h. let n = folded.count in (folded.each i (omega (arith, h, n))).shard;
}

pub Merges-folded : (width : ℕ) (aggregates : List AggregateShape) (delta : Grouping) (olds news : List Grouping) → AreShards width aggregates olds → AreFolded width aggregates delta olds news
    → delta.width ≡ width → map shape_of delta.states ≡ aggregates → Merges delta (all_of width aggregates olds) (all_of width aggregates news)
Merges-folded width aggregates delta olds news are folded wide shapes = record {
  width_is = refl;
  shapes = same;
  whole = all_whole width aggregates news after;
  wide = all_wide width aggregates news after;
  counts = counts;
  under = under;
  more = Stands-both delta (all_of width aggregates olds) (all_of width aggregates news) refl wide same (shapes ∙ sym (shapes_from aggregates 0 olds)) (all_wide width aggregates news after) counts under;
}
  where
    after : AreShards width aggregates news
    after = AreShards-folded width aggregates delta olds news are folded

    same : map shape_of (states_from aggregates 0 news) ≡ map shape_of (states_from aggregates 0 olds)
    same = shapes_from aggregates 0 news ∙ sym (shapes_from aggregates 0 olds)

    counts : (k : Key) → times k (keys_in news) ≡ min 1 (times k (keys_in olds) + times k delta.keys)
    counts k =
        let n = are.count in
        let below = shard_below k in
        times_in width aggregates news k after ∙ (folded.each (shard_of k) (omega (arith, n, below))).counts k refl
        ∙ ap (λ (m : ℕ). min 1 (m + times k delta.keys)) (sym (times_in width aggregates olds k are))

    -- a key of a shard, among all of them
    inside : (i : ℕ) (k : Key) → i < length news → 0 < times k (shard_at news i).keys → (shard_of k ≡ i) × (0 < times k (keys_in news))
    inside i k l some =
        let is = (after.each i l).filed k some in
        let all = times_in width aggregates news k after in
        let here : times k (shard_at news (shard_of k)).keys ≡ times k (shard_at news i).keys = ap (λ (j : ℕ). times k (shard_at news j).keys) is in
        (is, omega (arith, all, here, some))

    under : (first rest : Under) → Keeps first (all_of width aggregates olds) → Keeps rest delta → NoneBeyond first (keys_in olds) (keys_in news) → NoneBeyond rest delta.keys (keys_in news)
        → Keeps (λ a k. first a k ++ rest a k) (all_of width aggregates news)
    under first rest keeps more none none_more =
        keeps_all width aggregates news (λ a k. first a k ++ rest a k) after (λ i l.
        let old : i < length olds = let n = folded.count in omega (arith, l, n) in
        (folded.each i old).under first rest (keeps_one width aggregates olds first i are old keeps) more
        (λ a k some gone.
        let in_all = inside i k l some in
        let there : times k (keys_in olds) ≡ times k (shard_at olds i).keys = times_in width aggregates olds k are ∙ ap (λ (j : ℕ). times k (shard_at olds j).keys) in_all.0 in
        none a k in_all.1 (there ∙ gone))
        (λ a k some gone. none_more a k (inside i k l some).1 gone))

-- ---- one shard

kept_first : (i : ℕ) (k j : Key) (keys : List Key) (b : Bool) → is_in i j ≡ b → shard_of k ≡ i → times k (filter (is_in i) keys) ≡ times k keys
    → times k (cond b (j ∷ filter (is_in i) keys) (filter (is_in i) keys)) ≡ times k (j ∷ keys)
kept_first i k j keys true e is same = ap (λ (n : ℕ). cond (is_same_row k j) 1 0 + n) same
kept_first i k j keys false e is same = by_case (is_same_row k j) refl
  where
    by_case : (c : Bool) → is_same_row k j ≡ c → times k (filter (is_in i) keys) ≡ times k (j ∷ keys)
    by_case true t =
        let there : shard_of j ≡ i = ap shard_of (sym ((is_same_row-Decides k j).0 t)) ∙ is in
        absurd (false≢true (sym e ∙ (Decides-eqb (shard_of j) i).1 there))
    by_case false t = rw t (omega (arith, same))

-- a shard has all of the keys that belong to it, and no others
pub times_within : (i : ℕ) (k : Key) (keys : List Key) → shard_of k ≡ i → times k (filter (is_in i) keys) ≡ times k keys
times_within i k [] is = refl
times_within i k (j ∷ keys) is = kept_first i k j keys (is_in i j) refl is (times_within i k keys is)

belongs_first : (i : ℕ) (k j : Key) (keys : List Key) (b c : Bool) → is_in i j ≡ b → is_same_row k j ≡ c → (0 < times k (filter (is_in i) keys) → shard_of k ≡ i)
    → 0 < times k (cond b (j ∷ filter (is_in i) keys) (filter (is_in i) keys)) → shard_of k ≡ i
belongs_first i k j keys true true e t later some = ap shard_of ((is_same_row-Decides k j).0 t) ∙ (Decides-eqb (shard_of j) i).0 e
belongs_first i k j keys true false e t later some = let n = rw t at some in later (omega (arith, n))
belongs_first i k j keys false c e t later some = later some

pub times_beyond : (i : ℕ) (k : Key) (keys : List Key) → 0 < times k (filter (is_in i) keys) → shard_of k ≡ i
times_beyond i k [] some = absurd (omega (arith, some))
times_beyond i k (j ∷ keys) some = belongs_first i k j keys (is_in i j) (is_same_row k j) refl refl (times_beyond i k keys) some

-- what those that were picked keep
pub picked_keeps : (ns : List ℕ) (delta : Grouping) (under : Under) → All (λ n. n < length delta.keys) ns → Keeps under delta → Keeps under (picked ns delta)
picked_keeps ns delta under within keeps a i h l =
    let many = length-map delta.states (picked_states ns) in
    let inside : a < length delta.states = omega (arith, h, many) in
    let long = length-map ns (row_at delta.keys) in
    let there : i < length ns = omega (arith, l, long) in
    let n = get_or ns i 0 in
    let s = state_at delta.states a in
    subst (λ (t : Numbered). Holds t.kind (under a (row_at (map (row_at delta.keys) ns) i)) (kept_at t.kept i)) (sym (get_or-map (picked_states ns) delta.states a nothing nothing inside))
    (subst (λ (k : Key). Holds s.kind (under a k) (kept_at (map (kept_at s.kept) ns) i)) (sym (get_or-map (row_at delta.keys) ns i 0 [] there))
    (subst (λ (x : Kept). Holds s.kind (under a (row_at delta.keys n)) x) (sym (get_or-map (kept_at s.kept) ns i 0 (kept_at [] 0) there)) (keeps a n inside (within i 0 there))))

pub no_items : {X : Type 0} (xs : List X) → length xs ≡ 0 → xs ≡ []
no_items [] e = refl
no_items (x ∷ xs) e = absurd (omega (arith, e))

-- a shard that nothing belongs to
pub FoldsShard-same : (width : ℕ) (aggregates : List AggregateShape) (i : ℕ) (delta old : Grouping) → IsShard width aggregates i old → filter (is_in i) delta.keys ≡ [] → FoldsShard width aggregates i delta old old
FoldsShard-same width aggregates i delta old s none = record {
  shard = s;
  counts = λ k is. let gone = absent k is in let one = s.apart k in omega (arith, gone, one);
  under = λ first rest keeps more none_first none_rest a n h within.
      let k = row_at old.keys n in
      let some = stands_at old.keys k n within refl in
      subst (λ (rows : List Key). Holds (state_at old.states a).kind rows (kept_at (state_at old.states a).kept n))
      (sym (append-nil (first a k)) ∙ ap (λ (rows : List Key). first a k ++ rows) (sym (none_rest a k some (absent k (s.filed k some))))) (keeps a n h within);
}
  where
    absent : (k : Key) → shard_of k ≡ i → times k delta.keys ≡ 0
    absent k is = sym (times_within i k delta.keys is) ∙ ap (times k) none

-- a new one, with the old groups and then with those that belong to it
pub FoldsShard-new : (width : ℕ) (aggregates : List AggregateShape) (i : ℕ) (delta old none mid new : Grouping) (ns : List ℕ) → IsShard width aggregates i old → All (λ n. n < length delta.keys) ns
    → map (row_at delta.keys) ns ≡ filter (is_in i) delta.keys → Lacks width aggregates none → Merges old none mid → Merges (picked ns delta) mid new → FoldsShard width aggregates i delta old new
FoldsShard-new width aggregates i delta old none mid new ns s within are lacks one two = record {
  shard = record {
    width_is = two.width_is ∙ one.width_is ∙ lacks.width_is;
    shapes = two.shapes ∙ one.shapes ∙ lacks.shapes;
    whole = two.whole;
    wide = subst (λ (w : ℕ). All (HasWidth w) new.keys) (two.width_is ∙ one.width_is ∙ lacks.width_is) two.wide;
    apart = λ k. let c = two.counts k in omega (arith, c);
    filed = filed;
  };
  counts = λ k is.
      let c = two.counts k in
      let d = was k in
      let m = mine k in
      let e = times_within i k delta.keys is in
      omega (arith, c, d, m, e);
  under = λ first rest keeps more none_first none_rest.
      two.under first rest
      (one.under (λ a k. []) first (λ a n h l. absurd (let e = ap length lacks.none in omega (arith, l, e))) keeps (λ a k some gone. refl)
      (λ a k some gone. none_first a k (let c = two.counts k in omega (arith, c, some)) gone))
      (picked_keeps ns delta rest within more)
      (λ a k some gone. none_first a k some (let d = was k in let x = s.apart k in omega (arith, d, x, gone)))
      (λ a k some gone. none_rest a k some (let m = mine k in sym (times_within i k delta.keys (filed k some)) ∙ sym m ∙ gone));
}
  where
    was : (k : Key) → times k mid.keys ≡ min 1 (times k old.keys)
    was k = let c = one.counts k in let e = ap (times k) lacks.none in omega (arith, c, e)

    mine : (k : Key) → times k (map (row_at delta.keys) ns) ≡ times k (filter (is_in i) delta.keys)
    mine k = ap (times k) are

    filed : (k : Key) → 0 < times k new.keys → shard_of k ≡ i
    filed k some = elim (cases_lt 0 (times k (filter (is_in i) delta.keys))) [
      | inl there ↦ times_beyond i k delta.keys there
      | inr gone ↦ s.filed k (let c = two.counts k in let d = was k in let m = mine k in omega (arith, c, d, m, gone, some))
    ]

-- one shard more
pub folded_more : (width : ℕ) (aggregates : List AggregateShape) (delta : Grouping) (olds mids : List Grouping) (n : ℕ) (new : Grouping) → length mids ≡ n
    → ((i : ℕ) → i < n → FoldsShard width aggregates i delta (shard_at olds i) (shard_at mids i)) → FoldsShard width aggregates n delta (shard_at olds n) new
    → (i : ℕ) → i < n + 1 → FoldsShard width aggregates i delta (shard_at olds i) (shard_at (mids ++ new ∷ []) i)
folded_more width aggregates delta olds mids n new long each last i h = elim (cases_lt i n) [
  | inl below ↦ subst (FoldsShard width aggregates i delta (shard_at olds i)) (sym (get_or_append_left mids (new ∷ []) nobody i (omega (arith, below, long)))) (each i below)
  | inr past ↦
      let same : n ≡ i = omega (arith, h, past) in
      subst (λ (j : ℕ). FoldsShard width aggregates j delta (shard_at olds j) (shard_at (mids ++ new ∷ []) j)) same
      (subst (FoldsShard width aggregates n delta (shard_at olds n)) (sym (get_or_push mids new nobody n long)) last)
]

-- a shard has each key once too
pub once_in : (i : ℕ) (keys some : List Key) → some ≡ filter (is_in i) keys → ((k : Key) → times k keys ≤ 1) → (k : Key) → times k some ≤ 1
once_in i keys some is once k = let e = ap (times k) is in let n = (NoOftener-filter (is_in i) keys).each k in let o = once k in omega (arith, e, n, o)

-- ---- no rows

-- one shard of no groups more
pub one_none : (all : List Grouping) (first none : Grouping) (s : ℕ) → 1 ≤ s → all ≡ first ∷ replicate (s - 1) none → all ++ none ∷ [] ≡ first ∷ replicate ((s + 1) - 1) none
one_none all first none s some is =
    let next : (s - 1) + 1 ≡ (s + 1) - 1 = omega (arith, some) in
    ap (λ (gs : List Grouping). gs ++ none ∷ []) is ∙ ap (λ (gs : List Grouping). first ∷ gs) (replicate_more (s - 1) none) ∙ ap (λ (n : ℕ). first ∷ replicate n none) next

keys_of_none : (n : ℕ) (none : Grouping) → none.keys ≡ [] → keys_in (replicate n none) ≡ []
keys_of_none zero none e = refl
keys_of_none (suc n) none e = ap (λ (ks : List Key). ks ++ keys_in (replicate n none)) e ∙ keys_of_none n none e

IsShard-none : (width : ℕ) (aggregates : List AggregateShape) (i : ℕ) (none : Grouping) → Lacks width aggregates none → IsShard width aggregates i none
IsShard-none width aggregates i none lacks = record {
  width_is = lacks.width_is;
  shapes = lacks.shapes;
  whole = lacks.whole;
  wide = subst (All (HasWidth width)) (sym lacks.none) (All-nil (HasWidth width));
  apart = λ k. let e = ap (times k) lacks.none in omega (arith, e);
  filed = λ k some. absurd (let e = ap (times k) lacks.none in omega (arith, e, some));
}

first_keys : (width : ℕ) (keys : List Key) → AreKeys width [] keys → All (HasWidth width) keys × ((k : Key) → times k keys ≤ 1) × ((k : Key) → 0 < times k keys → shard_of k ≡ 0)
first_keys zero keys are = (
  subst (All (HasWidth 0)) (sym are) (All-cons (HasWidth 0) [] [] refl (All-nil (HasWidth 0))),
  (λ k. let e = ap (times k) are in let one = one_empty k (is_same_row k []) in omega (arith, e, one)),
  (λ k some. let e = ap (times k) are in ap shard_of (empty_key k (is_same_row k []) refl (omega (arith, e, some)))),
)
  where
    one_empty : (k : Key) (b : Bool) → cond b 1 0 + 0 ≤ 1
    one_empty k true = omega arith
    one_empty k false = omega arith

    empty_key : (k : Key) (b : Bool) → is_same_row k [] ≡ b → 0 < cond b 1 0 + 0 → k ≡ []
    empty_key k true t some = (is_same_row-Decides k []).0 t
    empty_key k false t some = absurd (omega (arith, some))
first_keys (suc width) keys are = (
  subst (All (HasWidth (suc width))) (sym (no_keys keys are.each)) (All-nil (HasWidth (suc width))),
  (λ k. let e = are.each k in omega (arith, e)),
  (λ k some. absurd (let e = are.each k in omega (arith, e, some))),
)
  where
    no_keys : (ks : List Key) → ((k : Key) → times k ks ≡ 0) → ks ≡ []
    no_keys [] none = refl
    no_keys (k ∷ ks) none = absurd (let some = stands_at (k ∷ ks) k 0 (omega arith) refl in let e = none k in omega (arith, some, e))

first_width : (width : ℕ) (aggregates : List AggregateShape) (first : Grouping) → Starts width aggregates first → AreKeys width [] first.keys
first_width width aggregates first starts = subst (λ (w : ℕ). AreKeys w [] first.keys) starts.width_is starts.stands.of_rows

pub AreShards-empty : (width : ℕ) (aggregates : List AggregateShape) (first none : Grouping) → Starts width aggregates first → Lacks width aggregates none → AreShards width aggregates (first ∷ replicate 63 none)
AreShards-empty width aggregates first none starts lacks = record {
  count = ap suc (length-replicate 63 none);
  each = each;
}
  where
    each : (i : ℕ) → i < length (first ∷ replicate 63 none) → IsShard width aggregates i (shard_at (first ∷ replicate 63 none) i)
    each zero h =
        let f = first_keys width first.keys (first_width width aggregates first starts) in
        record { width_is = starts.width_is; shapes = starts.shapes; whole = starts.whole; wide = f.0; apart = f.1; filed = f.2 }
    each (suc i) h =
        let n = length-replicate 63 none in
        subst (IsShard width aggregates (suc i)) (sym (get_or-replicate 63 i none nobody (omega (arith, h, n)))) (IsShard-none width aggregates (suc i) none lacks)

pub Starts-empty : (width : ℕ) (aggregates : List AggregateShape) (first none : Grouping) → Starts width aggregates first → Lacks width aggregates none → Starts width aggregates (all_of width aggregates (first ∷ replicate 63 none))
Starts-empty width aggregates first none starts lacks = record {
  width_is = refl;
  shapes = shapes_from aggregates 0 shards;
  whole = all_whole width aggregates shards are;
  stands = record {
    of_rows = subst (AreKeys width []) (sym (ap (λ (ks : List Key). first.keys ++ ks) (keys_of_none 63 none lacks.none) ∙ append-nil first.keys)) (first_width width aggregates first starts);
    along = λ a h. refl;
    holds = keeps_all width aggregates shards (λ a k. []) are keeps;
  };
}
  where
    shards : List Grouping
    shards = first ∷ replicate 63 none

    are : AreShards width aggregates shards
    are = AreShards-empty width aggregates first none starts lacks

    keeps : (i : ℕ) → i < length shards → Keeps (λ a k. []) (shard_at shards i)
    keeps zero h = starts.stands.holds
    keeps (suc i) h =
        let n = length-replicate 63 none in
        subst (Keeps (λ a k. [])) (sym (get_or-replicate 63 i none nobody (omega (arith, h, n)))) (λ a m l within. absurd (let e = ap length lacks.none in omega (arith, within, e)))
