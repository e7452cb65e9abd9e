-- Groups that other groups come to.
use Rattle.std.proofs.Common.{◌≡◌, ◌≢◌, ◌<◌, ◌≤◌, ◌+◌, inl, inr, ℕ, zero, suc, min, Bool, true, false, cond, nat_eq, List, [], ◌∷◌, ◌++◌, length, map, get_or, set, take, refl, sym, ap, ◌∙◌, subst, arith, append-nil, append_assoc, length-append}
use Rattle.std.specs.List.{All, range_with_len}
use Rattle.std.specs.Bool.{Decides}
use Rattle.std.proofs.lemmas.Bool.{cases_eq, cases_lt, false≢true}
use Rattle.std.proofs.lemmas.Bool.Decides.{Decides-eqb}
use Rattle.std.proofs.lemmas.List.{get_or-map, get_or-set_other, get_or-set_same, get_or_default, length-map, length_push, length-take-le, take_more}
use Rattle.std.proofs.lemmas.List.FromFn.{fill_by_all, get_or-range_with_len, length-range_with_len}
use Rattle.kq_run_aggregates.specs.Holds.{Kept, Holds}
use Rattle.kq_run_aggregates.specs.Steps.{ChangesAt, Joins, kept_at}
use Rattle.kq_run_aggregates.specs.Tables.{Numbered, SameShape}
use Rattle.kq_run_aggregates.specs.declared.kind.Kind.{Kind}
use Rattle.kq_store_rows.specs.Chunks.{HasWidth, row_at}
use Rattle.kq_value.specs.declared.value.Value.{Value}
use Rattle.kq_value.specs.Same.{times}
use Rattle.kq_value.specs.Values.{is_same_row}
use Rattle.kq_value.proofs.Equals.{is_same_row-Decides}
use Rattle.kq_value.proofs.SameLemmas.{place_of, times-append}
use Rattle.kq_run_groups.specs.Grouped.{AggregateShape, AreKeys, args_of}
use Rattle.kq_run_groups.specs.Groups.{Grouping, shape_of, nothing, state_at, args_at, beside, HasAllGroups, HasGroups, Lengthens, Stands}
use Rattle.kq_run_groups.specs.Keys.{AreNumbers, Numbers}
use Rattle.kq_run_groups.specs.Merges.{AbsorbAll, Absorbs, Keeps, Merges, NoneBeyond, StandFor, TakesOver, Under, of_groups, picked, picked_states}
use Rattle.kq_run_groups.proofs.Groupings.{args_of-append, args_of-none, beside_at, empty_times, fresh_key, old_key, one_empty, same_shape, same_shapes, same_test, whole_at}
use Rattle.kq_run_groups.proofs.Tables.{stands_at}

abbrev Key : Type 0
Key = List Value

abbrev Once : List Key → Type 0
Once keys = (k : Key) → times k keys ≤ 1

-- ---- the states of one aggregate

cond_same : (b : Bool) (x : List Key) → x ≡ cond b x x
cond_same true x = refl
cond_same false x = refl

cond_one : (b : Bool) (rows : List Key) → cond b (rows ++ []) [] ≡ cond b rows []
cond_one true rows = append-nil rows
cond_one false rows = refl

cond_more : (b : Bool) (rows x y z : List Key) → x ≡ y ++ z → cond b (rows ++ x) x ≡ cond b (rows ++ y) y ++ z
cond_more true rows x y z e = ap (λ (w : List Key). rows ++ w) e ∙ sym (append_assoc rows y z)
cond_more false rows x y z e = e

-- one number more
pub of_groups-push : (g : ℕ) (ns : List ℕ) (n : ℕ) (those : List (List Key)) → of_groups g (ns ++ n ∷ []) those ≡ of_groups g ns those ++ cond (nat_eq g n) (args_at those (length ns)) []
of_groups-push g [] n [] = cond_same (nat_eq g n) []
of_groups-push g [] n (rows ∷ those) = cond_one (nat_eq g n) rows
of_groups-push g (m ∷ ns) n [] = cond_same (nat_eq g n) []
of_groups-push g (m ∷ ns) n (rows ∷ those) = cond_more (nat_eq g m) rows _ _ _ (of_groups-push g ns n those)

pub TakesOver-none : (k : Kind) (others olds : List Kept) → TakesOver k [] others olds olds
TakesOver-none k others olds = record { more = λ g before those h holds stand. subst (λ (rows : List Key). Holds k rows (kept_at olds g)) (sym (append-nil before)) holds; count = refl }

-- and its group
taken_over : (k : Kind) (n g : ℕ) (before some rows : List Key) (other : Kept) (mids news : List Kept) (b : Bool) → Decides b (g ≡ n) → Holds k (before ++ some) (kept_at mids g) → Holds k rows other
    → ChangesAt n (Joins k other) mids news → Holds k (before ++ (some ++ cond b rows [])) (kept_at news g)
taken_over k n g before some rows other mids news true d holds more c =
    let same : g ≡ n = d.0 refl in
    let was : Holds k (before ++ some) (kept_at mids n) = subst (λ (i : ℕ). Holds k (before ++ some) (kept_at mids i)) same holds in
    subst (λ (i : ℕ). Holds k (before ++ (some ++ rows)) (kept_at news i)) (sym same)
    (subst (λ (all : List Key). Holds k all (kept_at news n)) (append_assoc before some rows) (c.changes.more (before ++ some) rows was more))
taken_over k n g before some rows other mids news false d holds more c =
    let other : g ≢ n = (λ e. false≢true (d.1 e)) in
    subst (λ (all : List Key). Holds k all (kept_at news g)) (ap (λ (z : List Key). before ++ z) (sym (append-nil some)))
    (subst (Holds k (before ++ some)) (sym (c.others g other)) holds)

pub TakesOver-more : (k : Kind) (ns : List ℕ) (n : ℕ) (others olds mids news : List Kept) → TakesOver k ns others olds mids → ChangesAt n (Joins k (kept_at others (length ns))) mids news → TakesOver k (ns ++ n ∷ []) others olds news
TakesOver-more k ns n others olds mids news t c = record {
  more = λ g before those h holds stand.
      let long = length_push ns n in
      subst (λ (rows : List Key). Holds k (before ++ rows) (kept_at news g)) (sym (of_groups-push g ns n those))
      (taken_over k n g before (of_groups g ns those) (args_at those (length ns)) (kept_at others (length ns)) mids news (nat_eq g n) (Decides-eqb g n)
      (t.more g before those h holds (λ i l. stand i (omega (arith, l, long)))) (stand (length ns) (omega (arith, long))) c);
  count = c.count ∙ t.count;
}

pub TakesOver-step : (k l : Kind) (numbers places : List ℕ) (i : ℕ) (other olds mids news : List Kept) → i < length numbers → length places ≡ length numbers → l ≡ k
    → TakesOver k (take i numbers) (map (kept_at other) places) olds mids → ChangesAt (get_or numbers i 0) (Joins l (kept_at other (get_or places i 0))) mids news
    → TakesOver k (take (i + 1) numbers) (map (kept_at other) places) olds news
TakesOver-step k l numbers places i other olds mids news h long same t c =
    let n = get_or numbers i 0 in
    let p = get_or places i 0 in
    let count : length (take i numbers) ≡ i = length-take-le i numbers (omega (arith, h)) in
    let there : kept_at (map (kept_at other) places) (length (take i numbers)) ≡ kept_at other p =
    ap (kept_at (map (kept_at other) places)) count ∙ get_or-map (kept_at other) places i 0 (kept_at [] 0) (omega (arith, h, long)) in
    subst (λ (ns : List ℕ). TakesOver k ns (map (kept_at other) places) olds news) (sym (take_more numbers i 0 h))
    (TakesOver-more k (take i numbers) n (map (kept_at other) places) olds mids news t
    (subst (λ (s : Kept). ChangesAt n (Joins k s) mids news) (sym there) (subst (λ (m : Kind). ChangesAt n (Joins m (kept_at other p)) mids news) same c)))

-- groups of no rows first
pub Absorbs-join : (s m t : Numbered) (count : ℕ) (ns : List ℕ) (others : List Kept) → Lengthens count s m → length s.kept ≤ count → SameShape m t → TakesOver m.kind ns others m.kept t.kept → Absorbs ns others count s t
Absorbs-join s m t count ns others l longer shape takes =
    let all : TakesOver s.kind ns others m.kept t.kept = subst (λ (k : Kind). TakesOver k ns others m.kept t.kept) l.shape.0 takes in
    record {
      shape = (shape.0 ∙ l.shape.0, shape.1 ∙ l.shape.1);
      count_is = takes.count ∙ l.count_is;
      more = λ h before those below holds stand. all.more h before those (let n = l.count_is in omega (arith, n, below, longer)) (subst (Holds s.kind before) (sym (l.others h below)) holds) stand;
      fresh = λ h those past within stand. all.more h [] those (let n = l.count_is in omega (arith, n, within)) (l.fresh h past within) stand;
    }

-- those that are done, and those that are left
pub record AbsorbsSome (numbers places : List ℕ) (others : List Numbered) (count i : ℕ) (olds news : List Numbered) : Type 0 where
  pub done : (a : ℕ) → a < i → Absorbs numbers (map (kept_at (state_at others a).kept) places) count (state_at olds a) (state_at news a)
  pub rest : (a : ℕ) → i ≤ a → state_at news a ≡ state_at olds a

pub AbsorbsSome-more : (numbers places : List ℕ) (others : List Numbered) (count i : ℕ) (olds mids : List Numbered) (o s t : Numbered) → AbsorbsSome numbers places others count i olds mids → i < length others → i < length mids
    → o ≡ get_or others i o → Absorbs numbers (map (kept_at o.kept) places) count (get_or mids i s) t → AbsorbsSome numbers places others count (i + 1) olds (set mids i t)
AbsorbsSome-more numbers places others count i olds mids o s t some h l is absorbs = record {
  done = λ a m. elim (cases_eq a i) [
    | inl last ↦
        subst (λ (b : ℕ). Absorbs numbers (map (kept_at (state_at others b).kept) places) count (state_at olds b) (state_at (set mids i t) b)) (sym last)
        (subst (λ (u : Numbered). Absorbs numbers (map (kept_at (state_at others i).kept) places) count (state_at olds i) u) (sym (get_or-set_same mids i t nothing l))
        (subst (λ (u : Numbered). Absorbs numbers (map (kept_at u.kept) places) count (state_at olds i) t) (is ∙ get_or_default others i o nothing h)
        (subst (λ (u : Numbered). Absorbs numbers (map (kept_at o.kept) places) count u t) (get_or_default mids i s nothing l ∙ some.rest i (omega arith)) absorbs)))
    | inr other ↦
        subst (λ (u : Numbered). Absorbs numbers (map (kept_at (state_at others a).kept) places) count (state_at olds a) u) (sym (get_or-set_other mids i a t nothing other))
        (some.done a (omega (arith, m, other)))
  ];
  rest = λ a m. get_or-set_other mids i a t nothing (λ e. absurd (omega (arith, m, e))) ∙ some.rest a (omega (arith, m));
}

-- ---- by number is by key

no_first : (b : Bool) (rows x : List Key) → b ≡ false → x ≡ [] → cond b (rows ++ x) x ≡ []
no_first b rows x e none = rw e none

other_key : (k g : Key) (others : List Key) → times k (g ∷ others) ≡ 0 → (is_same_row k g ≡ false) × (times k others ≡ 0)
other_key k g others e = by_case (is_same_row k g) refl
  where
    by_case : (b : Bool) → is_same_row k g ≡ b → (is_same_row k g ≡ false) × (times k others ≡ 0)
    by_case true t = let f = rw t at e in absurd (omega (arith, f))
    by_case false t = (t, let f = rw t at e in omega (arith, f))

no_groups : (f : Key → List Key) (keys : List Key) (n : ℕ) (ns : List ℕ) (others : List Key) → Once keys → n < length keys → AreNumbers keys ns others → times (row_at keys n) others ≡ 0 → of_groups n ns (map f others) ≡ []
no_groups f keys n [] [] once inside are e = refl
no_groups f keys n [] (g ∷ others) once inside are e = absurd are
no_groups f keys n (m ∷ ns) [] once inside are e = absurd are
no_groups f keys n (m ∷ ns) (g ∷ others) once inside are e =
    let o = other_key (row_at keys n) g others e in
    no_first (nat_eq n m) (f g) _ (sym (same_test keys n m g once inside are.0 are.1) ∙ o.0) (no_groups f keys n ns others once inside are.2 o.1)

with_key : (f : Key → List Key) (k g : Key) (others x : List Key) (b : Bool) → is_same_row k g ≡ b → times k (g ∷ others) ≤ 1 → (times k (g ∷ others) ≡ 0 → f k ≡ []) → (times k others ≡ 0 → x ≡ []) → ((times k others ≡ 0 → f k ≡ []) → x ≡ f k)
    → cond b (f g ++ x) x ≡ f k
with_key f k g others x true t once none gone later =
    let one = rw t at once in
    ap (λ (y : List Key). f g ++ y) (gone (omega (arith, one))) ∙ append-nil (f g) ∙ sym (ap f ((is_same_row-Decides k g).0 t))
with_key f k g others x false t once none gone later = later (λ e. none (rw t (omega (arith, e))))

pub by_keys : (f : Key → List Key) (keys : List Key) (n : ℕ) (ns : List ℕ) (others : List Key) → Once keys → n < length keys → AreNumbers keys ns others → Once others
    → (times (row_at keys n) others ≡ 0 → f (row_at keys n) ≡ []) → of_groups n ns (map f others) ≡ f (row_at keys n)
by_keys f keys n [] [] once inside are apart none = sym (none refl)
by_keys f keys n [] (g ∷ others) once inside are apart none = absurd are
by_keys f keys n (m ∷ ns) [] once inside are apart none = absurd are
by_keys f keys n (m ∷ ns) (g ∷ others) once inside are apart none =
    let k = row_at keys n in
    let x = of_groups n ns (map f others) in
    subst (λ (b : Bool). cond b (f g ++ x) x ≡ f k) (same_test keys n m g once inside are.0 are.1)
    (with_key f k g others x (is_same_row k g) refl (apart k) none (no_groups f keys n ns others once inside are.2)
    (by_keys f keys n ns others once inside are.2 (λ j. let both = apart j in omega (arith, both))))

-- ---- shapes

pub same_length : (ss ts : List Numbered) → map shape_of ss ≡ map shape_of ts → length ss ≡ length ts
same_length ss ts e = sym (length-map ss shape_of) ∙ ap length e ∙ length-map ts shape_of

pub same_kind : (ss ts : List Numbered) (a : ℕ) → map shape_of ss ≡ map shape_of ts → a < length ts → (state_at ss a).kind ≡ (state_at ts a).kind
same_kind ss ts a e h =
    let long = same_length ss ts e in
    ap (λ (g : AggregateShape). g.kind)
    (sym (get_or-map shape_of ss a nothing (shape_of nothing) (omega (arith, h, long))) ∙ ap (λ (gs : List AggregateShape). get_or gs a (shape_of nothing)) e ∙ get_or-map shape_of ts a nothing (shape_of nothing) h)

pub same_kind_at : (others olds mids : List Numbered) (i : ℕ) (o s : Numbered) → map shape_of others ≡ map shape_of olds → i < length others → i < length mids → state_at mids i ≡ state_at olds i → o ≡ get_or others i o → o.kind ≡ (get_or mids i s).kind
same_kind_at others olds mids i o s e h l rest is =
    let long = same_length others olds e in
    ap (λ (u : Numbered). u.kind) (is ∙ get_or_default others i o nothing h) ∙ same_kind others olds i e (omega (arith, h, long)) ∙ ap (λ (u : Numbered). u.kind) (sym (get_or_default mids i s nothing l ∙ rest))

pub still_fewer : (count : ℕ) (olds mids : List Numbered) (i : ℕ) (s : Numbered) → All (λ (s : Numbered). length s.kept ≤ count) olds → i < length olds → i < length mids → state_at mids i ≡ state_at olds i → length (get_or mids i s).kept ≤ count
still_fewer count olds mids i s fewer h l rest = subst (λ (u : Numbered). length u.kept ≤ count) (sym (get_or_default mids i s nothing l ∙ rest)) (fewer i nothing h)

-- ---- keys

pub wide_key : (width : ℕ) (keys : List Key) (k : Key) → All (HasWidth width) keys → 0 < times k keys → length k ≡ width
wide_key width keys k wide h = let p = place_of k keys h in ap length p.1.1 ∙ wide p.0 k p.1.0

no_cells : (k : Key) → length k ≡ 0 → k ≡ []
no_cells [] e = refl
no_cells (v ∷ k) e = absurd (omega (arith, e))

-- a key without a group has no rows
pub no_rows_of : (width : ℕ) (keys groups : List Key) (k : Key) → AreKeys width keys groups → length k ≡ width → times k groups ≡ 0 → times k keys ≡ 0
no_rows_of zero keys groups k are wide none =
    let one : times [] groups ≡ 1 = ap (times []) are in
    let same : times k groups ≡ times [] groups = ap (λ (j : Key). times j groups) (no_cells k wide) in
    absurd (omega (arith, one, same, none))
no_rows_of (suc width) keys groups k are wide none = let e = are.each k in omega (arith, e, none)

pub AreKeys-both : (width : ℕ) (before keys old other new : List Key) → AreKeys width before old → AreKeys width keys other → All (HasWidth width) new
    → ((k : Key) → times k new ≡ min 1 (times k old + times k other)) → AreKeys width (before ++ keys) new
AreKeys-both zero before keys old other new are more wide counts =
    let c = counts [] in
    let one : times [] old ≡ 1 = ap (times []) are in
    let long = empty_times new wide in
    one_empty new wide (omega (arith, c, one, long))
AreKeys-both (suc width) before keys old other new are more wide counts = record {
  each = λ k. let c = counts k in let o = are.each k in let m = more.each k in let e = times-append k before keys in omega (arith, c, o, m, e);
}

-- ---- groups

-- what a key has is what its rows have
pub Stands-both : (other old new : Grouping) → new.width ≡ old.width → other.width ≡ old.width → map shape_of new.states ≡ map shape_of old.states → map shape_of other.states ≡ map shape_of old.states
    → All (HasWidth old.width) new.keys → ((k : Key) → times k new.keys ≡ min 1 (times k old.keys + times k other.keys))
    → ((first rest : Under) → Keeps first old → Keeps rest other → NoneBeyond first old.keys new.keys → NoneBeyond rest other.keys new.keys → Keeps (λ a k. first a k ++ rest a k) new)
    → (before keys : List Key) (had args : List (List Key)) → Stands before had old → Stands keys args other → Stands (before ++ keys) (beside had args) new
Stands-both other old new width width2 shapes shapes2 wide counts under before keys had args one two = record {
  of_rows = rw width (AreKeys-both old.width before keys old.keys other.keys new.keys one.of_rows (rw width2 at two.of_rows) wide counts);
  along = λ a h.
      let was = one.along a (omega (arith, h, long)) in
      let more = two.along a (omega (arith, h, long, long2)) in
      ap length (beside_at had args a) ∙ length-append (args_at had a) (args_at args a) ∙ omega (arith, was, more) ∙ sym (length-append before keys);
  holds = λ a n h within.
      let k = row_at new.keys n in
      let s = state_at new.states a in
      subst (λ (rows : List Key). Holds s.kind (args_of k (before ++ keys) rows) (kept_at s.kept n)) (sym (beside_at had args a))
      (subst (λ (rows : List Key). Holds s.kind rows (kept_at s.kept n)) (sym (args_of-append k before keys (args_at had a) (args_at args a) (one.along a (omega (arith, h, long)))))
      (under (λ b j. args_of j before (args_at had b)) (λ b j. args_of j keys (args_at args b)) one.holds two.holds
      (λ b j some none. args_of-none j before (args_at had b) (no_rows_of old.width before old.keys j one.of_rows (wide_key old.width new.keys j wide some) none))
      (λ b j some none. args_of-none j keys (args_at args b) (no_rows_of old.width keys other.keys j (rw width2 at two.of_rows) (wide_key old.width new.keys j wide some) none))
      a n h within));
}
  where
    long : length new.states ≡ length old.states
    long = same_length new.states old.states shapes

    long2 : length other.states ≡ length old.states
    long2 = same_length other.states old.states shapes2

-- the states of those that were picked
picked_at : (ns : List ℕ) (states : List Numbered) (a : ℕ) → a < length states → state_at (map (picked_states ns) states) a ≡ picked_states ns (state_at states a)
picked_at ns states a h = get_or-map (picked_states ns) states a nothing nothing h

pub picked_shapes : (ns : List ℕ) (states : List Numbered) → map shape_of (map (picked_states ns) states) ≡ map shape_of states
picked_shapes ns [] = refl
picked_shapes ns (s ∷ states) = ap (λ (gs : List AggregateShape). shape_of s ∷ gs) (picked_shapes ns states)

-- what those that were picked stand for
picked_stand : (places ns : List ℕ) (other : Grouping) (kind : Kind) (a : ℕ) (rest : Under) → length ns ≡ length places → a < length other.states → (state_at other.states a).kind ≡ kind → Keeps rest (picked places other)
    → StandFor kind ns (map (rest a) (map (row_at other.keys) places)) (map (kept_at (state_at other.states a).kept) places)
picked_stand places ns other kind a rest long h same keeps i l =
    let keys = map (row_at other.keys) places in
    let s = state_at other.states a in
    let there : i < length keys = let m = length-map places (row_at other.keys) in omega (arith, l, long, m) in
    let there_too : a < length (map (picked_states places) other.states) = let m = length-map other.states (picked_states places) in omega (arith, h, m) in
    let here = keeps a i there_too there in
    subst (λ (k : Kind). Holds k (args_at (map (rest a) keys) i) (kept_at (map (kept_at s.kept) places) i)) same
    (subst (λ (rows : List Key). Holds s.kind rows (kept_at (map (kept_at s.kept) places) i)) (sym (get_or-map (rest a) keys i [] [] there))
    (subst (λ (t : Numbered). Holds t.kind (rest a (row_at keys i)) (kept_at t.kept i)) (picked_at places other.states a h) here))

-- what an aggregate keeps of a group
absorbed : (first rest : Key → List Key) (k : Key) (old new : List Key) (ns : List ℕ) (others : List Kept) (those : List (List Key)) (s t : Numbered) (n : ℕ) (added : List Key)
    → new ≡ old ++ added → Once new → length s.kept ≡ length old → Absorbs ns others (length new) s t → StandFor s.kind ns those others → of_groups n ns those ≡ rest k → k ≡ row_at new n
    → ((m : ℕ) → m < length old → Holds s.kind (first (row_at old m)) (kept_at s.kept m)) → (times k old ≡ 0 → first k ≡ []) → n < length new → Holds t.kind (first k ++ rest k) (kept_at t.kept n)
absorbed first rest k old new ns others those s t n added is once as_many absorbs stand rows key holds none within =
    subst (λ kind. Holds kind (first k ++ rest k) (kept_at t.kept n)) (sym absorbs.shape.0)
    (subst (λ (more : List Key). Holds s.kind (first k ++ more) (kept_at t.kept n)) rows
    (elim (cases_lt n (length old)) [
      | inl below ↦
          absorbs.more n (first k) those (omega (arith, as_many, below)) (subst (λ (j : Key). Holds s.kind (first j) (kept_at s.kept n)) (sym (key ∙ old_key old new added n is below)) (holds n below)) stand
      | inr past ↦
          subst (λ (had : List Key). Holds s.kind (had ++ of_groups n ns those) (kept_at t.kept n)) (sym (none (ap (λ (j : Key). times j old) key ∙ fresh_key old new added n is once past within)))
          (absorbs.fresh n those (omega (arith, as_many, past)) within stand)
    ]))

-- the numbers of the keys, and then the states for each aggregate
pub Merges-piece : (other old new : Grouping) (ns places : List ℕ)
    → HasAllGroups old → new.width ≡ old.width → other.width ≡ old.width → length new.states ≡ length old.states → map shape_of other.states ≡ map shape_of old.states
    → Once new.keys → All (HasWidth old.width) new.keys → Once (map (row_at other.keys) places) → Numbers old.keys new.keys ns (map (row_at other.keys) places) → length ns ≡ length places
    → AbsorbAll ns places other.states (length new.keys) old.states new.states → Merges (picked places other) old new
Merges-piece other old new ns places whole width width2 long shapes2 once wide apart g along absorbs = record {
  width_is = width;
  shapes = shapes;
  whole = whole_at (length new.keys) new.states (λ a h. (absorbs.each a (omega (arith, h, long))).count_is);
  wide = rw width wide;
  counts = g.counts;
  under = under;
  more = Stands-both (picked places other) old new width width2 shapes (picked_shapes places other.states ∙ shapes2) wide g.counts under;
}
  where
    shapes : map shape_of new.states ≡ map shape_of old.states
    shapes = same_shapes old.states new.states long (λ a h. let s = (absorbs.each a h).shape in same_shape (state_at old.states a) (state_at new.states a) s.0 s.1)

    under : (first rest : Under) → Keeps first old → Keeps rest (picked places other) → NoneBeyond first old.keys new.keys → NoneBeyond rest (map (row_at other.keys) places) new.keys → Keeps (λ a k. first a k ++ rest a k) new
    under first rest keeps more none none_more a n h within =
        let inside : a < length old.states = omega (arith, h, long) in
        let inside2 : a < length other.states = let e = same_length other.states old.states shapes2 in omega (arith, inside, e) in
        let keys = map (row_at other.keys) places in
        let k = row_at new.keys n in
        let some = stands_at new.keys k n within refl in
        absorbed (first a) (rest a) k old.keys new.keys ns (map (kept_at (state_at other.states a).kept) places) (map (rest a) keys) (state_at old.states a) (state_at new.states a) n g.added
        g.whole once (whole a nothing inside) (absorbs.each a inside) (picked_stand places ns other (state_at old.states a).kind a rest along inside2 (same_kind other.states old.states a shapes2 inside) more)
        (by_keys (rest a) new.keys n ns keys once within g.are apart (none_more a k some)) refl (λ m l. keeps a m inside l) (none a k some) within

-- ---- all groups

pub range_more : (a n k : ℕ) → k ≡ a + n → range_with_len a (suc n) ≡ range_with_len a n ++ k ∷ []
range_more a zero k is = let same : a ≡ k = omega arith in ap (λ (m : ℕ). m ∷ []) same
range_more a (suc n) k is = ap (λ ks. a ∷ ks) (range_more (a + 1) n k (omega arith))

all_rows : (keys : List Key) → map (row_at keys) (range_with_len 0 (length keys)) ≡ keys
all_rows keys = sym (fill_by_all (row_at keys) keys (length keys) [] refl (λ k h. refl))

all_kept : (count : ℕ) (s : Numbered) → length s.kept ≡ count → picked_states (range_with_len 0 count) s ≡ s
all_kept count s e = ap (λ (kept : List Kept). record { kind = s.kind; types = s.types; kept = kept }) (sym (fill_by_all (kept_at s.kept) s.kept count (kept_at [] 0) e (λ k h. refl)))

all_states : (count : ℕ) (states : List Numbered) → All (HasGroups count) states → map (picked_states (range_with_len 0 count)) states ≡ states
all_states count [] whole = refl
all_states count (s ∷ states) whole =
    ap (λ (t : Numbered). t ∷ map (picked_states (range_with_len 0 count)) states) (all_kept count s (whole 0 nothing (omega arith)))
    ∙ ap (λ (ts : List Numbered). s ∷ ts) (all_states count states (λ i d h. whole (suc i) d (omega arith)))

abbrev grouping : ℕ → List Key → List Numbered → Grouping
grouping width keys states = record { width = width; keys = keys; states = states }

pub picked_all : (g : Grouping) → HasAllGroups g → picked (range_with_len 0 (length g.keys)) g ≡ g
picked_all g whole =
    ap (λ (keys : List Key). grouping g.width keys (map (picked_states (range_with_len 0 (length g.keys))) g.states)) (all_rows g.keys)
    ∙ ap (grouping g.width g.keys) (all_states (length g.keys) g.states whole)

-- each number is that of a group
pub known_places : (count : ℕ) → All (λ n. n < count) (range_with_len 0 count)
known_places count i d h = let long = length-range_with_len 0 count in let at = get_or-range_with_len 0 count i d (omega (arith, h, long)) in omega (arith, h, long, at)

pub once_all : (keys : List Key) (ns : List ℕ) → ns ≡ range_with_len 0 (length keys) → Once keys → Once (map (row_at keys) ns)
once_all keys ns is once = rw (is, all_rows) once

-- the same of all groups of the other
pub Merges-all : (other old new : Grouping) (ns places : List ℕ)
    → HasAllGroups old → HasAllGroups other → new.width ≡ old.width → other.width ≡ old.width → length new.states ≡ length old.states → map shape_of other.states ≡ map shape_of old.states
    → Once new.keys → All (HasWidth old.width) new.keys → Once other.keys → Numbers old.keys new.keys ns other.keys → places ≡ range_with_len 0 (length other.keys) → length ns ≡ length places
    → AbsorbAll ns places other.states (length new.keys) old.states new.states → Merges other old new
Merges-all other old new ns places whole whole2 width width2 long shapes2 once wide apart g all along absorbs =
    let same : map (row_at other.keys) places ≡ other.keys = ap (map (row_at other.keys)) all ∙ all_rows other.keys in
    subst (λ (o : Grouping). Merges o old new) (ap (λ (ps : List ℕ). picked ps other) all ∙ picked_all other whole2)
    (Merges-piece other old new ns places whole width width2 long shapes2 once wide (subst Once (sym same) apart) (subst (Numbers old.keys new.keys ns) (sym same) g) along absorbs)
