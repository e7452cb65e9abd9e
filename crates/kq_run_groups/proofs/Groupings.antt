-- Groups that take rows more.
use Rattle.std.proofs.Common.{◌≡◌, ◌<◌, ◌≤◌, ◌+◌, ◌-◌, inl, inr, ℕ, zero, suc, Bool, true, false, cond, nat_eq, List, [], ◌∷◌, ◌++◌, length, map, refl, sym, ap, ◌∙◌, subst, arith, append-nil, length-append}
use Rattle.std.specs.List.{All}
use Rattle.std.specs.Bool.{Decides}
use Rattle.std.proofs.lemmas.Bool.{cases_lt, false≢true}
use Rattle.std.proofs.lemmas.Bool.Decides.{Decides-eqb}
use Rattle.std.proofs.lemmas.List.{get_or_append_left, get_or-append_right, length-map}
use Rattle.kq_run_aggregates.specs.Holds.{Holds}
use Rattle.kq_run_aggregates.specs.Steps.{kept_at, of_group}
use Rattle.kq_run_aggregates.specs.Tables.{Numbered}
use Rattle.kq_store_rows.specs.Chunks.{HasWidth, row_at}
use Rattle.kq_value.specs.declared.value.Value.{Value}
use Rattle.kq_value.specs.Same.{times}
use Rattle.kq_value.specs.Values.{is_same_row}
use Rattle.kq_value.proofs.Equals.{is_same_row-Decides, is_same_row-itself}
use Rattle.kq_value.proofs.SameLemmas.{times-append}
use Rattle.kq_run_groups.specs.Arguments.{rows_given, rows_in}
use Rattle.kq_run_groups.specs.declared.argument.Argument.{Argument}
use Rattle.kq_run_groups.specs.Grouped.{AggregateShape, AreKeys, args_of}
use Rattle.kq_run_groups.specs.Groups.{Grouping, shape_of, nothing, state_at, args_at, beside, HasAllGroups, HasGroups, AddsRows, Gathers, GatherAll}
use Rattle.kq_run_groups.specs.Keys.{AreNumbers, Numbers}
use Rattle.kq_run_groups.proofs.Tables.{stands_at}

abbrev Key : Type 0
Key = List Value

abbrev Once : List Key → Type 0
Once keys = (k : Key) → times k keys ≤ 1

-- ---- places of keys

later_once : (k : Key) (keys : List Key) → Once (k ∷ keys) → Once keys
later_once k keys once j = let h = once j in omega (arith, h)

none_later : (k : Key) (keys : List Key) (i : ℕ) → Once (k ∷ keys) → i < length keys → row_at keys i ≡ k → ⊥
none_later k keys i once h e =
    let some = stands_at keys k i h e in
    let one = once k in
    let here : is_same_row k k ≡ true = is_same_row-itself k in
    let two = rw here at one in
    omega (arith, some, two)

-- no key stands at two places
pub same_place : (keys : List Key) (i j : ℕ) → Once keys → i < length keys → j < length keys → row_at keys i ≡ row_at keys j → i ≡ j
same_place [] i j once h l e = absurd (omega arith)
same_place (k ∷ keys) zero zero once h l e = refl
same_place (k ∷ keys) zero (suc j) once h l e = absurd (none_later k keys j once (omega arith) (sym e))
same_place (k ∷ keys) (suc i) zero once h l e = absurd (none_later k keys i once (omega arith) e)
same_place (k ∷ keys) (suc i) (suc j) once h l e = ap suc (same_place keys i j (later_once k keys once) (omega arith) (omega arith) e)

-- whether a row is of the group is whether it has the group's key
pub same_test : (keys : List Key) (g h : ℕ) (r : Key) → Once keys → g < length keys → h < length keys → row_at keys h ≡ r → is_same_row (row_at keys g) r ≡ nat_eq g h
same_test keys g h r once inside there e = by_case (nat_eq g h) (is_same_row (row_at keys g) r) (Decides-eqb g h) (is_same_row-Decides (row_at keys g) r)
  where
    by_case : (b s : Bool) → Decides b (g ≡ h) → Decides s (row_at keys g ≡ r) → s ≡ b
    by_case true true d f = refl
    by_case false false d f = refl
    by_case true false d f = absurd (false≢true (f.1 (ap (row_at keys) (d.0 refl) ∙ e)))
    by_case false true d f = absurd (false≢true (d.1 (same_place keys g h once inside there (f.0 refl ∙ sym e))))

beside_test : (b : Bool) (x : Key) (xs ys : List Key) → xs ≡ ys → cond b (x ∷ xs) xs ≡ cond b (x ∷ ys) ys
beside_test true x xs ys e = ap (λ (zs : List Key). x ∷ zs) e
beside_test false x xs ys e = e

-- by number is by key
pub by_key : (keys : List Key) (g : ℕ) (ns : List ℕ) (rows args : List Key) → Once keys → g < length keys → AreNumbers keys ns rows → length args ≡ length rows → of_group g ns args ≡ args_of (row_at keys g) rows args
by_key keys g [] [] args once inside are along = refl
by_key keys g [] (r ∷ rows) args once inside are along = absurd are
by_key keys g (n ∷ ns) [] args once inside are along = absurd are
by_key keys g (n ∷ ns) (r ∷ rows) [] once inside are along = absurd (omega arith)
by_key keys g (n ∷ ns) (r ∷ rows) (x ∷ args) once inside are along =
    rw (same_test keys g n r once inside are.0 are.1) (beside_test (nat_eq g n) x _ _ (by_key keys g ns rows args once inside are.2 (omega arith)))

-- ---- arguments

joined : (b : Bool) (x : Key) (zs xs ys : List Key) → zs ≡ xs ++ ys → cond b (x ∷ zs) zs ≡ cond b (x ∷ xs) xs ++ ys
joined true x zs xs ys e = ap (λ (ws : List Key). x ∷ ws) e
joined false x zs xs ys e = e

pub args_of-append : (k : Key) (keys more args others : List Key) → length args ≡ length keys → args_of k (keys ++ more) (args ++ others) ≡ args_of k keys args ++ args_of k more others
args_of-append k [] more [] others e = refl
args_of-append k [] more (x ∷ args) others e = absurd (omega arith)
args_of-append k (j ∷ keys) more [] others e = absurd (omega arith)
args_of-append k (j ∷ keys) more (x ∷ args) others e = joined (is_same_row k j) x _ _ _ (args_of-append k keys more args others (omega arith))

none_first : (k j x : Key) (keys args : List Key) (b : Bool) → is_same_row k j ≡ b → (times k keys ≡ 0 → args_of k keys args ≡ []) → times k (j ∷ keys) ≡ 0 → cond b (x ∷ args_of k keys args) (args_of k keys args) ≡ []
none_first k j x keys args true t later e = let f = rw t at e in absurd (omega (arith, f))
none_first k j x keys args false t later e = let f = rw t at e in later (omega (arith, f))

-- a key that no row has
pub args_of-none : (k : Key) (keys args : List Key) → times k keys ≡ 0 → args_of k keys args ≡ []
args_of-none k [] args e = refl
args_of-none k (j ∷ keys) [] e = refl
args_of-none k (j ∷ keys) (x ∷ args) e = none_first k j x keys args (is_same_row k j) refl (args_of-none k keys args) e

pub beside_at : (args more : List (List Key)) (a : ℕ) → args_at (beside args more) a ≡ args_at args a ++ args_at more a
beside_at [] more a = refl
beside_at (rows ∷ args) [] a = sym (append-nil (args_at (rows ∷ args) a))
beside_at (rows ∷ args) (others ∷ more) zero = refl
beside_at (rows ∷ args) (others ∷ more) (suc a) = beside_at args more a

-- ---- keys

pub empty_times : (keys : List Key) → All (HasWidth 0) keys → times [] keys ≡ length keys
empty_times [] wide = refl
empty_times ([] ∷ keys) wide = let later = empty_times keys (λ i d h. wide (suc i) d (omega arith)) in omega (arith, later)
empty_times ((v ∷ k) ∷ keys) wide = let h = wide 0 [] (omega arith) in absurd (omega (arith, h))

pub one_empty : (keys : List Key) → All (HasWidth 0) keys → length keys ≡ 1 → keys ≡ [] ∷ []
one_empty [] wide e = absurd (omega arith)
one_empty ([] ∷ []) wide e = refl
one_empty ((v ∷ k) ∷ keys) wide e = let h = wide 0 [] (omega arith) in absurd (omega (arith, h))
one_empty (k ∷ j ∷ keys) wide e = absurd (omega arith)

pub AreKeys-more : (width : ℕ) (before keys old new : List Key) (ns : List ℕ) → AreKeys width before old → All (HasWidth width) new → Numbers old new ns keys → AreKeys width (before ++ keys) new
AreKeys-more zero before keys old new ns are wide g =
    let c = g.counts [] in
    let one : times [] old ≡ 1 = ap (times []) are in
    let long = empty_times new wide in
    one_empty new wide (omega (arith, c, one, long))
AreKeys-more (suc width) before keys old new ns are wide g = record {
  each = λ k. let c = g.counts k in let o = are.each k in let e = times-append k before keys in omega (arith, c, o, e);
}

-- a key of a new group is none of the old ones
pub fresh_key : (old new added : List Key) (n : ℕ) → new ≡ old ++ added → Once new → length old ≤ n → n < length new → times (row_at new n) old ≡ 0
fresh_key old new added n is once past within =
    let k = row_at new n in
    let long : length new ≡ length old + length added = ap length is ∙ length-append old added in
    let there : row_at added (n - length old) ≡ k = sym (ap (λ (ks : List Key). row_at ks n) is ∙ get_or-append_right old added (length old) n [] refl past) in
    let some = stands_at added k (n - length old) (omega (arith, long, past, within)) there in
    let both : times k new ≡ times k old + times k added = ap (times k) is ∙ times-append k old added in
    let one = once k in
    omega (arith, some, both, one)

pub old_key : (old new added : List Key) (n : ℕ) → new ≡ old ++ added → n < length old → row_at new n ≡ row_at old n
old_key old new added n is h = ap (λ (ks : List Key). row_at ks n) is ∙ get_or_append_left old added [] n h

-- a fresh key has no rows yet
no_rows : (width : ℕ) (before old new added : List Key) (n : ℕ) → AreKeys width before old → All (HasWidth width) new → new ≡ old ++ added → Once new → length old ≤ n → n < length new → times (row_at new n) before ≡ 0
no_rows zero before old new added n are wide is once past within =
    let one : length old ≡ 1 = ap length are in
    let all = empty_times new wide in
    let most = once [] in
    absurd (omega (arith, one, all, most, past, within))
no_rows (suc width) before old new added n are wide is once past within =
    let none = fresh_key old new added n is once past within in
    let each = are.each (row_at new n) in
    omega (arith, none, each)

-- ---- groups

-- numbers are below the count of keys, and as many as the rows
pub numbers_known : (keys : List Key) (ns : List ℕ) (rows : List Key) → AreNumbers keys ns rows → All (λ n. n < length keys) ns
numbers_known keys [] rows are i d h = absurd (omega arith)
numbers_known keys (n ∷ ns) [] are i d h = absurd are
numbers_known keys (n ∷ ns) (r ∷ rows) are zero d h = are.0
numbers_known keys (n ∷ ns) (r ∷ rows) are (suc i) d h = numbers_known keys ns rows are.2 i d (omega arith)

pub numbers_along : (keys : List Key) (ns : List ℕ) (rows : List Key) → AreNumbers keys ns rows → length ns ≡ length rows
numbers_along keys [] [] are = refl
numbers_along keys [] (r ∷ rows) are = absurd are
numbers_along keys (n ∷ ns) [] are = absurd are
numbers_along keys (n ∷ ns) (r ∷ rows) are = ap suc (numbers_along keys ns rows are.2)

-- what an aggregate keeps of a group, with rows more
holds_more : (width : ℕ) (before keys old new : List Key) (ns : List ℕ) (had args : List Key) (s t : Numbered) (n : ℕ)
    → AreKeys width before old → All (HasWidth width) new → Once new → Numbers old new ns keys → length had ≡ length before → length args ≡ length keys → length s.kept ≡ length old → Gathers ns args (length new) s t
    → ((m : ℕ) → m < length old → Holds s.kind (args_of (row_at old m) before had) (kept_at s.kept m)) → n < length new → Holds t.kind (args_of (row_at new n) (before ++ keys) (had ++ args)) (kept_at t.kept n)
holds_more width before keys old new ns had args s t n are wide once g was along as_many gathers holds within =
    let k = row_at new n in
    let those : of_group n ns args ≡ args_of k keys args = by_key new n ns keys args once within g.are along in
    let all : args_of k (before ++ keys) (had ++ args) ≡ args_of k before had ++ args_of k keys args = args_of-append k before keys had args was in
    subst (λ kind. Holds kind (args_of k (before ++ keys) (had ++ args)) (kept_at t.kept n)) (sym gathers.shape.0)
    (subst (λ (rows : List Key). Holds s.kind rows (kept_at t.kept n)) (sym all)
    (subst (λ (rows : List Key). Holds s.kind (args_of k before had ++ rows) (kept_at t.kept n)) those
    (elim (cases_lt n (length old)) [
      | inl below ↦
          gathers.more n (args_of k before had) (omega (arith, as_many, below))
          (subst (λ (j : Key). Holds s.kind (args_of j before had) (kept_at s.kept n)) (sym (old_key old new g.added n g.whole below)) (holds n below))
      | inr past ↦
          subst (λ (rows : List Key). Holds s.kind (rows ++ of_group n ns args) (kept_at t.kept n)) (sym (args_of-none k before had (no_rows width before old new g.added n are wide g.whole once past within)))
          (gathers.fresh n (omega (arith, as_many, past)) within)
    ])))

pub same_shape : (s t : Numbered) → t.kind ≡ s.kind → t.types ≡ s.types → shape_of t ≡ shape_of s
same_shape s t e f = ap (λ k. record { kind = k; types = t.types }) e ∙ ap (λ ts. record { kind = s.kind; types = ts }) f

pub same_shapes : (olds news : List Numbered) → length news ≡ length olds → ((a : ℕ) → a < length olds → shape_of (state_at news a) ≡ shape_of (state_at olds a)) → map shape_of news ≡ map shape_of olds
same_shapes [] [] long same = refl
same_shapes [] (t ∷ news) long same = absurd (omega arith)
same_shapes (s ∷ olds) [] long same = absurd (omega arith)
same_shapes (s ∷ olds) (t ∷ news) long same = ap (λ (h : AggregateShape). h ∷ map shape_of news) (same 0 (omega arith)) ∙ ap (λ (hs : List AggregateShape). shape_of s ∷ hs) (same_shapes olds news (omega arith) (λ a h. same (suc a) (omega arith)))

pub whole_at : (n : ℕ) (states : List Numbered) → ((a : ℕ) → a < length states → length (state_at states a).kept ≡ n) → All (HasGroups n) states
whole_at n [] each i d h = absurd (omega arith)
whole_at n (s ∷ states) each zero d h = each 0 (omega arith)
whole_at n (s ∷ states) each (suc i) d h = whole_at n states (λ a l. each (suc a) (omega arith)) i d (omega arith)

-- the numbers of the keys, and then the rows for each aggregate
pub AddsRows-piece : (old new : Grouping) (keys : List Key) (args : List (List Key)) (ns : List ℕ)
    → HasAllGroups old → new.width ≡ old.width → length new.states ≡ length old.states → length args ≡ length old.states → All (λ (rows : List Key). length rows ≡ length keys) args
    → Once new.keys → All (HasWidth old.width) new.keys → Numbers old.keys new.keys ns keys → GatherAll ns args (length new.keys) old.states new.states → AddsRows keys args old new
AddsRows-piece old new keys args ns whole width long each along once wide g gathers = record {
  width_is = width;
  shapes = same_shapes old.states new.states long (λ a h. let s = (gathers.each a h).shape in same_shape (state_at old.states a) (state_at new.states a) s.0 s.1);
  whole = whole_at (length new.keys) new.states (λ a h. (gathers.each a (omega (arith, h, long))).count_is);
  more = λ before had stands. record {
    of_rows = rw width (AreKeys-more old.width before keys old.keys new.keys ns stands.of_rows wide g);
    along = λ a h.
        let was = stands.along a (omega (arith, h, long)) in
        let more = along a [] (omega (arith, h, long, each)) in
        ap length (beside_at had args a) ∙ length-append (args_at had a) (args_at args a) ∙ omega (arith, was, more) ∙ sym (length-append before keys);
    holds = λ a n h within.
        let inside : a < length old.states = omega (arith, h, long) in
        subst (λ (rows : List Key). Holds (state_at new.states a).kind (args_of (row_at new.keys n) (before ++ keys) rows) (kept_at (state_at new.states a).kept n)) (sym (beside_at had args a))
        (holds_more old.width before keys old.keys new.keys ns (args_at had a) (args_at args a) (state_at old.states a) (state_at new.states a) n
        stands.of_rows wide once g (stands.along a inside) (along a [] (omega (arith, inside, each))) (whole a nothing inside) (gathers.each a inside) (λ m l. stands.holds a m inside l) within);
  };
}

-- the same of the arguments' rows, over so many rows
pub AddsRows-given : (old new : Grouping) (keys : List Key) (args : List Argument) (ns : List ℕ) (m : ℕ)
    → HasAllGroups old → new.width ≡ old.width → length new.states ≡ length old.states → length args ≡ length old.states → length keys ≡ m → All (λ (rows : List Key). length rows ≡ m) (rows_given m args)
    → Once new.keys → All (HasWidth old.width) new.keys → Numbers old.keys new.keys ns keys → GatherAll ns (rows_given (length ns) args) (length new.keys) old.states new.states → AddsRows keys (rows_given m args) old new
AddsRows-given old new keys args ns m whole width long each many along once wide g gathers =
    AddsRows-piece old new keys (rows_given m args) ns whole width long (length-map args (rows_in m) ∙ each) (subst (λ (n : ℕ). All (λ (rows : List Key). length rows ≡ n) (rows_given m args)) (sym many) along) once wide g
    (subst (λ (n : ℕ). GatherAll ns (rows_given n args) (length new.keys) old.states new.states) (numbers_along new.keys ns keys g.are ∙ many) gathers)

pub given_along : (ns : List ℕ) (args : List Argument) (m : ℕ) → length ns ≡ m → All (λ (rows : List Key). length rows ≡ m) (rows_given m args) → All (λ (rows : List Key). length ns ≡ length rows) (rows_given (length ns) args)
given_along ns args m many along = subst (λ (n : ℕ). All (λ (rows : List Key). n ≡ length rows) (rows_given n args)) (sym many) (λ k d h. sym (along k d h))

-- ---- groups of no rows
