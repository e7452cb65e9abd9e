-- Groups that grow, and many rows at once.
use Rattle.std.proofs.Common.{◌≡◌, ◌≢◌, ◌<◌, ℕ, ℤ, pos, zero, suc, ◌+◌, Bool, true, false, cond, nat_eq, List, [], ◌∷◌, ◌++◌, Some, length, map, replicate, take, get_or, slice_get, refl, sym, ap, ◌∙◌, subst, arith, append-nil, append_assoc}
use Rattle.std.proofs.lemmas.Bool.Decides.{nat_tests}
use Rattle.std.proofs.lemmas.List.{get_or-map, get_or-replicate, length_push, length-map, length-replicate, length-take, take_more}
use Rattle.std.proofs.lemmas.List.FromFn.{get_or-range_with_len, length-range_with_len}
use Rattle.std.specs.List.{range_with_len}
use Rattle.std.proofs.lemmas.Option.{get_or_from_slice_get, slice_get-map, slice_get-get_or, unwrap_or-slice_get}
use Rattle.std.specs.Prelude.{option_map}
use Rattle.kq_value.specs.declared.value.Value.{Value}
use Rattle.kq_value.specs.declared.value.Value.TheVariants.{Null}
use Rattle.kq_value.specs.declared.ty.Ty.TheVariants as ty
use Rattle.kq_store_column_view.specs.Vectors.{cell_of}
use Rattle.kq_run_aggregates.specs.Across.{across, rows_across}
use Rattle.kq_run_aggregates.specs.Alone.{alone, cell_as, each_alone}
use Rattle.kq_run_aggregates.specs.Holds.{Kept, Holds}
use Rattle.kq_run_aggregates.specs.Steps.{none_kept, kept_at, Steps, ChangesAt, Grows, TakesIn, of_group}
use Rattle.kq_run_aggregates.specs.declared.kind.Kind.{Kind}
use Rattle.kq_run_aggregates.specs.declared.kind.Kind.TheVariants as kind
use Rattle.kq_run_aggregates.specs.declared.reading.Reading.{Reading}
use Rattle.kq_run_aggregates.proofs.Sets.{IsSetOf-none}

abbrev pub Rows : Type 0
Rows = List (List Value)

-- ---- one group more

pub Holds-none : (k : Kind) → Holds k [] (none_kept k)
Holds-none kind.Count = refl
Holds-none kind.Sum = refl
Holds-none kind.Min = refl
Holds-none kind.Max = refl
Holds-none kind.ArgMax = refl
Holds-none kind.ArgMin = refl
Holds-none kind.TakeAny = refl
Holds-none (kind.MakeSet n) = IsSetOf-none n

kept_at-last : (olds : List Kept) (x : Kept) → kept_at (olds ++ x ∷ []) (length olds) ≡ x
kept_at-last [] x = refl
kept_at-last (y ∷ olds) x = kept_at-last olds x

kept_at-before : (olds : List Kept) (x : Kept) (g : ℕ) → g < length olds → kept_at (olds ++ x ∷ []) g ≡ kept_at olds g
kept_at-before [] x g h = absurd (omega arith)
kept_at-before (y ∷ olds) x zero h = refl
kept_at-before (y ∷ olds) x (suc g) h = kept_at-before olds x g (omega arith)

pub Grows-push : (k : Kind) (olds news : List Kept) → news ≡ olds ++ none_kept k ∷ [] → Grows k olds news
Grows-push k olds news e = rw e record {
  fresh = rw (kept_at-last olds (none_kept k)) (Holds-none k);
  others = λ h less. kept_at-before olds (none_kept k) h less;
  count = length_push olds (none_kept k);
}

-- ---- many rows

own : Bool → List Value → Rows
own b r = cond b (r ∷ []) []

one_row : (b : Bool) (r : List Value) (rest : Rows) → cond b (r ∷ rest) rest ≡ own b r ++ rest
unfolding own
one_row true r rest = refl
one_row false r rest = refl

of_group-push : (g : ℕ) (hs : List ℕ) (rows : Rows) (h : ℕ) (r : List Value) → length hs ≡ length rows → of_group g (hs ++ h ∷ []) (rows ++ r ∷ []) ≡ of_group g hs rows ++ own (nat_eq g h) r
of_group-push g [] [] h r e = one_row (nat_eq g h) r [] ∙ append-nil _
of_group-push g [] (s ∷ rows) h r e = absurd (omega arith)
of_group-push g (j ∷ hs) [] h r e = absurd (omega arith)
of_group-push g (j ∷ hs) (s ∷ rows) h r e =
    let more : of_group g (hs ++ h ∷ []) (rows ++ r ∷ []) ≡ of_group g hs rows ++ own (nat_eq g h) r = of_group-push g hs rows h r (omega arith) in
    one_row (nat_eq g j) s (of_group g (hs ++ h ∷ []) (rows ++ r ∷ []))
    ∙ ap (λ rest. own (nat_eq g j) s ++ rest) more
    ∙ sym (append_assoc (own (nat_eq g j) s) (of_group g hs rows) (own (nat_eq g h) r))
    ∙ ap (λ before. before ++ own (nat_eq g h) r) (sym (one_row (nat_eq g j) s (of_group g hs rows)))

pub TakesIn-none : (k : Kind) (olds : List Kept) → TakesIn k [] [] olds olds
TakesIn-none k olds = record { more = λ g before h s. rw append-nil s; count = refl }

one_group : (k : Kind) (g h : ℕ) (before : Rows) (r : List Value) (mids news : List Kept) (b : Bool) → nat_eq g h ≡ b → ChangesAt h (Steps k r) mids news
    → Holds k before (kept_at mids g) → Holds k (before ++ own b r) (kept_at news g)
unfolding own
one_group k g h before r mids news true e c s = let same : g ≡ h = grind (arith, nat_tests) in rw same (c.changes.more before (rw same at s))
one_group k g h before r mids news false e c s = let ne : g ≢ h = grind (arith, nat_tests) in rw (append-nil, c.others g ne) s

pub TakesIn-push : (k : Kind) (hs : List ℕ) (rows : Rows) (h : ℕ) (r : List Value) (olds mids news : List Kept) → length hs ≡ length rows
    → ChangesAt h (Steps k r) mids news → TakesIn k hs rows olds mids → TakesIn k (hs ++ h ∷ []) (rows ++ r ∷ []) olds news
TakesIn-push k hs rows h r olds mids news e c t = record {
  more = λ g before less s. rw (of_group-push g hs rows h r e, ← append_assoc) (one_group k g h _ r mids news (nat_eq g h) refl c (t.more g before less s));
  count = c.count ∙ t.count;
}

-- one more of the rows
pub TakesIn-more : (k l : Kind) (hs : List ℕ) (rows : Rows) (i : ℕ) (r : List Value) (olds mids news : List Kept) → k ≡ l → i < length hs → length hs ≡ length rows → slice_get rows i ≡ Some r
    → ChangesAt (get_or hs i 0) (Steps k r) mids news → TakesIn l (take i hs) (take i rows) olds mids → TakesIn l (take (i + 1) hs) (take (i + 1) rows) olds news
TakesIn-more k l hs rows i r olds mids news same h along at c t =
    let within : i < length rows = omega arith in
    let read : get_or rows i r ≡ r = get_or_from_slice_get rows i r r at in
    let d = rw same at c in
    rw (take_more hs i 0 h, take_more rows i r within, read) (TakesIn-push l (take i hs) (take i rows) _ r olds mids news (omega (arith, length-take i hs, length-take i rows)) d t)

abbrev no_cells : List Value
no_cells = []

-- one of so many rows of no cells
pub bare_row : (n i : ℕ) → i < n → slice_get (replicate n no_cells) i ≡ Some no_cells
bare_row n i h = slice_get-get_or (replicate n no_cells) i no_cells (rw (length-replicate n no_cells) h) ∙ ap Some (get_or-replicate n i no_cells no_cells h)

-- a row that is made of one of these
pub made_row : {A : Type 0} (f : A → List Value) (xs : List A) (i : ℕ) (d : A) → i < length xs → slice_get (map f xs) i ≡ Some (f (get_or xs i d))
made_row f xs i d h = slice_get-map f xs i ∙ ap (option_map f) (slice_get-get_or xs i d h)

-- one more of the rows that are made of these
pub TakesIn-made : {A : Type 0} (f : A → List Value) (k l : Kind) (hs : List ℕ) (xs : List A) (i : ℕ) (d : A) (olds mids news : List Kept) → k ≡ l → i < length hs → length hs ≡ length xs
    → ChangesAt (get_or hs i 0) (Steps k (f (get_or xs i d))) mids news → TakesIn l (take i hs) (take i (map f xs)) olds mids → TakesIn l (take (i + 1) hs) (take (i + 1) (map f xs)) olds news
TakesIn-made f k l hs xs i d olds mids news same h along c t =
    TakesIn-more k l hs (map f xs) i (f (get_or xs i d)) olds mids news same h (along ∙ sym (length-map xs f)) (made_row f xs i d (omega arith)) c t

-- one more of the rows of one number
pub TakesIn-numbers : (r : Reading) (k l : Kind) (hs : List ℕ) (zs : List ℤ) (i : ℕ) (olds mids news : List Kept) → k ≡ l → i < length hs → length hs ≡ length zs
    → ChangesAt (get_or hs i 0) (Steps k (alone (cell_as r (get_or zs i (pos 0))))) mids news → TakesIn l (take i hs) (take i (each_alone (map (cell_as r) zs))) olds mids
    → TakesIn l (take (i + 1) hs) (take (i + 1) (each_alone (map (cell_as r) zs))) olds news
TakesIn-numbers r k l hs zs i olds mids news same h along c t =
    let within : i < length zs = omega arith in
    let at : get_or (map (cell_as r) zs) i (cell_as r (pos 0)) ≡ cell_as r (get_or zs i (pos 0)) = get_or-map (cell_as r) zs i (pos 0) (cell_as r (pos 0)) within in
    TakesIn-made alone k l hs (map (cell_as r) zs) i (cell_as r (pos 0)) olds mids news same h (along ∙ sym (length-map zs (cell_as r)))
    (subst (λ (v : Value). ChangesAt (get_or hs i 0) (Steps k (alone v)) mids news) (sym at) c) t

-- one more of the rows of one cell
pub TakesIn-cells : (k l : Kind) (hs : List ℕ) (cells : List Value) (i : ℕ) (olds mids news : List Kept) → k ≡ l → i < length hs → length hs ≡ length cells
    → ChangesAt (get_or hs i 0) (Steps k (alone (cell_of cells i))) mids news → TakesIn l (take i hs) (take i (each_alone cells)) olds mids → TakesIn l (take (i + 1) hs) (take (i + 1) (each_alone cells)) olds news
TakesIn-cells k l hs cells i olds mids news same h along c t =
    TakesIn-made alone k l hs cells i (Null ty.Long) olds mids news same h along
    (subst (λ (v : Value). ChangesAt (get_or hs i 0) (Steps k (alone v)) mids news) (unwrap_or-slice_get cells i (Null ty.Long)) c) t

-- one more of the rows whose cells stand in columns
pub TakesIn-across : (k l : Kind) (hs : List ℕ) (columns : List (List Value)) (i : ℕ) (olds mids news : List Kept) → k ≡ l → i < length hs → ChangesAt (get_or hs i 0) (Steps k (across columns i)) mids news
    → TakesIn l (take i hs) (take i (rows_across (length hs) columns)) olds mids → TakesIn l (take (i + 1) hs) (take (i + 1) (rows_across (length hs) columns)) olds news
TakesIn-across k l hs columns i olds mids news same h c t =
    let n = length hs in
    let first : 0 + i ≡ i = omega arith in
    let at : get_or (range_with_len 0 n) i 0 ≡ i = get_or-range_with_len 0 n i 0 h ∙ first in
    TakesIn-made (across columns) k l hs (range_with_len 0 n) i 0 olds mids news same h (sym (length-range_with_len 0 n)) (subst (λ (p : ℕ). ChangesAt (get_or hs i 0) (Steps k (across columns p)) mids news) (sym at) c) t
