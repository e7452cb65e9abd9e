-- Cells that are joined.
use Rattle.std.proofs.Common.{◌≡◌, ◌<◌, ◌≤◌, ◌+◌, ◌||◌, ℕ, zero, suc, ℤ, pos, Bool, true, false, Option, Some, None, IfSome, is_none, unwrap_or, List, [], ◌∷◌, ◌++◌, All, length, map, take, get_or, slice_get, replicate, refl, sym, ap, subst, ◌∙◌, arith, append-nil, append_assoc, length-append, FitsSigned, w32}
use Rattle.std.specs.List.{flat_map}
use Rattle.std.proofs.lemmas.List.{length-map, length-replicate, length-take, map-append, take-take, take_more}
use Rattle.std.proofs.lemmas.List.Concat.{flat_map-append}
use Rattle.std.proofs.lemmas.List.Elements.{All-append, All-cons, All-head, All-nil, All-tail, All-weaker}
use Rattle.std.proofs.lemmas.Option.{slice_get_read, get_or_from_slice_get}
use Rattle.kq_value.specs.declared.ty.Ty.{Ty}
use Rattle.kq_value.specs.declared.ty.Ty.TheVariants as ty
use Rattle.kq_value.specs.declared.value.Value.{Value}
use Rattle.kq_value.specs.declared.value.Value.TheVariants.{Null}
use Rattle.kq_store_column_view.specs.Numbers.{marked, number_cell}
use Rattle.kq_store_column_view.specs.Vectors.{cell_of}
use Rattle.kq_store_column.specs.Built.{AreBuilt, AreCoded}
use Rattle.kq_store_column.specs.Words.{word_at}
use Rattle.kq_store_column.proofs.Cellwise.{take_got}
use Rattle.kq_store_column.proofs.Coded.{coded_more, known_more, same_words}
use Rattle.kq_store_column.proofs.Lent.{words_same}
use Rattle.kq_store_column.proofs.Marked.{marked_more, plain_more, fits_or_zero, or_false}

-- lists joined with those of a part more
pub joined_more : {X : Type 0} (f : X → List Value) (xs : List X) (i : ℕ) (x : X) → i < length xs → get_or xs i x ≡ x → flat_map f (take (i + 1) xs) ≡ flat_map f (take i xs) ++ f x
joined_more {X} f xs i x within is =
    ap (flat_map f) (take_more xs i x within ∙ ap (λ (y : X). take i xs ++ y ∷ []) is) ∙ flat_map-append f (take i xs) (x ∷ []) ∙ ap (λ (cs : List Value). flat_map f (take i xs) ++ cs) (append-nil (f x))

plain-append : (ys zs : List ℤ) → marked [] (ys ++ zs) ≡ marked [] ys ++ marked [] zs
plain-append [] zs = refl
plain-append (y ∷ ys) zs = ap (λ (os : List (Option ℤ)). Some y ∷ os) (plain-append ys zs)

marked-append : (ns ms : List Bool) (ys zs : List ℤ) → length ns ≡ length ys → length ms ≡ length zs → marked (ns ++ ms) (ys ++ zs) ≡ marked ns ys ++ marked ms zs
marked-append [] ms [] zs h k = refl
marked-append [] ms (y ∷ ys) zs h k = absurd (omega (arith, h))
marked-append (n ∷ ns) ms [] zs h k = absurd (omega (arith, h))
marked-append (true ∷ ns) ms (y ∷ ys) zs h k = ap (λ (os : List (Option ℤ)). None ∷ os) (marked-append ns ms ys zs (omega (arith, h)) k)
marked-append (false ∷ ns) ms (y ∷ ys) zs h k = ap (λ (os : List (Option ℤ)). Some y ∷ os) (marked-append ns ms ys zs (omega (arith, h)) k)

-- marks that mark nothing may be left out
unmarked : (zs : List ℤ) → marked (replicate (length zs) false) zs ≡ marked [] zs
unmarked [] = refl
unmarked (z ∷ zs) = ap (λ (os : List (Option ℤ)). Some z ∷ os) (unmarked zs)

or_true : (a : Bool) → (a || true) ≡ true
or_true true = refl
or_true false = refl

or_is : (a b : Bool) → (a || b) ≡ false → a ≡ false
or_is a b h = (or_false a b h).0

fit_both : (t : Ty) (ys zs : List ℤ) → (t ≡ ty.Int → All (FitsSigned w32) ys) → (t ≡ ty.Int → All (FitsSigned w32) zs) → t ≡ ty.Int → All (FitsSigned w32) (ys ++ zs)
fit_both t ys zs f g int = All-append (FitsSigned w32) ys zs (f int) (g int)

-- numbers without marks behind others
pub built_plain : (t : Ty) (ns : List Bool) (ys : List ℤ) (any : Bool) (cells : List Value) (zs : List ℤ) (count : ℕ) → count ≡ length zs → (t ≡ ty.Int → All (FitsSigned w32) zs)
    → AreBuilt t ns ys any cells → AreBuilt t (ns ++ replicate count false) (ys ++ zs) (any || false) (cells ++ map (number_cell t) (marked [] zs))
built_plain t ns ys any cells zs count is fit built =
    let more = length-replicate count false in
    let marks : marked (replicate count false) zs ≡ marked [] zs = ap (λ (n : ℕ). marked (replicate n false) zs) is ∙ unmarked zs in
    let all = marked-append ns (replicate count false) ys zs built.long (more ∙ is) in
    record {
      long = let n = length-append ns (replicate count false) in let m = length-append ys zs in let b = built.long in omega (arith, n, m, b, more, is);
      stand = ap (map (number_cell t)) all ∙ map-append (number_cell t) (marked ns ys) (marked (replicate count false) zs) ∙ (λ i. built.stand i ++ map (number_cell t) (marks i));
      plain = λ h. all ∙ (λ i. built.plain (or_is any false h) i ++ marks i) ∙ sym (plain-append ys zs);
      fit = fit_both t ys zs built.fit fit;
    }

-- the same with marks that are left out
pub built_unmarked : (t : Ty) (ns : List Bool) (ys : List ℤ) (any : Bool) (cells : List Value) (ms : List Bool) (zs : List ℤ) (count : ℕ) → count ≡ length zs → length ms ≤ 0 → (t ≡ ty.Int → All (FitsSigned w32) zs)
    → AreBuilt t ns ys any cells → AreBuilt t (ns ++ replicate count false) (ys ++ zs) (any || false) (cells ++ map (number_cell t) (marked ms zs))
built_unmarked t ns ys any cells [] zs count is none fit built = built_plain t ns ys any cells zs count is fit built
built_unmarked t ns ys any cells (m ∷ ms) zs count is none fit built = absurd (omega arith)

-- marked numbers behind others
pub built_marked : (t : Ty) (ns : List Bool) (ys : List ℤ) (any : Bool) (cells : List Value) (ms : List Bool) (zs : List ℤ) → length ms ≡ length zs → (t ≡ ty.Int → All (FitsSigned w32) zs)
    → AreBuilt t ns ys any cells → AreBuilt t (ns ++ ms) (ys ++ zs) (any || true) (cells ++ map (number_cell t) (marked ms zs))
built_marked t ns ys any cells ms zs is fit built =
    let all = marked-append ns ms ys zs built.long is in
    record {
      long = let n = length-append ns ms in let m = length-append ys zs in let b = built.long in omega (arith, n, m, b, is);
      stand = ap (map (number_cell t)) all ∙ map-append (number_cell t) (marked ns ys) (marked ms zs) ∙ (λ i. built.stand i ++ map (number_cell t) (marked ms zs));
      plain = λ h. absurd (let e : true ≡ false = sym (or_true any) ∙ h in cc);
      fit = fit_both t ys zs built.fit fit;
    }

-- one cell more
pub built_one : (t : Ty) (ns : List Bool) (ys : List ℤ) (any : Bool) (cells : List Value) (o : Option ℤ) (v : Value) → number_cell t o ≡ v → (t ≡ ty.Int → IfSome o (FitsSigned w32))
    → AreBuilt t ns ys any cells → AreBuilt t (ns ++ is_none o ∷ []) (ys ++ unwrap_or o (pos 0) ∷ []) (any || is_none o) (cells ++ v ∷ [])
built_one t ns ys any cells o v stands fit built =
    let all = marked_more ns ys o built.long in
    record {
      long = let n = length-append ns (is_none o ∷ []) in let m = length-append ys (unwrap_or o (pos 0) ∷ []) in let b = built.long in omega (arith, n, m, b);
      stand = ap (map (number_cell t)) all ∙ map-append (number_cell t) (marked ns ys) (o ∷ []) ∙ (λ i. built.stand i ++ stands i ∷ []);
      plain = λ h. let both = or_false any (is_none o) h in plain_more ns ys o built.long both.1 (built.plain both.0);
      fit = λ int. All-append (FitsSigned w32) ys (unwrap_or o (pos 0) ∷ []) (built.fit int) (All-cons (FitsSigned w32) (unwrap_or o (pos 0)) [] (fits_or_zero o (fit int)) (All-nil (FitsSigned w32)));
    }

pub built_none : (t : Ty) → AreBuilt t [] [] false []
built_none t = record { long = refl; stand = refl; plain = λ h. refl; fit = λ int. All-nil (FitsSigned w32) }

-- more codes under more words
pub coded_both : (words more : List Value) (codes new : List ℕ) (cells others : List Value) → take (length words) more ≡ words → AreCoded words codes cells → AreCoded more new others
    → AreCoded more (codes ++ new) (cells ++ others)
coded_both words more codes new cells others kept old behind =
    let longer : length words ≤ length more = let n = length-take (length words) more in let e = ap length kept in omega (arith, n, e) in
    record {
      known = All-append (λ c. c < length more) codes new (All-weaker (λ c. c < length words) (λ c. c < length more) (λ c h. omega (arith, h, longer)) codes old.known) behind.known;
      stand = map-append (word_at more) codes new ∙ (λ i. (same_words words more codes kept old.known ∙ old.stand) i ++ behind.stand i);
    }

renamed_one : (words others : List Value) (renamed : List ℕ) (code : ℕ) → code < length renamed → AreCoded words renamed others → word_at words (get_or renamed code 0) ≡ word_at others code
renamed_one words others renamed code within coded =
    sym (get_or-map_at (word_at words) renamed code 0 (Null ty.Long) within) ∙ ap (λ (vs : List Value). get_or vs code (Null ty.Long)) coded.stand
  where
    get_or-map_at : (f : ℕ → Value) (xs : List ℕ) (i d : ℕ) (e : Value) → i < length xs → get_or (map f xs) i e ≡ f (get_or xs i d)
    get_or-map_at f [] i d e h = absurd (omega (arith, h))
    get_or-map_at f (x ∷ xs) zero d e h = refl
    get_or-map_at f (x ∷ xs) (suc i) d e h = get_or-map_at f xs i d e (omega (arith, h))

renamed_known : (n : ℕ) (renamed : List ℕ) (code : ℕ) → code < length renamed → All (λ c. c < n) renamed → get_or renamed code 0 < n
renamed_known n renamed code within all = all code 0 within

-- codes of words that have new codes
pub renamed_all : (words others : List Value) (renamed old : List ℕ) → AreCoded words renamed others → All (λ c. c < length renamed) old
    → AreCoded words (map (λ c. get_or renamed c 0) old) (map (word_at others) old)
renamed_all words others renamed [] coded all = record { known = All-nil (λ c. c < length words); stand = refl }
renamed_all words others renamed (c ∷ old) coded all =
    let here = All-head (λ c. c < length renamed) c old all in
    let rest = renamed_all words others renamed old coded (All-tail (λ c. c < length renamed) c old all) in
    record {
      known = All-cons (λ c. c < length words) (get_or renamed c 0) (map (λ c. get_or renamed c 0) old) (renamed_known (length words) renamed c here coded.known) rest.known;
      stand = λ i. renamed_one words others renamed c here coded i ∷ rest.stand i;
    }

pub length-coded : (words : List Value) (codes : List ℕ) (cells : List Value) → AreCoded words codes cells → length codes ≡ length cells
length-coded words codes cells coded = sym (length-map codes (word_at words)) ∙ ap length coded.stand

pub coded_none : (words : List Value) → AreCoded words [] []
coded_none words = record { known = All-nil (λ c. c < length words); stand = refl }

-- words that stand after some were kept are still those of before
pub kept_more : (old words more : List Value) → take (length old) words ≡ old → take (length words) more ≡ words → take (length old) more ≡ old
kept_more old words more kept also =
    let n = ap length kept in
    let m = length-take (length old) words in
    let short : length old ≤ length words = omega (arith, n, m) in
    sym (take-take (length old) (length words) more short) ∙ ap (λ (ws : List Value). take (length old) ws) also ∙ kept

-- one code more, of a cell that is there
pub coded_next : (words more : List Value) (codes : List ℕ) (code : ℕ) (cells : List Value) (i : ℕ) (v : Value) → take (length words) more ≡ words → AreCoded words codes (take i cells) → slice_get more code ≡ Some v → i < length cells → v ≡ get_or cells i v
    → AreCoded more (codes ++ code ∷ []) (take (i + 1) cells)
coded_next words more codes code cells i v kept coded got within is =
    let there : slice_get cells i ≡ Some v = slice_get_read cells (length cells) i v refl within is in
    record {
      known = known_more words more codes code v kept coded.known got;
      stand = coded_more words more codes code cells i v kept coded.known coded.stand got there;
    }

-- cells that had words and codes already, under their new codes
pub coded_again : (words others : List Value) (new old codes : List ℕ) → AreCoded words new others → All (λ c. c < length new) old → codes ≡ map (λ c. get_or new c 0) old → AreCoded words codes (map (cell_of others) old)
coded_again words others new old codes coded known is =
    subst (λ (cs : List ℕ). AreCoded words cs (map (cell_of others) old)) (sym is)
    (subst (λ (vs : List Value). AreCoded words (map (λ c. get_or new c 0) old) vs) (sym (words_same others old)) (renamed_all words others new old coded known))

-- the cell that was read stands there
pub there : (cells : List Value) (i : ℕ) (v : Value) → i < length cells → v ≡ cell_of cells i → slice_get cells i ≡ Some v
there [] i v h e = absurd (omega arith)
there (x ∷ cells) zero v h e = ap (λ (y : Value). Some y) (sym e)
there (x ∷ cells) (suc i) v h e = there cells i v (omega arith) e

-- the cells so far and one more, behind others
pub behind_more : (old cells : List Value) (i : ℕ) (v : Value) → i < length cells → v ≡ cell_of cells i → (old ++ take i cells) ++ v ∷ [] ≡ old ++ take (i + 1) cells
behind_more old cells i v h e = append_assoc old (take i cells) (v ∷ []) ∙ ap (λ (vs : List Value). old ++ vs) (sym (take_got cells i v (there cells i v h e)))

pub or_assoc : (a b c : Bool) → ((a || b) || c) ≡ (a || (b || c))
or_assoc true b c = refl
or_assoc false b c = refl

or_false_right : (a : Bool) → (a || false) ≡ a
or_false_right true = refl
or_false_right false = refl

pub built_as : (t : Ty) (ns : List Bool) (zs : List ℤ) (a b : Bool) (xs ys : List Value) → a ≡ b → xs ≡ ys → AreBuilt t ns zs a xs → AreBuilt t ns zs b ys
built_as t ns zs a b xs ys e f built = subst (λ (x : Bool). AreBuilt t ns zs x ys) e (subst (λ (cs : List Value). AreBuilt t ns zs a cs) f built)

-- nothing of a part yet
pub built_begun : (t : Ty) (ns : List Bool) (zs : List ℤ) (any : Bool) (cells : List Value) → AreBuilt t ns zs any cells → AreBuilt t ns zs (any || false) (cells ++ [])
built_begun t ns zs any cells built = built_as t ns zs any (any || false) cells (cells ++ []) (sym (or_false_right any)) (sym (append-nil cells)) built

-- what holds of all cells holds of the one that was read
pub typed_at : (P : Value → Type 0) (cells : List Value) (i : ℕ) (v : Value) → i < length cells → v ≡ cell_of cells i → All P cells → P v
typed_at P cells i v h e all = subst P (get_or_from_slice_get cells i v v (there cells i v h e)) (all i v h)
