-- The numbers of keys of one cell, and what is known of words.
use Rattle.std.proofs.Common.{◌≡◌, ◌<◌, ◌≤◌, ◌⊎◌, ◌+◌, inl, inr, ℕ, zero, suc, ℤ, pos, List, [], ◌∷◌, ◌++◌, Option, Some, None, length, map, replicate, take, get_or, set, refl, sym, ap, ◌∙◌, subst, arith, add-one, append-nil, length-append}
use Rattle.std.proofs.lemmas.Bool.{cases_eq}
use Rattle.std.proofs.lemmas.List.{get_or_append_left, get_or_default, get_or_past, get_or-map, get_or-set_same, get_or-set_other, length-map, replicate_more}
use Rattle.std.proofs.lemmas.Option.{unwrap_or-slice_get}
use Rattle.kq_run_aggregates.specs.Alone.{alone, cell_as, each_alone}
use Rattle.kq_run_aggregates.specs.declared.reading.Reading.{Reading}
use Rattle.kq_store_rows.specs.Chunks.{row_at}
use Rattle.kq_value.specs.Same.{times}
use Rattle.kq_value.specs.declared.ty.Ty.TheVariants as ty
use Rattle.kq_value.specs.declared.value.Value.{Value}
use Rattle.kq_value.specs.declared.value.Value.TheVariants.{Null}
use Rattle.kq_store_column_view.specs.Vectors.{cell_of}
use Rattle.kq_run_groups.specs.Keys.{AreKnown, Numbers}
use Rattle.kq_run_groups.proofs.Tables.{Numbers-known, Numbers-step, stands_at, take_mapped}

abbrev Key : Type 0
Key = List Value

-- ---- one key more

last_alone : (cells : List Value) (i : ℕ) (v w : Value) → v ≡ w → take i (each_alone cells) ++ alone v ∷ [] ≡ take i (each_alone cells) ++ alone w ∷ []
last_alone cells i v w e = ap (λ (x : Value). take i (each_alone cells) ++ alone x ∷ []) e

pub take_cells : (cells : List Value) (i : ℕ) → i < length cells → take (i + 1) (each_alone cells) ≡ take i (each_alone cells) ++ alone (cell_of cells i) ∷ []
take_cells cells i h = take_mapped alone cells i (Null ty.Long) h ∙ last_alone cells i _ _ (sym (unwrap_or-slice_get cells i (Null ty.Long)))

pub take_numbers : (r : Reading) (zs : List ℤ) (i : ℕ) → i < length zs → take (i + 1) (each_alone (map (cell_as r) zs)) ≡ take i (each_alone (map (cell_as r) zs)) ++ alone (cell_as r (get_or zs i (pos 0))) ∷ []
take_numbers r zs i h =
    let cells = map (cell_as r) zs in
    take_mapped alone cells i (Null ty.Long) (omega (arith, length-map zs (cell_as r))) ∙ last_alone cells i _ _ (get_or-map (cell_as r) zs i (pos 0) (Null ty.Long) h)

pub take_words : (words : List Value) (codes : List ℕ) (i : ℕ) → i < length codes → take (i + 1) (each_alone (map (cell_of words) codes)) ≡ take i (each_alone (map (cell_of words) codes)) ++ alone (cell_of words (get_or codes i 0)) ∷ []
take_words words codes i h =
    let cells = map (cell_of words) codes in
    take_mapped alone cells i (Null ty.Long) (omega (arith, length-map codes (cell_of words))) ∙ last_alone cells i _ _ (get_or-map (cell_of words) codes i 0 (Null ty.Long) h)

-- ---- words

pub word_alone : (words : List Value) (at : ℕ) (v : Value) (key : Key) → at < length words → v ≡ get_or words at v → key ≡ v ∷ [] → key ≡ alone (cell_of words at)
word_alone words at v key h is e = e ∙ ap alone (is ∙ get_or_default words at v (Null ty.Long) h ∙ sym (unwrap_or-slice_get words at (Null ty.Long)))

pub no_word_alone : (words : List Value) (at : ℕ) (key : Key) → length words ≤ at → key ≡ Null ty.Long ∷ [] → key ≡ alone (cell_of words at)
no_word_alone words at key h e = e ∙ ap alone (sym (unwrap_or-slice_get words at (Null ty.Long) ∙ get_or_past words at (Null ty.Long) h))

abbrev no_number : Option ℕ
no_number = None

none_at : (n c : ℕ) → get_or (replicate n no_number) c no_number ≡ no_number
none_at zero c = refl
none_at (suc n) zero = refl
none_at (suc n) (suc c) = none_at n c

some_is_none : (n : ℕ) → None ≡ Some n → ⊥
some_is_none n e = absurd cc

pub known_none : (keys : List Key) (words : List Value) (count : ℕ) → AreKnown keys words (replicate count None)
known_none keys words count c n e = absurd (some_is_none n (sym (none_at count c) ∙ e))

pub known_more : (old new : List Key) (words : List Value) (known : List (Option ℕ)) (key : Key) → (new ≡ old) ⊎ ((times key old ≡ 0) × (new ≡ old ++ key ∷ [])) → AreKnown old words known → AreKnown new words known
known_more old new words known key (inl same) are c n e = rw same (are c n e)
known_more old new words known key (inr more) are c n e =
    let was = are c n e in
    rw more.1 (omega (arith, was.0, length-append old (key ∷ [])), get_or_append_left old (key ∷ []) [] n was.0 ∙ was.1)

some_same : (m n : ℕ) → Some m ≡ Some n → m ≡ n
some_same m n e = cc

pub known_noted : (keys : List Key) (words : List Value) (known : List (Option ℕ)) (at n : ℕ) → at < length known → n < length keys → row_at keys n ≡ alone (cell_of words at) → AreKnown keys words known → AreKnown keys words (set known at (Some n))
known_noted keys words known at n within there is are c m e = elim (cases_eq c at) [
  | inl same ↦
      let here : get_or (set known at (Some n)) at None ≡ Some n = get_or-set_same known at (Some n) None within in
      let num : n ≡ m = some_same n m (sym here ∙ ap (λ (d : ℕ). get_or (set known at (Some n)) d None) (sym same) ∙ e) in
      subst (λ (d : ℕ). (m < length keys) × (row_at keys m ≡ alone (cell_of words d))) (sym same) (subst (λ (l : ℕ). (l < length keys) × (row_at keys l ≡ alone (cell_of words at))) num (there, is))
  | inr other ↦ are c m (sym (get_or-set_other known at c (Some n) None other) ∙ e)
]

-- ---- the same key again

-- so many rows of one key, which got its number once
pub Numbers-same : (old new : List Key) (n : ℕ) (r : Key) (count : ℕ) → Numbers old new (n ∷ []) (r ∷ []) → n < length new → row_at new n ≡ r → Numbers old new (replicate (suc count) n) (replicate (suc count) r)
Numbers-same old new n r zero g h e = g
Numbers-same old new n r (suc count) g h e =
    let before = Numbers-same old new n r count g h e in
    let after : Numbers old new (replicate (suc count) n ++ n ∷ []) (replicate (suc count) r ++ r ∷ []) = Numbers-known old new (replicate (suc count) n) (replicate (suc count) r) n r before h e (stands_at new r n h e) in
    subst (λ (ns : List ℕ). Numbers old new ns (replicate (suc (suc count)) r)) (again n count)
    (subst (λ (rows : List Key). Numbers old new (replicate (suc count) n ++ n ∷ []) rows) (again r count) after)
  where
    again : {A : Type 0} (x : A) (m : ℕ) → replicate (suc m) x ++ x ∷ [] ≡ replicate (suc (suc m)) x
    again x m = replicate_more (suc m) x ∙ ap (λ (k : ℕ). replicate k x) (add-one (suc m))

pub Numbers-none : (keys : List Key) → ((k : Key) → times k keys ≤ 1) → Numbers keys keys [] []
Numbers-none keys once = record { are = tt; added = []; whole = sym (append-nil keys); counts = λ k. let h = once k in omega (arith, h) }

pub Numbers-all : (old new : List Key) (n : ℕ) (r : Key) (count : ℕ) → 0 < count → Numbers old old [] [] → (new ≡ old) ⊎ ((times r old ≡ 0) × (new ≡ old ++ r ∷ [])) → n < length new → row_at new n ≡ r
    → Numbers old new (replicate count n) (replicate count r)
Numbers-all old new n r zero some g more h e = absurd (omega arith)
Numbers-all old new n r (suc count) some g more h e = Numbers-same old new n r count (Numbers-step old old new [] [] n r g more h e) h e
