-- Tables of keys that take one more, and the numbers of rows.
use Rattle.std.proofs.Common.{◌≡◌, ◌<◌, ◌≤◌, ◌⊎◌, ◌+◌, ◌^◌, inl, inr, ℕ, zero, suc, min, Bool, true, false, cond, List, [], ◌∷◌, ◌++◌, Option, Some, Result, Ok, Err, IfOk, OnOk, length, map, take, get_or, slice_get, refl, sym, ap, ◌∙◌, subst, arith, append_assoc, length-append}
use Rattle.std.proofs.lemmas.List.{map-append, get_or_append_left, get_or_push, length_push, take_more, get_or-map, length-map}
use Rattle.std.proofs.lemmas.List.Elements.{All-push}
use Rattle.std.proofs.lemmas.Option.{get_or_from_slice_get}
use Rattle.std.specs.declared.alloc.AllocError.{AllocError}
use Rattle.kq_store_hash_chains.specs.Chain.{ChainState}
use Rattle.kq_store_rows.specs.Chunks.{HasWidth, row_at}
use Rattle.kq_value.specs.declared.value.Value.{Value}
use Rattle.kq_value.specs.Same.{times}
use Rattle.kq_value.specs.Values.{is_same_row}
use Rattle.kq_value.proofs.Equals.{is_same_row-Decides}
use Rattle.kq_value.proofs.SameLemmas.{times-append}
use Rattle.kq_run_groups.specs.declared.key_table.KeyTable.{KeyTable}
use Rattle.kq_run_groups.specs.Keys.{IsTable, AreNumbers, Numbers, head_of, key_hash}

abbrev Key : Type 0
Key = List Value

-- how often a key stands in a list, with one more
times-push : (k key : Key) (keys : List Key) → times k (keys ++ key ∷ []) ≡ times k keys + cond (is_same_row k key) 1 0
times-push k key keys = let e = times-append k keys (key ∷ []) in omega (arith, e)

still_apart : (k key : Key) (keys : List Key) (b : Bool) → is_same_row k key ≡ b → times key keys ≡ 0 → times k keys ≤ 1 → times k keys + cond b 1 0 ≤ 1
still_apart k key keys true e absent one = let none : times k keys ≡ 0 = ap (λ (j : Key). times j keys) ((is_same_row-Decides k key).0 e) ∙ absent in omega (arith, none)
still_apart k key keys false e absent one = omega (arith, one)

-- with one key more, which is new
pub IsTable-push : (t u : KeyTable) (key : Key) (hash : ℕ) → IsTable t → u.heads ≡ t.heads → u.width ≡ t.width → u.keys ≡ t.keys ++ key ∷ [] → u.hashes.items ≡ t.hashes.items ++ hash ∷ []
    → u.chain ≡ record t.chain { added = t.chain.added ++ head_of t.heads hash ∷ [] } → hash ≡ key_hash key → length key ≡ t.width → times key t.keys ≡ 0 → length t.keys + 1 < 2 ^ 32 → IsTable u
IsTable-push t u key hash f heads width keys hashes chain hashed wide absent room = record {
  some = rw heads f.some;
  hashed = hashes ∙ ap (λ (hs : List ℕ). hs ++ hash ∷ []) f.hashed ∙ ap (λ (h : ℕ). map key_hash t.keys ++ h ∷ []) hashed ∙ sym (map-append key_hash t.keys (key ∷ [])) ∙ ap (map key_hash) (sym keys);
  filed = chain ∙ ap (λ (c : ChainState). record c { added = c.added ++ head_of t.heads hash ∷ [] }) f.filed
      ∙ ap (λ (hs : List ℕ). record { heads = t.heads; added = hs }) (sym (map-append (head_of t.heads) t.hashes.items (hash ∷ [])))
      ∙ ap (λ (hs : List ℕ). record { heads = t.heads; added = map (head_of t.heads) hs }) (sym hashes)
      ∙ ap (λ (n : ℕ). record { heads = n; added = map (head_of n) u.hashes.items }) (sym heads);
  wide = rw (width, keys) (All-push (HasWidth t.width) t.keys key f.wide wide);
  apart = λ k. rw keys (rw times-push (still_apart k key t.keys (is_same_row k key) refl absent (f.apart k)));
  few = rw (keys, length_push) room;
}

-- ---- a key as it is lent

pub lent_at : (keys : List Key) (i : ℕ) (key : Key) → slice_get keys i ≡ Some key → row_at keys i ≡ key
lent_at keys i key e = get_or_from_slice_get keys i key [] e

pub lent_wide : (t : KeyTable) (i : ℕ) (key : Key) → IsTable t → i < length t.keys → slice_get t.keys i ≡ Some key → length key ≡ t.width
lent_wide t i key f h e = sym (ap length (lent_at t.keys i key e)) ∙ f.wide i [] h

pub lent_hash : (t : KeyTable) (i : ℕ) (key : Key) (hash : ℕ) → IsTable t → i < length t.keys → slice_get t.keys i ≡ Some key → hash ≡ get_or t.hashes.items i hash → hash ≡ key_hash key
lent_hash t i key hash f h e is = is ∙ ap (λ (hs : List ℕ). get_or hs i hash) f.hashed ∙ get_or-map key_hash t.keys i [] hash h ∙ ap key_hash (lent_at t.keys i key e)

-- the number of a key that was put last
pub put_last : (r : Result ℕ AllocError) (old new : List Key) (key : Key) → IfOk r (λ n. n ≡ length old) → OnOk r (new ≡ old ++ key ∷ []) → IfOk r (λ n. (n < length new) × (row_at new n ≡ key))
put_last (Ok n) old new key is last = subst (λ (ks : List Key). (n < length ks) × (row_at ks n ≡ key)) (sym last) (rw length_push (omega (arith, is)), get_or_push old key [] n (sym is))
put_last (Err e) old new key is last = tt

-- ---- numbers

-- keys that come last change no number
pub AreNumbers-more : (keys more : List Key) (ns : List ℕ) (rows : List Key) → AreNumbers keys ns rows → AreNumbers (keys ++ more) ns rows
AreNumbers-more keys more [] [] a = tt
AreNumbers-more keys more [] (r ∷ rows) a = absurd a
AreNumbers-more keys more (n ∷ ns) [] a = absurd a
AreNumbers-more keys more (n ∷ ns) (r ∷ rows) a = (longer, get_or_append_left keys more [] n a.0 ∙ a.1, AreNumbers-more keys more ns rows a.2)
  where
    longer : n < length (keys ++ more)
    longer = let e = length-append keys more in omega (arith, a.0, e)

pub AreNumbers-push : (keys : List Key) (n : ℕ) (r : Key) (ns : List ℕ) (rows : List Key) → AreNumbers keys ns rows → n < length keys → row_at keys n ≡ r → AreNumbers keys (ns ++ n ∷ []) (rows ++ r ∷ [])
AreNumbers-push keys n r [] [] a h e = (h, e, tt)
AreNumbers-push keys n r [] (s ∷ rows) a h e = absurd a
AreNumbers-push keys n r (m ∷ ns) [] a h e = absurd a
AreNumbers-push keys n r (m ∷ ns) (s ∷ rows) a h e = (a.0, a.1, AreNumbers-push keys n r ns rows a.2 h e)

-- a row whose key is there
known_count : (old mid rows : List Key) (k r : Key) (b : Bool) → is_same_row k r ≡ b → 0 < times r mid → times k mid ≡ min 1 (times k old + times k rows) → times k mid ≡ min 1 (times k old + (times k rows + cond b 1 0))
known_count old mid rows k r true e some each = let there : times k mid ≡ times r mid = ap (λ (j : Key). times j mid) ((is_same_row-Decides k r).0 e) in omega (arith, there, each)
known_count old mid rows k r false e some each = omega (arith, each)

pub Numbers-known : (old mid : List Key) (ns : List ℕ) (rows : List Key) (n : ℕ) (r : Key) → Numbers old mid ns rows → n < length mid → row_at mid n ≡ r → 0 < times r mid → Numbers old mid (ns ++ n ∷ []) (rows ++ r ∷ [])
Numbers-known old mid ns rows n r g h e some = record {
  are = AreNumbers-push mid n r ns rows g.are h e;
  added = g.added;
  whole = g.whole;
  counts = λ k. rw times-push (known_count old mid rows k r (is_same_row k r) refl some (g.counts k));
}

new_count : (old mid rows : List Key) (k r : Key) (b : Bool) → is_same_row k r ≡ b → times r mid ≡ 0 → times k mid ≡ min 1 (times k old + times k rows) → times k mid + cond b 1 0 ≡ min 1 (times k old + (times k rows + cond b 1 0))
new_count old mid rows k r true e none each = let gone : times k mid ≡ 0 = ap (λ (j : Key). times j mid) ((is_same_row-Decides k r).0 e) ∙ none in omega (arith, gone, each)
new_count old mid rows k r false e none each = omega (arith, each)

-- and one whose key comes last
pub Numbers-new : (old mid new : List Key) (ns : List ℕ) (rows : List Key) (n : ℕ) (r : Key) → Numbers old mid ns rows → times r mid ≡ 0 → new ≡ mid ++ r ∷ [] → n < length new → row_at new n ≡ r
    → Numbers old new (ns ++ n ∷ []) (rows ++ r ∷ [])
Numbers-new old mid new ns rows n r g none is h e = record {
  are = AreNumbers-push new n r ns rows (subst (λ (ks : List Key). AreNumbers ks ns rows) (sym is) (AreNumbers-more mid (r ∷ []) ns rows g.are)) h e;
  added = g.added ++ r ∷ [];
  whole = is ∙ ap (λ (ks : List Key). ks ++ r ∷ []) g.whole ∙ append_assoc old g.added (r ∷ []);
  counts = λ k. ap (times k) is ∙ times-push k r mid ∙ new_count old mid rows k r (is_same_row k r) refl none (g.counts k) ∙ ap (λ (m : ℕ). min 1 (times k old + m)) (sym (times-push k r rows));
}

-- a key that stands at a place stands there at least once
pub stands_at : (keys : List Key) (key : Key) (i : ℕ) → i < length keys → row_at keys i ≡ key → 0 < times key keys
stands_at [] key i h e = absurd (omega arith)
stands_at (k ∷ keys) key zero h e = let t = (is_same_row-Decides key k).1 (sym e) in rw t (omega arith)
stands_at (k ∷ keys) key (suc i) h e = let later = stands_at keys key i (omega arith) e in omega (arith, later)

-- one number more
pub Numbers-step : (old mid new : List Key) (ns : List ℕ) (rows : List Key) (n : ℕ) (r : Key) → Numbers old mid ns rows → (new ≡ mid) ⊎ ((times r mid ≡ 0) × (new ≡ mid ++ r ∷ [])) → n < length new → row_at new n ≡ r
    → Numbers old new (ns ++ n ∷ []) (rows ++ r ∷ [])
Numbers-step old mid new ns rows n r g (inl same) h e = rw same (Numbers-known old mid ns rows n r g (rw same at h) (rw same at e) (stands_at mid r n (rw same at h) (rw same at e)))
Numbers-step old mid new ns rows n r g (inr more) h e = Numbers-new old mid new ns rows n r g more.0 more.1 h e

-- one more of the keys that items make
pub take_mapped : {A : Type 0} (f : A → Key) (xs : List A) (i : ℕ) (d : A) → i < length xs → take (i + 1) (map f xs) ≡ take i (map f xs) ++ f (get_or xs i d) ∷ []
take_mapped f xs i d h = take_more (map f xs) i [] (omega (arith, length-map xs f)) ∙ ap (λ (k : Key). take i (map f xs) ++ k ∷ []) (get_or-map f xs i d [] h)
