-- Texts that are kept once, in the order of first appearance.
use Rattle.std.proofs.Common.{◌≡◌, ◌<◌, ℕ, ◌+◌, ◌||◌, Bool, true, false, not, cond, List, [], ◌∷◌, ◌++◌, length, get_or, map, take, append-nil, Bor, refl, sym, ap, ◌∙◌, subst}
use Rattle.std.specs.Prelude.{filter}
use Rattle.std.specs.List.{list_any}
use Rattle.std.specs.Str.{bytes_eq}
use Rattle.std.proofs.lemmas.List.{map_push, take_more}
use Rattle.std.proofs.lemmas.List.Elements.{filter-append}
use Rattle.std.proofs.lemmas.Slice.Eq.{bytes_eq-Decides}
use Rattle.indexmap.specs.IndexSet.{insert_key}
use Rattle.kq_value_text_sets.specs.EachOnce.{each_once}

no_flag : true ≡ false → ⊥
no_flag e = cc

other_way : (text other : List ℕ) → bytes_eq other text ≡ false → bytes_eq text other ≡ false
other_way text other e = by (bytes_eq text other) refl
  where
    by : (same : Bool) → bytes_eq text other ≡ same → bytes_eq text other ≡ false
    by false f = f
    by true f = absurd (no_flag (sym ((bytes_eq-Decides other text).1 (sym ((bytes_eq-Decides text other).0 f))) ∙ e))

differs : (text other t : List ℕ) → bytes_eq other text ≡ false → bytes_eq other t ≡ true → bytes_eq text t ≡ false
differs text other t e f = subst (λ x. bytes_eq text x ≡ false) ((bytes_eq-Decides other t).0 f) (other_way text other e)

kept_by : (text other t : List ℕ) (ts : List (List ℕ)) (same : Bool) → bytes_eq other t ≡ same → bytes_eq other text ≡ false
    → list_any (bytes_eq text) (filter (λ t. not (bytes_eq other t)) ts) ≡ list_any (bytes_eq text) ts
    → list_any (bytes_eq text) (filter (λ t. not (bytes_eq other t)) (t ∷ ts)) ≡ list_any (bytes_eq text) (t ∷ ts)
kept_by text other t ts false f e h = rw f (ap (λ b. bytes_eq text t || b) h)
kept_by text other t ts true f e h = rw (f, differs text other t e f) h

-- what a filter leaves out is another text
kept_among : (text other : List ℕ) (texts : List (List ℕ)) → bytes_eq other text ≡ false → list_any (bytes_eq text) (filter (λ t. not (bytes_eq other t)) texts) ≡ list_any (bytes_eq text) texts
kept_among text other [] e = refl
kept_among text other (t ∷ ts) e = kept_by text other t ts (bytes_eq other t) refl e (kept_among text other ts e)

filter_one : (text other : List ℕ) (same : Bool) → bytes_eq other text ≡ same → filter (λ t. not (bytes_eq other t)) (text ∷ []) ≡ cond same [] (text ∷ [])
filter_one text other true e = rw e refl
filter_one text other false e = rw e refl

pushed_by : (u text : List ℕ) (once : List (List ℕ)) (same there : Bool) → bytes_eq text u ≡ same → list_any (bytes_eq text) once ≡ there
    → u ∷ filter (λ t. not (bytes_eq u t)) (insert_key bytes_eq once text) ≡ insert_key bytes_eq (u ∷ filter (λ t. not (bytes_eq u t)) once) text
pushed_by u text once true true e f = rw (f, e) refl
pushed_by u text once true false e f =
    let back : bytes_eq u text ≡ true = (bytes_eq-Decides u text).1 (sym ((bytes_eq-Decides text u).0 e)) in
    rw (f, e)
    (ap (λ l. u ∷ l) (filter-append (λ t. not (bytes_eq u t)) once (text ∷ []) ∙ rw (filter_one text u true back) (append-nil (filter (λ t. not (bytes_eq u t)) once))))
pushed_by u text once false true e f = rw (f, e, kept_among text u once (other_way u text e), f) refl
pushed_by u text once false false e f =
    rw (f, e, kept_among text u once (other_way u text e), f)
    (ap (λ l. u ∷ l) (filter-append (λ t. not (bytes_eq u t)) once (text ∷ []) ∙ rw (filter_one text u false (other_way u text e)) refl))

-- a text more goes last, where it isn't there yet
each_once-push : (texts : List (List ℕ)) (text : List ℕ) → each_once (texts ++ text ∷ []) ≡ insert_key bytes_eq (each_once texts) text
each_once-push [] text = refl
each_once-push (u ∷ us) text =
    ap (λ l. u ∷ filter (λ t. not (bytes_eq u t)) l) (each_once-push us text) ∙ pushed_by u text (each_once us) (bytes_eq text u) (list_any (bytes_eq text) (each_once us)) refl refl

-- ---- the texts that were kept

abbrev now_of : Bor (List ℕ) → List ℕ
now_of b = b.now

any-now : (text : List ℕ) (keys : List (Bor (List ℕ))) → list_any (λ (k : Bor (List ℕ)). bytes_eq text k.now) keys ≡ list_any (bytes_eq text) (map now_of keys)
any-now text [] = refl
any-now text (k ∷ ks) = ap (λ b. bytes_eq text k.now || b) (any-now text ks)

insert-now : (keys : List (Bor (List ℕ))) (key : Bor (List ℕ)) → map now_of (insert_key (λ a b. bytes_eq a.now b.now) keys key) ≡ insert_key bytes_eq (map now_of keys) key.now
insert-now keys key = by (list_any (λ (k : Bor (List ℕ)). bytes_eq key.now k.now) keys) refl
  where
    by : (there : Bool) → list_any (λ (k : Bor (List ℕ)). bytes_eq key.now k.now) keys ≡ there → map now_of (insert_key (λ a b. bytes_eq a.now b.now) keys key) ≡ insert_key bytes_eq (map now_of keys) key.now
    by true e = rw (e, sym (any-now key.now keys) ∙ e) refl
    by false e = rw (e, sym (any-now key.now keys) ∙ e) (map_push now_of keys key)

-- these are the texts, each once
pub record AreDistinct (texts : List (List ℕ)) (keys : List (Bor (List ℕ))) : Type 0 where
  pub once : map (λ (k : Bor (List ℕ)). k.now) keys ≡ each_once texts

pub AreDistinct-none : (keys : List (Bor (List ℕ))) → keys ≡ [] → AreDistinct [] keys
AreDistinct-none keys e = record { once = rw e refl }

pub AreDistinct-push : (texts : List (List ℕ)) (i : ℕ) (old new : List (Bor (List ℕ))) (key : Bor (List ℕ)) → i < length texts → key.now ≡ get_or texts i key.now
    → new ≡ insert_key (λ a b. bytes_eq a.now b.now) old key → AreDistinct (take i texts) old → AreDistinct (take (i + 1) texts) new
AreDistinct-push texts i old new key within is e h =
    let more : take (i + 1) texts ≡ take i texts ++ key.now ∷ [] = take_more texts i key.now within ∙ ap (λ (x : List ℕ). take i texts ++ x ∷ []) (sym is) in
    record { once = rw (e, more) (insert-now old key ∙ ap (λ (ks : List (List ℕ)). insert_key bytes_eq ks key.now) h.once ∙ sym (each_once-push (take i texts) key.now)) }
