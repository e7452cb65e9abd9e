-- The strings of an array, one by one.
use Rattle.std.proofs.Common.{◌≡◌, ◌<◌, ◌≤◌, ℕ, zero, suc, ◌+◌, List, [], ◌∷◌, ◌++◌, length, get_or, take, Option, Some, None, refl, sym, ap, ◌∙◌, arith}
use Rattle.std.specs.Option.{option_map, option_and_then}
use Rattle.std.proofs.lemmas.List.{take_all, take_more}
use Rattle.serde_json.specs.Find.{as_str}
use Rattle.serde_json.specs.View.{view, items_view}
use Rattle.serde_json.specs.declared.value.Value.{Value}
use Rattle.kq_store_ingest.specs.TagTexts.{strings_of}

one_more : (value first : Value) (rest : List Value) (text : List ℕ) (texts : List (List ℕ)) (o : Option (List ℕ)) (os : Option (List (List ℕ)))
    → as_str (view first) ≡ o → strings_of (items_view rest) ≡ os → option_and_then (λ t. option_map (λ ts. t ∷ ts) os) o ≡ Some texts
    → ((ts : List (List ℕ)) → strings_of (items_view rest) ≡ Some ts → strings_of (items_view (rest ++ value ∷ [])) ≡ Some (ts ++ text ∷ []))
    → strings_of (items_view (first ∷ rest ++ value ∷ [])) ≡ Some (texts ++ text ∷ [])
one_more value first rest text texts (Some t) (Some ts) f g k more = let all : texts ≡ t ∷ ts = cc in rw (f, all, more ts g) refl
one_more value first rest text texts (Some t) None f g k more = cc
one_more value first rest text texts None os f g k more = cc

strings_of-push : (values : List Value) (value : Value) (texts : List (List ℕ)) (text : List ℕ) → strings_of (items_view values) ≡ Some texts → as_str (view value) ≡ Some text
    → strings_of (items_view (values ++ value ∷ [])) ≡ Some (texts ++ text ∷ [])
strings_of-push [] value texts text h e = let none : texts ≡ [] = cc in rw (none, e) refl
strings_of-push (v ∷ vs) value texts text h e =
    one_more value v vs text texts (as_str (view v)) (strings_of (items_view vs)) refl refl h (λ ts g. strings_of-push vs value ts text g e)

no_string : (values : List Value) (i : ℕ) (d : Value) → i < length values → as_str (view (get_or values i d)) ≡ None → strings_of (items_view values) ≡ None
no_string [] i d lt e = absurd (omega arith)
no_string (v ∷ vs) zero d lt e = rw e refl
no_string (v ∷ vs) (suc i) d lt e = rw (no_string vs i d (omega arith) e) (none (as_str (view v)))
  where
    none : (o : Option (List ℕ)) → option_and_then (λ t. option_map (λ ts. t ∷ ts) None) o ≡ None
    none (Some t) = refl
    none None = refl

pub strings_of-missing : (values : List Value) (i : ℕ) (value : Value) → i < length values → value ≡ get_or values i value → None ≡ as_str (view value) → None ≡ strings_of (items_view values)
strings_of-missing values i value lt is e = sym (no_string values i value lt (ap (λ v. as_str (view v)) (sym is) ∙ sym e))

pub strings_of-more : (values : List Value) (i : ℕ) (value : Value) (texts : List (List ℕ)) (text : List ℕ) → i < length values → value ≡ get_or values i value → Some text ≡ as_str (view value)
    → strings_of (items_view (take i values)) ≡ Some texts → strings_of (items_view (take (i + 1) values)) ≡ Some (texts ++ text ∷ [])
strings_of-more values i value texts text lt is e h =
    let more : take (i + 1) values ≡ take i values ++ value ∷ [] = take_more values i value lt ∙ ap (λ x. take i values ++ x ∷ []) (sym is) in
    rw more (strings_of-push (take i values) value texts text h (sym e))

pub strings_of-whole : (values : List Value) (i : ℕ) (texts : List (List ℕ)) → length values ≤ i → strings_of (items_view (take i values)) ≡ Some texts → Some texts ≡ strings_of (items_view values)
strings_of-whole values i texts all h = sym h ∙ ap (λ vs. strings_of (items_view vs)) (take_all i values all)
