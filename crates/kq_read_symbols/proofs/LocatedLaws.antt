-- A form whose ends are kept is read as exactly as the form.
use Rattle.std.proofs.Common.{◌≡◌, ℕ, ◌<◌, ◌-◌, Bool, true, false, List, [], ◌∷◌, ◌++◌, inl, inr, length, take, Ok, Err, Some, refl, sym, ◌∙◌, ap, subst, length-append, arith}
use Rattle.std.proofs.Math.Seq.{take-append_seam}
use Rattle.std.proofs.lemmas.Option.{slice_get_cases}
use Rattle.kq_read_symbols.specs.Forms.{Outcome, Parser, starts}
use Rattle.kq_read_symbols.proofs.Forms.{Parses, Meets}
use Rattle.kq_read_symbols.specs.Located.{Located, first_of, last_of, SpellsLocated, located_at, with_place, located}
use Rattle.kq_read_symbols.proofs.Either.{cancel_back, same_length}
use Rattle.kq_read_symbols.proofs.Laws.{Exact, Example}

pub record HasEnds {T : Type 0} (ts : List T) : Type 0 where
  pub first : T
  pub last : T
  pub is_first : first_of ts ≡ Some first
  pub is_last : last_of ts ≡ Some last

last_some : {T : Type 0} (ts : List T) → 0 < length ts → (b : T) × (last_of ts ≡ Some b)
last_some ts some = elim (slice_get_cases ts (length ts - 1)).1 [
  | inl h ↦ (h.0, h.2)
  | inr h ↦ absurd (omega (arith, some, h.0))
]

pub ends_of : {T : Type 0} (is : T → Bool) (ts : List T) → starts is (ts ++ []) ≡ true → HasEnds ts
ends_of is [] h = let no : false ≡ true = h in cc
ends_of is (t ∷ ts) h = let b = last_some (t ∷ ts) (omega arith) in record { first = t; last = b.0; is_first = refl; is_last = b.1 }

module _ {T A : Type 0} (form : A → List T → Type 0) (is more : T → Bool) (leads : (x : A) (u z : List T) → form x u → starts is (u ++ z) ≡ true) where
  same_span : (s t : Located T A) → s.first ≡ t.first → s.last ≡ t.last → s.value ≡ t.value → s ≡ t
  same_span s t a b c = λ i. record { first = a i; last = b i; value = c i }

  same_some : (a b : T) → Some a ≡ Some b → a ≡ b
  same_some a b e = cc

  spanned_read : (ts : List T) (x : A) (rest : List T) (a : Parses form more ts x rest) (e : HasEnds a.front) → Parses (SpellsLocated form) more ts (record { first = e.first; last = e.last; value = x }) rest
  spanned_read ts x rest a e = record {
    front = a.front;
    split = a.split;
    spelled = (a.spelled, e.is_first, e.is_last);
    only = λ y u z ahead s stops alike eq.
        let o = a.only y.value u z ahead s.0 stops alike eq in
        let same : u ≡ a.front = cancel_back u a.front z ahead eq (same_length u a.front z ahead eq o.1) in
        let first = same_some y.first e.first (sym s.1 ∙ ap first_of same ∙ e.is_first) in
        let last = same_some y.last e.last (sym s.2 ∙ ap last_of same ∙ e.is_last) in
        (same_span y (record { first = e.first; last = e.last; value = x }) first last o.0, o.1);
  }

  spanned_at : (ts : List T) (x : A) (rest taken : List T) → (a : Parses form more ts x rest) → (e : HasEnds a.front) → taken ≡ a.front → Meets (SpellsLocated form) more ts (located_at (first_of taken) (last_of taken) x rest)
  spanned_at ts x rest taken a e same =
      let first : first_of taken ≡ Some e.first = ap first_of same ∙ e.is_first in
      let last : last_of taken ≡ Some e.last = ap last_of same ∙ e.is_last in
      subst (λ o. Meets (SpellsLocated form) more ts (located_at o (last_of taken) x rest)) (sym first)
      (subst (λ o. Meets (SpellsLocated form) more ts (located_at (Some e.first) o x rest)) (sym last) (spanned_read ts x rest a e))

  taken_front : (ts front rest : List T) → ts ≡ front ++ rest → take (length ts - length rest) ts ≡ front
  taken_front ts front rest e =
      subst (λ l. take (length l - length rest) l ≡ front) (sym e)
      (let n : length (front ++ rest) - length rest ≡ length front = omega (arith, length-append front rest) in ap (λ m. take m (front ++ rest)) n ∙ take-append_seam front rest)

  spanned_meets : (ts : List T) (out : Outcome T A) → Meets form more ts out → Meets (SpellsLocated form) more ts (with_place ts out)
  spanned_meets ts (Ok p) a = spanned_at ts p.0 p.1 (take (length ts - length p.1) ts) a (ends_of is a.front (leads p.0 a.front [] a.spelled)) (taken_front ts a.front p.1 a.split)
  spanned_meets ts (Err rest) a =
      let e = ends_of is (a.front ++ a.missing) (leads a.value (a.front ++ a.missing) [] a.completed) in
      record {
        front = a.front;
        split = a.split;
        value = record { first = e.first; last = e.last; value = a.value };
        missing = a.missing;
        completed = (a.completed, e.is_first, e.is_last);
        never = λ y u z ahead s stops alike eq. a.never y.value u z ahead s.0 stops alike eq;
      }

  pub spanned_exact : (n : ℕ) (p : Parser T A) → Exact form more p n → Exact (SpellsLocated form) more (located p) n
  spanned_exact n p exact = record { meets = λ ts l. spanned_meets ts (p ts) (exact.meets ts l) }

  pub spanned_example : Example form → Example (SpellsLocated form)
  spanned_example x =
      let e = ends_of is x.text (leads x.value x.text [] x.spelled) in
      record { value = record { first = e.first; last = e.last; value = x.value }; text = x.text; spelled = (x.spelled, e.is_first, e.is_last) }
