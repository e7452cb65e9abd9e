-- A place where one of two forms stands, and a token that closes it decides: both are read, and the later place counts.
use Rattle.std.proofs.Common.{◌≡◌, ℕ, ◌≤◌, Bool, true, false, nat_lt, if◌then◌else◌, List, [], ◌∷◌, ◌++◌, ◌⊎◌, inl, inr, length, Ok, Err, refl, sym, ◌∙◌, ap, subst, append_assoc, append-nil, length-append, arith}
use Rattle.std.proofs.lemmas.Bool.Decides.{nat_tests}
use Rattle.kq_read_symbols.specs.Choices.{Right, scalar, table, either, Chosen, combine}
use Rattle.kq_read_symbols.specs.Forms.{Outcome, Parser}
use Rattle.kq_read_symbols.proofs.Forms.{Stops, Alike, Parses, Stuck, Meets}
use Rattle.kq_read_symbols.proofs.Laws.{Exact, nothing, stops_nothing, alike_front}

-- ---- lists

alike_self : {T : Type 0} (r : List T) → Alike r r
alike_self [] = tt
alike_self (t ∷ r) = refl

cancel_front : {T : Type 0} (f r s : List T) → f ++ r ≡ f ++ s → r ≡ s
cancel_front [] r s e = e
cancel_front (t ∷ f) r s e = let e' : f ++ r ≡ f ++ s = cc in cancel_front f r s e'

pub same_length : {T : Type 0} (a b c d : List T) → a ++ c ≡ b ++ d → c ≡ d → length a ≡ length b
same_length a b c d e f = omega (arith, ap length e, ap length f, length-append a c, length-append b d)

pub cancel_back : {T : Type 0} (a b c d : List T) → a ++ c ≡ b ++ d → length a ≡ length b → a ≡ b
cancel_back [] [] c d e n = refl
cancel_back [] (y ∷ b) c d e n = absurd (omega arith)
cancel_back (x ∷ a) [] c d e n = absurd (omega arith)
cancel_back (x ∷ a) (y ∷ b) c d e n =
    let h : x ≡ y = cc in
    let t : a ++ c ≡ b ++ d = cc in
    let r = cancel_back a b c d t (omega arith) in
    (λ i. h i ∷ r i)

longer : {T : Type 0} (f g r s : List T) → f ++ r ≡ g ++ s → length r ≤ length s → (mid : List T) × (f ≡ g ++ mid) × (s ≡ mid ++ r)
longer f [] r s e le = (f, refl, sym e)
longer [] (y ∷ g) r s e le = absurd (omega (arith, ap length e, length-append g s))
longer (x ∷ f) (y ∷ g) r s e le =
    let h : x ≡ y = cc in
    let t : f ++ r ≡ g ++ s = cc in
    let m = longer f g r s t le in
    (m.0, (λ i. h i ∷ m.1 i), m.2)

-- ---- the choice

module _ {T X Y : Type 0} (f : X → List T → Type 0) (g : Y → List T → Type 0) (ends : (x : X) (y : Y) (u v z w : List T) → f x u → g y v → u ++ z ≡ v ++ w → u ≡ v) (decides_f : (u : List T) → ((x : X) × f x u) ⊎ ((x : X) → f x u → ⊥)) (decides_g : (u : List T) → ((y : Y) × g y u) ⊎ ((y : Y) → g y u → ⊥)) (more : T → Bool) where
  both_read : (ts : List T) (x : X) (y : Y) (r s : List T) → Parses f nothing ts x r → Parses g nothing ts y s → Parses (Chosen f g) more ts (either x y) r
  both_read ts x y r s a b =
      let front : a.front ≡ b.front = ends x y a.front b.front r s a.spelled b.spelled (sym a.split ∙ b.split) in
      let rest : r ≡ s = cancel_front a.front r s (sym a.split ∙ b.split ∙ ap (λ l. l ++ s) (sym front)) in
      record {
        front = a.front;
        split = a.split;
        spelled = (a.spelled, subst (g y) (sym front) b.spelled);
        only = only_at front rest;
      } where
        only_at : a.front ≡ b.front → r ≡ s → (w : Right X Y) (u z ahead : List T) → Chosen f g w u → Stops more z → Alike r ahead → u ++ z ≡ a.front ++ ahead → (w ≡ either x y) × (z ≡ ahead)
        only_at front rest (either x' y') u z ahead c stops alike e =
            let p = a.only x' u z ahead c.0 (stops_nothing z) alike e in
            let q = b.only y' u z ahead c.1 (stops_nothing z) (subst (λ l. Alike l ahead) rest alike) (e ∙ ap (λ l. l ++ ahead) front) in
            ((λ i. either (p.0 i) (q.0 i)), p.1)
        only_at front rest (scalar x') u z ahead c stops alike e =
            let p = a.only x' u z ahead c.0 (stops_nothing z) alike e in
            let same : u ≡ a.front = cancel_back u a.front z ahead e (same_length u a.front z ahead e p.1) in
            absurd (c.1 y (subst (g y) (sym (same ∙ front)) b.spelled))
        only_at front rest (table y') u z ahead c stops alike e =
            let q = b.only y' u z ahead c.0 (stops_nothing z) (subst (λ l. Alike l ahead) rest alike) (e ∙ ap (λ l. l ++ ahead) front) in
            let same : u ≡ a.front = cancel_back u a.front z ahead e (same_length u a.front z ahead e q.1) in
            absurd (c.1 x (subst (f x) (sym same) a.spelled))

  scalar_read : (ts : List T) (x : X) (r s : List T) → Parses f nothing ts x r → Stuck g nothing ts s → Parses (Chosen f g) more ts (scalar x) r
  scalar_read ts x r s a b = record {
    front = a.front;
    split = a.split;
    spelled = (a.spelled, λ y h. b.never y a.front r s h (stops_nothing r) (alike_self s) (sym a.split ∙ b.split));
    only = only_at;
  } where
    only_at : (w : Right X Y) (u z ahead : List T) → Chosen f g w u → Stops more z → Alike r ahead → u ++ z ≡ a.front ++ ahead → (w ≡ scalar x) × (z ≡ ahead)
    only_at (scalar x') u z ahead c stops alike e =
        let p = a.only x' u z ahead c.0 (stops_nothing z) alike e in
        (ap (λ v. scalar v) p.0, p.1)
    only_at (either x' y') u z ahead c stops alike e =
        let p = a.only x' u z ahead c.0 (stops_nothing z) alike e in
        let same : u ≡ a.front = cancel_back u a.front z ahead e (same_length u a.front z ahead e p.1) in
        absurd (b.never y' a.front r s (subst (g y') same c.1) (stops_nothing r) (alike_self s) (sym a.split ∙ b.split))
    only_at (table y') u z ahead c stops alike e =
        let same : a.front ≡ u = ends x y' a.front u ahead z a.spelled c.0 (sym e) in
        absurd (c.1 x (subst (f x) same a.spelled))

  later_first : (ts r s : List T) → length r ≤ length s → Stuck f nothing ts r → Stuck g nothing ts s → Stuck (Chosen f g) more ts r
  later_first ts r s le a b =
      let m = longer a.front b.front r s (sym a.split ∙ b.split) le in
      completed_by m (decides_g (a.front ++ a.missing)) where
        never_at : ((mid : List T) × (a.front ≡ b.front ++ mid) × (s ≡ mid ++ r)) → (w : Right X Y) (u z ahead : List T) → Chosen f g w u → Stops more z → Alike r ahead → u ++ z ≡ a.front ++ ahead → ⊥
        never_at m (scalar x') u z ahead c stops alike e = a.never x' u z ahead c.0 (stops_nothing z) alike e
        never_at m (either x' y') u z ahead c stops alike e = a.never x' u z ahead c.0 (stops_nothing z) alike e
        never_at m (table y') u z ahead c stops alike e =
            b.never y' u z (m.0 ++ ahead) c.0 (stops_nothing z) (subst (λ l. Alike l (m.0 ++ ahead)) (sym m.2) (alike_front m.0 r ahead alike)) (e ∙ ap (λ l. l ++ ahead) m.1 ∙ append_assoc b.front m.0 ahead)

        completed_by : ((mid : List T) × (a.front ≡ b.front ++ mid) × (s ≡ mid ++ r)) → ((y : Y) × g y (a.front ++ a.missing)) ⊎ ((y : Y) → g y (a.front ++ a.missing) → ⊥) → Stuck (Chosen f g) more ts r
        completed_by m (inl h) = record { front = a.front; split = a.split; value = either a.value h.0; missing = a.missing; completed = (a.completed, h.1); never = never_at m }
        completed_by m (inr h) = record { front = a.front; split = a.split; value = scalar a.value; missing = a.missing; completed = (a.completed, h); never = never_at m }

  table_read : (ts : List T) (y : Y) (r s : List T) → Stuck f nothing ts r → Parses g nothing ts y s → Parses (Chosen f g) more ts (table y) s
  table_read ts y r s a b = record {
    front = b.front;
    split = b.split;
    spelled = (b.spelled, λ x h. a.never x b.front s r h (stops_nothing s) (alike_self r) (sym b.split ∙ a.split));
    only = only_at;
  } where
    only_at : (w : Right X Y) (u z ahead : List T) → Chosen f g w u → Stops more z → Alike s ahead → u ++ z ≡ b.front ++ ahead → (w ≡ table y) × (z ≡ ahead)
    only_at (table y') u z ahead c stops alike e =
        let p = b.only y' u z ahead c.0 (stops_nothing z) alike e in
        (ap (λ v. table v) p.0, p.1)
    only_at (either x' y') u z ahead c stops alike e =
        let p = b.only y' u z ahead c.1 (stops_nothing z) alike e in
        let same : u ≡ b.front = cancel_back u b.front z ahead e (same_length u b.front z ahead e p.1) in
        absurd (a.never x' b.front s r (subst (f x') same c.0) (stops_nothing s) (alike_self r) (sym b.split ∙ a.split))
    only_at (scalar x') u z ahead c stops alike e =
        let same : u ≡ b.front = ends x' y u b.front z ahead c.0 b.spelled e in
        absurd (c.1 y (subst (g y) (sym same) b.spelled))

  later_second : (ts r s : List T) → length s ≤ length r → Stuck f nothing ts r → Stuck g nothing ts s → Stuck (Chosen f g) more ts s
  later_second ts r s le a b =
      let m = longer b.front a.front s r (sym b.split ∙ a.split) le in
      completed_by m (decides_f (b.front ++ b.missing)) where
        never_at : ((mid : List T) × (b.front ≡ a.front ++ mid) × (r ≡ mid ++ s)) → (w : Right X Y) (u z ahead : List T) → Chosen f g w u → Stops more z → Alike s ahead → u ++ z ≡ b.front ++ ahead → ⊥
        never_at m (table y') u z ahead c stops alike e = b.never y' u z ahead c.0 (stops_nothing z) alike e
        never_at m (either x' y') u z ahead c stops alike e = b.never y' u z ahead c.1 (stops_nothing z) alike e
        never_at m (scalar x') u z ahead c stops alike e =
            a.never x' u z (m.0 ++ ahead) c.0 (stops_nothing z) (subst (λ l. Alike l (m.0 ++ ahead)) (sym m.2) (alike_front m.0 s ahead alike)) (e ∙ ap (λ l. l ++ ahead) m.1 ∙ append_assoc a.front m.0 ahead)

        completed_by : ((mid : List T) × (b.front ≡ a.front ++ mid) × (r ≡ mid ++ s)) → ((x : X) × f x (b.front ++ b.missing)) ⊎ ((x : X) → f x (b.front ++ b.missing) → ⊥) → Stuck (Chosen f g) more ts s
        completed_by m (inl h) = record { front = b.front; split = b.split; value = either h.0 b.value; missing = b.missing; completed = (h.1, b.completed); never = never_at m }
        completed_by m (inr h) = record { front = b.front; split = b.split; value = table b.value; missing = b.missing; completed = (b.completed, h); never = never_at m }

  stuck_both : (ts r s : List T) (t : Bool) → nat_lt (length r) (length s) ≡ t → Stuck f nothing ts r → Stuck g nothing ts s → Meets (Chosen f g) more ts (if t then Err r else Err s)
  stuck_both ts r s true h a b = later_first ts r s (grind (arith, nat_tests)) a b
  stuck_both ts r s false h a b = later_second ts r s (grind (arith, nat_tests)) a b

  pub either_meets : (ts : List T) (o : Outcome T X) (p : Outcome T Y) → Meets f nothing ts o → Meets g nothing ts p → Meets (Chosen f g) more ts (combine o p)
  either_meets ts (Ok x) (Ok y) a b = both_read ts x.0 y.0 x.1 y.1 a b
  either_meets ts (Ok x) (Err s) a b = scalar_read ts x.0 x.1 s a b
  either_meets ts (Err r) (Ok y) a b = table_read ts y.0 r y.1 a b
  either_meets ts (Err r) (Err s) a b = stuck_both ts r s (nat_lt (length r) (length s)) refl a b

-- an exact reader decides what its form spells
decided_at : {T A : Type 0} (form : A → List T → Type 0) (u : List T) (o : Outcome T A) → Meets form nothing u o → ((x : A) × form x u) ⊎ ((x : A) → form x u → ⊥)
decided_at form u (Ok (x, [])) m = inl (x, subst (form x) (sym (m.split ∙ append-nil m.front)) m.spelled)
decided_at form u (Ok (x, t ∷ rest)) m = inr (λ y h. let p = m.only y u [] (t ∷ rest) h tt refl (append-nil u ∙ m.split) in let wrong : [] ≡ t ∷ rest = p.1 in cc)
decided_at form u (Err rest) m = inr (λ y h. m.never y u [] rest h tt (alike_self rest) (append-nil u ∙ m.split))

pub decides : {T A : Type 0} (form : A → List T → Type 0) (p : ℕ → Parser T A) → ((n : ℕ) → Exact form nothing (p n) n) → (u : List T) → ((x : A) × form x u) ⊎ ((x : A) → form x u → ⊥)
decides form p exact u = decided_at form u (p (length u) u) ((exact (length u)).meets u (omega arith))
