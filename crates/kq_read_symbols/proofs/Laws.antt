-- What the readers of forms do, form by form.
use Rattle.std.proofs.Common.{◌≡◌, ℕ, zero, suc, ◌≤◌, ◌+◌, ◌-◌, Bool, true, false, if◌then◌else◌, List, [], ◌∷◌, ◌++◌, ◌⊎◌, inl, inr, length, Ok, Err, Option, Some, None, refl, sym, ◌∙◌, ap, subst, append_assoc, length-append, arith}
use Rattle.kq_read_symbols.specs.Forms.{Outcome, Parser, one, some, ◌⨾◌, Many, Maybe, and_then, pure, starts, expect, bind, both, ◌<$>◌, choose, maybe, many, ◌>>=◌, skip, closed, separated, Separated}
use Rattle.kq_read_symbols.proofs.Forms.{Stops, Alike, Parses, Stuck, Meets, Bind, Then, Image}

pub alike_front : {T : Type 0} (f r s : List T) → Alike r s → Alike (f ++ r) (f ++ s)
alike_front [] r s h = h
alike_front (t ∷ f) r s h = refl

-- a reader of a form does right on all lists of at most n tokens
pub record Exact {T A : Type 0} (form : A → List T → Type 0) (more : T → Bool) (p : Parser T A) (n : ℕ) : Type 0 where
  pub meets : (ts : List T) → length ts ≤ n → Meets form more ts (p ts)

-- some value of a form
pub record Example {T A : Type 0} (form : A → List T → Type 0) : Type 0 where
  pub value : A
  pub text : List T
  pub spelled : form value text

-- what spells the second form, and what may follow it, is not a way to go on with the first
abbrev pub Follows : {T B : Type 0} → (T → Bool) → (B → List T → Type 0) → (T → Bool) → Type 0
Follows {T = T} {B = B} m₁ second m₂ = (y : B) (v z : List T) → second y v → Stops m₂ z → Stops m₁ (v ++ z)

module _ {T A B : Type 0} (first : A → List T → Type 0) (second : A → B → List T → Type 0) (m₁ m₂ : T → Bool) (follows : (x : A) → Follows m₁ (second x) m₂) where
  bind_read : (ts : List T) (x : A) (mid : List T) (y : B) (rest : List T) → Parses first m₁ ts x mid → Parses (second x) m₂ mid y rest → Parses (Bind first second) m₂ ts (x, y) rest
  bind_read ts x mid y rest a b = record {
    front = a.front ++ b.front;
    split = a.split ∙ ap (λ l. a.front ++ l) b.split ∙ sym (append_assoc a.front b.front rest);
    spelled = record { left = a.front; right = b.front; joined = refl; before = a.spelled; after = b.spelled };
    only = λ p u z ahead s stops alike e.
        let e' : s.left ++ (s.right ++ z) ≡ a.front ++ (b.front ++ ahead) = sym (append_assoc s.left s.right z) ∙ ap (λ l. l ++ z) (sym s.joined) ∙ e ∙ append_assoc a.front b.front ahead in
        let alike' : Alike mid (b.front ++ ahead) = subst (λ l. Alike l (b.front ++ ahead)) (sym b.split) (alike_front b.front rest ahead alike) in
        let one_first = a.only p.0 s.left (s.right ++ z) (b.front ++ ahead) s.before (follows p.0 p.1 s.right z s.after stops) alike' e' in
        let one_second = b.only p.1 s.right z ahead (subst (λ w. second w p.1 s.right) one_first.0 s.after) stops alike one_first.1 in
        ((λ i. (one_first.0 i, one_second.0 i)), one_second.1);
  }

  bind_stuck_second : (ts : List T) (x : A) (mid rest : List T) → Parses first m₁ ts x mid → Stuck (second x) m₂ mid rest → Stuck (Bind first second) m₂ ts rest
  bind_stuck_second ts x mid rest a b = record {
    front = a.front ++ b.front;
    split = a.split ∙ ap (λ l. a.front ++ l) b.split ∙ sym (append_assoc a.front b.front rest);
    value = (x, b.value);
    missing = b.missing;
    completed = record { left = a.front; right = b.front ++ b.missing; joined = append_assoc a.front b.front b.missing; before = a.spelled; after = b.completed };
    never = λ p u z ahead s stops alike e.
        let e' : s.left ++ (s.right ++ z) ≡ a.front ++ (b.front ++ ahead) = sym (append_assoc s.left s.right z) ∙ ap (λ l. l ++ z) (sym s.joined) ∙ e ∙ append_assoc a.front b.front ahead in
        let alike' : Alike mid (b.front ++ ahead) = subst (λ l. Alike l (b.front ++ ahead)) (sym b.split) (alike_front b.front rest ahead alike) in
        let one_first = a.only p.0 s.left (s.right ++ z) (b.front ++ ahead) s.before (follows p.0 p.1 s.right z s.after stops) alike' e' in
        b.never p.1 s.right z ahead (subst (λ w. second w p.1 s.right) one_first.0 s.after) stops alike one_first.1;
  }

  bind_stuck_first : (ts rest : List T) → (a : Stuck first m₁ ts rest) → Example (second a.value) → Stuck (Bind first second) m₂ ts rest
  bind_stuck_first ts rest a b = record {
    front = a.front;
    split = a.split;
    value = (a.value, b.value);
    missing = a.missing ++ b.text;
    completed = record { left = a.front ++ a.missing; right = b.text; joined = sym (append_assoc a.front a.missing b.text); before = a.completed; after = b.spelled };
    never = λ p u z ahead s stops alike e.
        let e' : s.left ++ (s.right ++ z) ≡ a.front ++ ahead = sym (append_assoc s.left s.right z) ∙ ap (λ l. l ++ z) (sym s.joined) ∙ e in
        a.never p.0 s.left (s.right ++ z) ahead s.before (follows p.0 p.1 s.right z s.after stops) alike e';
  }

  bind_second : (ts : List T) (x : A) (mid : List T) → Parses first m₁ ts x mid → (out : Outcome T B) → Meets (second x) m₂ mid out → Meets (Bind first second) m₂ ts (and_then out (λ y. pure (x, y)))
  bind_second ts x mid a (Ok p) b = bind_read ts x mid p.0 p.1 a b
  bind_second ts x mid a (Err rest) b = bind_stuck_second ts x mid rest a b

  bind_first : (n k : ℕ) → ((x : A) (u : List T) → first x u → n ≤ length u + k) → (q : A → Parser T B) → ((x : A) → Exact (second x) m₂ (q x) k) → ((x : A) → Example (second x)) → (ts : List T) → length ts ≤ n → (out : Outcome T A) → Meets first m₁ ts out → Meets (Bind first second) m₂ ts (and_then out (λ x. q x >>= (λ y. pure (x, y))))
  bind_first n k takes q exact example ts l (Ok p) a = bind_second ts p.0 p.1 a (q p.0 p.1) ((exact p.0).meets p.1 (omega (arith, takes p.0 a.front a.spelled, ap length a.split, length-append a.front p.1)))
  bind_first n k takes q exact example ts l (Err rest) a = bind_stuck_first ts rest a (example a.value)

  -- the second reads what the first leaves, which may be less
  pub bind_exact : (n k : ℕ) → ((x : A) (u : List T) → first x u → n ≤ length u + k) → (p : Parser T A) (q : A → Parser T B) → Exact first m₁ p n → ((x : A) → Exact (second x) m₂ (q x) k) → ((x : A) → Example (second x)) → Exact (Bind first second) m₂ (bind p q) n
  bind_exact n k takes p q exact₁ exact₂ example = record { meets = λ ts l. bind_first n k takes q exact₂ example ts l (p ts) (exact₁.meets ts l) }

module _ {T A B : Type 0} (first : A → List T → Type 0) (second : B → List T → Type 0) (m₁ m₂ : T → Bool) (follows : Follows m₁ second m₂) where
  pub both_less : (n k : ℕ) → ((x : A) (u : List T) → first x u → n ≤ length u + k) → (p : Parser T A) (q : Parser T B) → Exact first m₁ p n → Exact second m₂ q k → Example second → Exact (Then first second) m₂ (both p q) n
  both_less n k takes p q exact₁ exact₂ example = bind_exact first (λ _. second) m₁ m₂ (λ _. follows) n k takes p (λ _. q) exact₁ (λ _. exact₂) (λ _. example)

  pub both_exact : (n : ℕ) (p : Parser T A) (q : Parser T B) → Exact first m₁ p n → Exact second m₂ q n → Example second → Exact (Then first second) m₂ (both p q) n
  both_exact n p q exact₁ exact₂ example = both_less n n (λ _ u _. omega arith) p q exact₁ exact₂ example

-- ---- a value made of another

module _ {T A B : Type 0} (f : A → B) (form : A → List T → Type 0) (more : T → Bool) where
  image_meets : (ts : List T) (out : Outcome T A) → Meets form more ts out → Meets (Image f form) more ts (and_then out (λ x. pure (f x)))
  image_meets ts (Ok p) a = record {
    front = a.front;
    split = a.split;
    spelled = record { value = p.0; is = refl; spelled = a.spelled };
    only = λ y u z ahead s stops alike e. let o = a.only s.value u z ahead s.spelled stops alike e in (s.is ∙ ap f o.0, o.1);
  }
  image_meets ts (Err rest) a = record {
    front = a.front;
    split = a.split;
    value = f a.value;
    missing = a.missing;
    completed = record { value = a.value; is = refl; spelled = a.completed };
    never = λ y u z ahead s stops alike e. a.never s.value u z ahead s.spelled stops alike e;
  }

  pub image_exact : (n : ℕ) (p : Parser T A) → Exact form more p n → Exact (Image f form) more (f <$> p) n
  image_exact n p exact = record { meets = λ ts l. image_meets ts (p ts) (exact.meets ts l) }

-- ---- another spelling of the same form

module _ {T A : Type 0} (form other : A → List T → Type 0) (more : T → Bool) (to : (y : A) (u : List T) → form y u → other y u) (from : (y : A) (u : List T) → other y u → form y u) where
  same_meets : (ts : List T) (out : Outcome T A) → Meets form more ts out → Meets other more ts out
  same_meets ts (Ok p) a = record {
    front = a.front;
    split = a.split;
    spelled = to p.0 a.front a.spelled;
    only = λ y u z ahead s stops alike e. a.only y u z ahead (from y u s) stops alike e;
  }
  same_meets ts (Err rest) a = record {
    front = a.front;
    split = a.split;
    value = a.value;
    missing = a.missing;
    completed = to a.value (a.front ++ a.missing) a.completed;
    never = λ y u z ahead s stops alike e. a.never y u z ahead (from y u s) stops alike e;
  }

  pub same_exact : (n : ℕ) (p : Parser T A) → Exact form more p n → Exact other more p n
  same_exact n p exact = record { meets = λ ts l. same_meets ts (p ts) (exact.meets ts l) }

-- more tokens that it may go on with
module _ {T A : Type 0} (form : A → List T → Type 0) (m₁ m₂ : T → Bool) (within : (t : T) → m₂ t ≡ false → m₁ t ≡ false) where
  pub stops_within : (z : List T) → Stops m₂ z → Stops m₁ z
  stops_within [] h = tt
  stops_within (t ∷ z) h = within t h

  wider_meets : (ts : List T) (out : Outcome T A) → Meets form m₁ ts out → Meets form m₂ ts out
  wider_meets ts (Ok p) a = record {
    front = a.front;
    split = a.split;
    spelled = a.spelled;
    only = λ y u z ahead s stops alike e. a.only y u z ahead s (stops_within z stops) alike e;
  }
  wider_meets ts (Err rest) a = record {
    front = a.front;
    split = a.split;
    value = a.value;
    missing = a.missing;
    completed = a.completed;
    never = λ y u z ahead s stops alike e. a.never y u z ahead s (stops_within z stops) alike e;
  }

  pub wider_exact : (n : ℕ) (p : Parser T A) → Exact form m₁ p n → Exact form m₂ p n
  wider_exact n p exact = record { meets = λ ts l. wider_meets ts (p ts) (exact.meets ts l) }

-- ---- nothing

pub pure_exact : {T A : Type 0} (x : A) (form : A → List T → Type 0) (more : T → Bool) → form x [] → ((y : A) (u : List T) → form y u → (y ≡ x) × (u ≡ [])) → (n : ℕ) → Exact form more (pure x) n
pure_exact x form more here only_here n = record {
  meets = λ ts l. record {
    front = [];
    split = refl;
    spelled = here;
    only = λ y u z ahead s stops alike e. let o = only_here y u s in (o.0, ap (λ v. v ++ z) (sym o.1) ∙ e);
  };
}

-- ---- one token

module _ {T : Type 0} (is : T → Bool) (t₀ : T) (is_t₀ : is t₀ ≡ true) (more : T → Bool) where
  one_never_end : (y : T) (u z ahead : List T) → one is y u → Alike [] ahead → u ++ z ≡ ahead → ⊥
  one_never_end y u z [] s alike e = let e' : (y ∷ []) ++ z ≡ [] = ap (λ l. l ++ z) (sym s.1) ∙ e in cc
  one_never_end y u z (a ∷ more_ahead) s alike e = alike

  one_never : (t : T) (ts : List T) → is t ≡ false → (y : T) (u z ahead : List T) → one is y u → Alike (t ∷ ts) ahead → u ++ z ≡ ahead → ⊥
  one_never t ts isnt y u z [] s alike e = alike
  one_never t ts isnt y u z (a ∷ more_ahead) s alike e =
      let e' : y ∷ z ≡ a ∷ more_ahead = ap (λ l. l ++ z) (sym s.1) ∙ e in
      let same : y ≡ t = cc in
      let truth : is t ≡ true = ap is (sym same) ∙ s.0 in
      cc

  expect_meets : (t : T) (ts : List T) (b : Bool) → is t ≡ b → Meets (one is) more (t ∷ ts) (if b then Ok (t, ts) else Err (t ∷ ts))
  expect_meets t ts true h = record {
    front = t ∷ [];
    split = refl;
    spelled = (h, refl);
    only = λ y u z ahead s stops alike e.
        let e' : y ∷ z ≡ t ∷ ahead = ap (λ l. l ++ z) (sym s.1) ∙ e in
        let same : y ≡ t = cc in
        let rest : z ≡ ahead = cc in
        (same, rest);
  }
  expect_meets t ts false h = record {
    front = [];
    split = refl;
    value = t₀;
    missing = t₀ ∷ [];
    completed = (is_t₀, refl);
    never = λ y u z ahead s stops alike e. one_never t ts h y u z ahead s alike e;
  }

  one_meets : (ts : List T) → Meets (one is) more ts (expect is ts)
  one_meets [] = record {
    front = [];
    split = refl;
    value = t₀;
    missing = t₀ ∷ [];
    completed = (is_t₀, refl);
    never = λ y u z ahead s stops alike e. one_never_end y u z ahead s alike e;
  }
  one_meets (t ∷ ts) = expect_meets t ts (is t) refl

  pub one_exact : (n : ℕ) → Exact (one is) more (expect is) n
  one_exact n = record { meets = λ ts l. one_meets ts }

-- ---- a choice by the token ahead

starts_alike : {T : Type 0} (is : T → Bool) (f r s : List T) → Alike r s → starts is (f ++ s) ≡ starts is (f ++ r)
starts_alike is [] [] [] h = refl
starts_alike is [] [] (x ∷ s) h = absurd h
starts_alike is [] (x ∷ r) [] h = absurd h
starts_alike is [] (x ∷ r) (y ∷ s) h = ap is (sym h)
starts_alike is (x ∷ f) r s h = refl

-- all that spells the form, and what may follow it, starts so
abbrev pub Leads : {T A : Type 0} → (T → Bool) → Bool → (A → List T → Type 0) → (T → Bool) → Type 0
Leads {T = T} {A = A} is b form more = (y : A) (u z : List T) → form y u → Stops more z → starts is (u ++ z) ≡ b

module _ {T A : Type 0} (is : T → Bool) (left right form : A → List T → Type 0) (more : T → Bool) (from_left : (y : A) (u : List T) → left y u → form y u) (from_right : (y : A) (u : List T) → right y u → form y u) (cases : (y : A) (u : List T) → form y u → left y u ⊎ (right y u × ((z : List T) → Stops more z → starts is (u ++ z) ≡ false))) (leads : Leads is true left more) where
  clash : (b c : Bool) (ts front rest u z ahead : List T) → ts ≡ front ++ rest → Alike rest ahead → u ++ z ≡ front ++ ahead → starts is ts ≡ b → starts is (u ++ z) ≡ c → c ≡ b
  clash b c ts front rest u z ahead split alike e at_ts at_u = sym at_u ∙ ap (starts is) e ∙ starts_alike is front rest ahead alike ∙ ap (starts is) (sym split) ∙ at_ts

  pub choose_left : (ts : List T) → starts is ts ≡ true → (out : Outcome T A) → Meets left more ts out → Meets form more ts out
  choose_left ts h (Ok p) a = record {
    front = a.front;
    split = a.split;
    spelled = from_left p.0 a.front a.spelled;
    only = λ y u z ahead s stops alike e. elim (cases y u s) [
      | inl l ↦ a.only y u z ahead l stops alike e
      | inr r ↦ let no = clash true false ts a.front p.1 u z ahead a.split alike e h (r.1 z stops) in cc
    ];
  }
  choose_left ts h (Err rest) a = record {
    front = a.front;
    split = a.split;
    value = a.value;
    missing = a.missing;
    completed = from_left a.value (a.front ++ a.missing) a.completed;
    never = λ y u z ahead s stops alike e. elim (cases y u s) [
      | inl l ↦ a.never y u z ahead l stops alike e
      | inr r ↦ let no = clash true false ts a.front rest u z ahead a.split alike e h (r.1 z stops) in cc
    ];
  }

  pub choose_right : (ts : List T) → starts is ts ≡ false → (out : Outcome T A) → Meets right more ts out → Meets form more ts out
  choose_right ts h (Ok p) a = record {
    front = a.front;
    split = a.split;
    spelled = from_right p.0 a.front a.spelled;
    only = λ y u z ahead s stops alike e. elim (cases y u s) [
      | inl l ↦ let no = clash false true ts a.front p.1 u z ahead a.split alike e h (leads y u z l stops) in cc
      | inr r ↦ a.only y u z ahead r.0 stops alike e
    ];
  }
  choose_right ts h (Err rest) a = record {
    front = a.front;
    split = a.split;
    value = a.value;
    missing = a.missing;
    completed = from_right a.value (a.front ++ a.missing) a.completed;
    never = λ y u z ahead s stops alike e. elim (cases y u s) [
      | inl l ↦ let no = clash false true ts a.front rest u z ahead a.split alike e h (leads y u z l stops) in cc
      | inr r ↦ a.never y u z ahead r.0 stops alike e
    ];
  }

  choose_meets : (p q : Parser T A) (ts : List T) (b : Bool) → starts is ts ≡ b → Meets left more ts (p ts) → Meets right more ts (q ts) → Meets form more ts (if b then p ts else q ts)
  choose_meets p q ts true h a b = choose_left ts h (p ts) a
  choose_meets p q ts false h a b = choose_right ts h (q ts) b

  -- the second reader may be exact for more than it is asked for
  pub choose_first_exact : (n : ℕ) (p q : Parser T A) → Exact left more p n → Exact right more q n → Exact form more (choose is p q) n
  choose_first_exact n p q a b = record { meets = λ ts l. choose_meets p q ts (starts is ts) refl (a.meets ts l) (b.meets ts l) }

module _ {T A : Type 0} (is : T → Bool) (left right form : A → List T → Type 0) (more : T → Bool) (from_left : (y : A) (u : List T) → left y u → form y u) (from_right : (y : A) (u : List T) → right y u → form y u) (cases : (y : A) (u : List T) → form y u → left y u ⊎ right y u) (leads : Leads is true left more) (others : Leads is false right more) where
  pub apart_cases : (y : A) (u : List T) → form y u → left y u ⊎ (right y u × ((z : List T) → Stops more z → starts is (u ++ z) ≡ false))
  apart_cases y u s = elim (cases y u s) [ inl l ↦ inl l | inr r ↦ inr (r, λ z stops. others y u z r stops) ]

  pub choose_exact : (n : ℕ) (p q : Parser T A) → Exact left more p n → Exact right more q n → Exact form more (choose is p q) n
  choose_exact = choose_first_exact is left right form more from_left from_right apart_cases leads

-- ---- many

pub exact_down : {T A : Type 0} (form : A → List T → Type 0) (more : T → Bool) (p : Parser T A) (n k : ℕ) → k ≤ n → Exact form more p n → Exact form more p k
exact_down form more p n k le exact = record { meets = λ ts l. exact.meets ts (omega arith) }

pub starts_stops : {T : Type 0} (is more : T → Bool) (within : (t : T) → more t ≡ false → is t ≡ false) (z : List T) → Stops more z → starts is z ≡ false
starts_stops is more within [] h = refl
starts_stops is more within (t ∷ z) h = within t h

pub stops_starts : {T : Type 0} (is more : T → Bool) (apart : (t : T) → is t ≡ true → more t ≡ false) (z : List T) → starts is z ≡ true → Stops more z
stops_starts is more apart [] h = tt
stops_starts is more apart (t ∷ z) h = apart t h

starts_length : {T : Type 0} (is : T → Bool) (u : List T) → starts is (u ++ []) ≡ true → 1 ≤ length u
starts_length is [] h = let no : false ≡ true = h in cc
starts_length is (t ∷ u) h = omega arith

module _ {T A : Type 0} (form : A → List T → Type 0) (is m more : T → Bool) (leads : (x : A) (u z : List T) → form x u → starts is (u ++ z) ≡ true) (apart : (t : T) → is t ≡ true → m t ≡ false) (within : (t : T) → more t ≡ false → m t ≡ false) (stops_at : (t : T) → more t ≡ false → is t ≡ false) where
  one_more : List A → List T → Type 0
  one_more = Image (λ (xs : A × List A). xs.0 ∷ xs.1) (Then form (Many form))

  no_more : List A → List T → Type 0
  no_more xs u = (xs ≡ []) × (u ≡ [])

  pub many_follows : Follows m (Many form) more
  many_follows [] v z s stops = subst (λ l. Stops m (l ++ z)) (sym s) (stops_within form m more within z stops)
  many_follows (x ∷ xs) v z s stops =
      stops_starts is m apart (v ++ z) (ap (λ l. starts is (l ++ z)) s.2 ∙ ap (starts is) (append_assoc s.0 s.1 z) ∙ leads x s.0 (s.1 ++ z) s.3)

  from_one_more : (xs : List A) (u : List T) → one_more xs u → Many form xs u
  unfolding one_more
  from_one_more xs u s = subst (λ l. Many form l u) (sym s.is) (s.spelled.left, s.spelled.right, s.spelled.joined, s.spelled.before, s.spelled.after)

  from_no_more : (xs : List A) (u : List T) → no_more xs u → Many form xs u
  unfolding no_more
  from_no_more xs u s = subst (λ l. Many form l u) (sym s.0) s.1

  many_cases : (xs : List A) (u : List T) → Many form xs u → one_more xs u ⊎ no_more xs u
  unfolding one_more no_more
  many_cases [] u s = inr (refl, s)
  many_cases (x ∷ xs) u s = inl (record { value = (x, xs); is = refl; spelled = record { left = s.0; right = s.1; joined = s.2; before = s.3; after = s.4 } })

  one_more_leads : Leads is true one_more more
  unfolding one_more
  one_more_leads xs u z s stops = ap (λ l. starts is (l ++ z)) s.spelled.joined ∙ ap (starts is) (append_assoc s.spelled.left s.spelled.right z) ∙ leads s.value.0 s.spelled.left (s.spelled.right ++ z) s.spelled.before

  no_more_leads : Leads is false no_more more
  unfolding no_more
  no_more_leads xs u z s stops = ap (λ l. starts is (l ++ z)) s.1 ∙ starts_stops is more stops_at z stops

  many_end : (y : List A) (u z ahead : List T) → Many form y u → Alike [] ahead → u ++ z ≡ ahead → (y ≡ []) × (z ≡ ahead)
  many_end [] u z ahead s alike e = (refl, ap (λ l. l ++ z) (sym s) ∙ e)
  many_end (x ∷ xs) u z (a ∷ ahead) s alike e = absurd alike
  many_end (x ∷ xs) u z [] s alike e =
      let lead : starts is (u ++ z) ≡ true = ap (λ l. starts is (l ++ z)) s.2 ∙ ap (starts is) (append_assoc s.0 s.1 z) ∙ leads x s.0 (s.1 ++ z) s.3 in
      let no : false ≡ true = sym (ap (starts is) e) ∙ lead in
      cc

  many_at_end : (ts : List T) → length ts ≤ 0 → Parses (Many form) more ts [] ts
  many_at_end [] l = record { front = []; split = refl; spelled = refl; only = λ y u z ahead s stops alike e. many_end y u z ahead s alike e }
  many_at_end (t ∷ ts) l = absurd (omega arith)

  -- the number of turns is at least that of the tokens
  pub many_exact : (f n : ℕ) → n ≤ f → (p : Parser T A) → Exact form m p n → Exact (Many form) more (many is p f) n
  unfolding one_more no_more
  many_exact zero n le p exact = record { meets = λ ts l. many_at_end ts (omega arith) }
  many_exact (suc f) n le p exact =
      choose_exact is one_more no_more (Many form) more from_one_more from_no_more many_cases one_more_leads no_more_leads n
      ((λ (xs : A × List A). xs.0 ∷ xs.1) <$> both p (many is p f))
      (pure [])
      (image_exact (λ (xs : A × List A). xs.0 ∷ xs.1) (Then form (Many form)) more n (both p (many is p f))
      (both_less form (Many form) m more many_follows n (n - 1) (λ x u s. let one_at_least = starts_length is u (leads x u [] s) in omega arith) p (many is p f) exact
      (many_exact f (n - 1) (omega arith) p (exact_down form m p n (n - 1) (omega arith) exact))
      (record { value = []; text = []; spelled = refl })))
      (pure_exact [] no_more more (refl, refl) (λ y u s. s) n)

-- ---- maybe

module _ {T A : Type 0} (form : A → List T → Type 0) (is more : T → Bool) (leads : Leads is true form more) (stops_at : (t : T) → more t ≡ false → is t ≡ false) where
  absent : Option A → List T → Type 0
  absent o u = (o ≡ None) × (u ≡ [])

  from_present : (o : Option A) (u : List T) → Image Some form o u → Maybe form o u
  from_present o u s = subst (λ w. Maybe form w u) (sym s.is) s.spelled

  from_absent : (o : Option A) (u : List T) → absent o u → Maybe form o u
  unfolding absent
  from_absent o u s = subst (λ w. Maybe form w u) (sym s.0) s.1

  maybe_cases : (o : Option A) (u : List T) → Maybe form o u → Image Some form o u ⊎ absent o u
  unfolding absent
  maybe_cases None u s = inr (refl, s)
  maybe_cases (Some x) u s = inl (record { value = x; is = refl; spelled = s })

  pub maybe_exact : (n : ℕ) (p : Parser T A) → Exact form more p n → Exact (Maybe form) more (maybe is p) n
  unfolding absent
  maybe_exact n p exact =
      choose_exact is (Image Some form) absent (Maybe form) more from_present from_absent maybe_cases (λ o u z s stops. leads s.value u z s.spelled stops) (λ o u z s stops. ap (λ l. starts is (l ++ z)) s.1 ∙ starts_stops is more stops_at z stops) n (Some <$> p) (pure None)
      (image_exact Some form more n p exact)
      (pure_exact None absent more (refl, refl) (λ o u s. s) n)

  pub maybe_follows : (m : T → Bool) → ((t : T) → is t ≡ true → m t ≡ false) → ((t : T) → more t ≡ false → m t ≡ false) → Follows m (Maybe form) more
  maybe_follows m apart within None v z s stops = subst (λ l. Stops m (l ++ z)) (sym s) (stops_within form m more within z stops)
  maybe_follows m apart within (Some x) v z s stops = stops_starts is m apart (v ++ z) (leads x v z s stops)

-- ---- tokens that the value does not keep

abbrev pub nothing : {T : Type 0} → T → Bool
nothing t = false

pub stops_nothing : {T : Type 0} (z : List T) → Stops nothing z
stops_nothing [] = tt
stops_nothing (t ∷ z) = refl

module _ {T A : Type 0} (is : T → Bool) (t₀ : T) (is_t₀ : is t₀ ≡ true) (form : A → List T → Type 0) (m : T → Bool) where
  skipped : A → List T → Type 0
  skipped = Image (λ (x : T × A). x.1) (Then (one is) form)

  to_skip : (y : A) (u : List T) → skipped y u → ◌⨾◌ (some is) (form y) u
  unfolding skipped
  to_skip y u s = record { left = s.spelled.left; right = s.spelled.right; joined = s.spelled.joined; before = (s.value.0, s.spelled.before); after = subst (λ w. form w s.spelled.right) (sym s.is) s.spelled.after }

  from_skip : (y : A) (u : List T) → ◌⨾◌ (some is) (form y) u → skipped y u
  unfolding skipped
  from_skip y u s = record { value = (s.before.0, y); is = refl; spelled = record { left = s.left; right = s.right; joined = s.joined; before = s.before.1; after = s.after } }

  pub skip_exact : (n k : ℕ) → n ≤ suc k → (q : Parser T A) → Exact form m q k → Example form → Exact (λ y. ◌⨾◌ (some is) (form y)) m (skip is q) n
  unfolding skipped
  skip_exact n k le q exact example =
      same_exact skipped (λ y. ◌⨾◌ (some is) (form y)) m to_skip from_skip n (skip is q)
      (image_exact (λ (x : T × A). x.1) (Then (one is) form) m n (both (expect is) q)
      (both_less (one is) form nothing m (λ y v z s stops. stops_nothing (v ++ z)) n k (λ t u s. omega (arith, ap length s.1)) (expect is) q (one_exact is t₀ is_t₀ nothing n) exact example))

  -- such a text starts with the token
  pub skip_leads : (y : A) (u z : List T) → ◌⨾◌ (some is) (form y) u → starts is (u ++ z) ≡ true
  skip_leads y u z s = ap (λ l. starts is (l ++ z)) (s.joined ∙ ap (λ l. l ++ s.right) s.before.1.1) ∙ s.before.1.0

  pub skip_example : Example form → Example (λ y. ◌⨾◌ (some is) (form y))
  skip_example e = record { value = e.value; text = t₀ ∷ e.text; spelled = record { left = t₀ ∷ []; right = e.text; joined = refl; before = (t₀, (is_t₀, refl)); after = e.spelled } }

  closing : A → List T → Type 0
  closing = Image (λ (x : A × T). x.0) (Then form (one is))

  to_closed : (y : A) (u : List T) → closing y u → ◌⨾◌ (form y) (some is) u
  unfolding closing
  to_closed y u s = record { left = s.spelled.left; right = s.spelled.right; joined = s.spelled.joined; before = subst (λ w. form w s.spelled.left) (sym s.is) s.spelled.before; after = (s.value.1, s.spelled.after) }

  from_closed : (y : A) (u : List T) → ◌⨾◌ (form y) (some is) u → closing y u
  unfolding closing
  from_closed y u s = record { value = (y, s.after.0); is = refl; spelled = record { left = s.left; right = s.right; joined = s.joined; before = s.before; after = s.after.1 } }

  one_follows : (more : T → Bool) → ((t : T) → is t ≡ true → m t ≡ false) → Follows m (one is) more
  one_follows more apart y v z s stops = subst (λ l. Stops m (l ++ z)) (sym s.1) (apart y s.0)

  pub closed_exact : (more : T → Bool) → ((t : T) → is t ≡ true → m t ≡ false) → (n : ℕ) (q : Parser T A) → Exact form m q n → Exact (λ y. ◌⨾◌ (form y) (some is)) more (closed q is) n
  unfolding closing
  closed_exact more apart n q exact =
      same_exact closing (λ y. ◌⨾◌ (form y) (some is)) more to_closed from_closed n (closed q is)
      (image_exact (λ (x : A × T). x.0) (Then form (one is)) more n (both q (expect is))
      (both_exact form (one is) m more (one_follows more apart) n q (expect is) exact (one_exact is t₀ is_t₀ more n) (record { value = t₀; text = t₀ ∷ []; spelled = (is_t₀, refl) })))

  pub closed_example : Example form → Example (λ y. ◌⨾◌ (form y) (some is))
  closed_example e = record { value = e.value; text = e.text ++ t₀ ∷ []; spelled = record { left = e.text; right = t₀ ∷ []; joined = refl; before = e.spelled; after = (t₀, (is_t₀, refl)) } }

  pub separated_exact : (more : T → Bool) → ((t : T) → is t ≡ true → m t ≡ false) → ((t : T) → more t ≡ false → m t ≡ false) → ((t : T) → more t ≡ false → is t ≡ false) → (f n : ℕ) → n ≤ f → (q : Parser T A) → Exact form m q n → Example form → Exact (Separated is form) more (separated is q f) n
  separated_exact more apart within stops_at f n le q exact example =
      both_exact form (Many (λ y. ◌⨾◌ (some is) (form y))) m more (many_follows (λ y. ◌⨾◌ (some is) (form y)) is m more skip_leads apart within stops_at) n q (many is (skip is q) f) exact
      (many_exact (λ y. ◌⨾◌ (some is) (form y)) is m more skip_leads apart within stops_at f n le (skip is q) (skip_exact n n (omega arith) q exact example))
      (record { value = []; text = []; spelled = refl })
