-- A choice by a word is exact where each of its arms is.
use Rattle.std.proofs.Common.{◌≡◌, ℕ, Bool, List, [], ◌∷◌, ◌++◌, Option, Some, None, refl, sym, ◌∙◌, ap, subst, arith}
use Rattle.kq_read_symbols.specs.Forms.{Parser, ◌⨾◌, bind}
use Rattle.kq_read_symbols.proofs.Forms.{Alike, Meets, Bind, Image}
use Rattle.kq_read_symbols.specs.Switching.{Marks, expect_mark_at, expect_mark, keyed}
use Rattle.kq_read_symbols.proofs.Switching.{Key, expect_key_at, expect_key, switch, Keyed}
use Rattle.kq_read_symbols.proofs.Laws.{Exact, Example, nothing, stops_nothing, bind_exact, image_exact, same_exact}

module _ {T K : Type 0} (key_of : T → Option K) (t₀ : T) (k₀ : K) (is_t₀ : key_of t₀ ≡ Some k₀) (more : T → Bool) where
  key_never_end : (y : K) (u z ahead : List T) → Key key_of y u → Alike {T = T} [] ahead → u ++ z ≡ ahead → ⊥
  key_never_end y u z [] s alike e = let e' : s.0 ∷ z ≡ [] = ap (λ l. l ++ z) (sym s.2) ∙ e in cc
  key_never_end y u z (a ∷ ahead) s alike e = alike

  key_never : (t : T) (ts : List T) → key_of t ≡ None → (y : K) (u z ahead : List T) → Key key_of y u → Alike (t ∷ ts) ahead → u ++ z ≡ ahead → ⊥
  key_never t ts isnt y u z [] s alike e = alike
  key_never t ts isnt y u z (a ∷ ahead) s alike e =
      let e' : s.0 ∷ z ≡ a ∷ ahead = ap (λ l. l ++ z) (sym s.2) ∙ e in
      let same : s.0 ≡ t = cc in
      let wrong : None ≡ Some y = sym isnt ∙ ap key_of (sym same) ∙ s.1 in
      cc

  expect_key_meets : (t : T) (ts : List T) (o : Option K) → key_of t ≡ o → Meets (Key key_of) more (t ∷ ts) (expect_key_at o t ts)
  expect_key_meets t ts (Some k) h = record {
    front = t ∷ [];
    split = refl;
    spelled = (t, h, refl);
    only = λ y u z ahead s stops alike e.
        let e' : s.0 ∷ z ≡ t ∷ ahead = ap (λ l. l ++ z) (sym s.2) ∙ e in
        let same : s.0 ≡ t = cc in
        let rest : z ≡ ahead = cc in
        let keys : Some y ≡ Some k = sym s.1 ∙ ap key_of same ∙ h in
        let equal : y ≡ k = cc in
        (equal, rest);
  }
  expect_key_meets t ts None h = record {
    front = [];
    split = refl;
    value = k₀;
    missing = t₀ ∷ [];
    completed = (t₀, is_t₀, refl);
    never = λ y u z ahead s stops alike e. key_never t ts h y u z ahead s alike e;
  }

  key_meets : (ts : List T) → Meets (Key key_of) more ts (expect_key key_of ts)
  key_meets [] = record { front = []; split = refl; value = k₀; missing = t₀ ∷ []; completed = (t₀, is_t₀, refl); never = λ y u z ahead s stops alike e. key_never_end y u z ahead s alike e }
  key_meets (t ∷ ts) = expect_key_meets t ts (key_of t) refl

  pub key_exact : (n : ℕ) → Exact (Key key_of) more (expect_key key_of) n
  key_exact n = record { meets = λ ts l. key_meets ts }

module _ {T K A : Type 0} (key_of : T → Option K) (t₀ : T) (k₀ : K) (is_t₀ : key_of t₀ ≡ Some k₀) (key : A → K) (body : A → List T → Type 0) (more : T → Bool) where
  -- what the arm of a key reads
  pub abbrev_body : K → A → List T → Type 0
  abbrev_body k y u = (key y ≡ k) × body y u

  switched : A → List T → Type 0
  switched = Image (λ (p : K × A). p.1) (Bind (Key key_of) abbrev_body)

  to_switched : (y : A) (u : List T) → switched y u → ◌⨾◌ (Key key_of (key y)) (body y) u
  unfolding switched abbrev_body
  to_switched y u s = subst (λ w. ◌⨾◌ (Key key_of (key w)) (body w) u) (sym s.is) (record {
    left = s.spelled.left;
    right = s.spelled.right;
    joined = s.spelled.joined;
    before = subst (λ k. Key key_of k s.spelled.left) (sym s.spelled.after.0) s.spelled.before;
    after = s.spelled.after.1;
  })

  from_switched : (y : A) (u : List T) → ◌⨾◌ (Key key_of (key y)) (body y) u → switched y u
  unfolding switched abbrev_body
  from_switched y u s = record { value = (key y, y); is = refl; spelled = record { left = s.left; right = s.right; joined = s.joined; before = s.before; after = (refl, s.after) } }

  pub switch_exact : (n : ℕ) (arm : K → Parser T A) → ((k : K) → Exact (λ y u. (key y ≡ k) × body y u) more (arm k) n) → ((k : K) → Example (λ (y : A) u. (key y ≡ k) × body y u)) → Exact (λ y. ◌⨾◌ (Key key_of (key y)) (body y)) more (switch key_of arm) n
  unfolding switched abbrev_body
  switch_exact n arm exact example =
      same_exact switched (λ y. ◌⨾◌ (Key key_of (key y)) (body y)) more to_switched from_switched n (switch key_of arm)
      (image_exact (λ (p : K × A). p.1) (Bind (Key key_of) abbrev_body) more n (bind (expect_key key_of) arm)
      (bind_exact (Key key_of) abbrev_body nothing more (λ k y v z s stops. stops_nothing (v ++ z)) n n (λ k u s. omega arith) (expect_key key_of) arm (key_exact key_of t₀ k₀ is_t₀ nothing n) exact example))

-- ---- with the token kept

module _ {T K : Type 0} (key_of : T → Option K) (t₀ : T) (k₀ : K) (is_t₀ : key_of t₀ ≡ Some k₀) (more : T → Bool) where
  mark_never_end : (y : T × K) (u z ahead : List T) → Marks key_of y u → Alike {T = T} [] ahead → u ++ z ≡ ahead → ⊥
  mark_never_end y u z [] s alike e = let e' : y.0 ∷ z ≡ [] = ap (λ l. l ++ z) (sym s.1) ∙ e in cc
  mark_never_end y u z (a ∷ ahead) s alike e = alike

  mark_never : (t : T) (ts : List T) → key_of t ≡ None → (y : T × K) (u z ahead : List T) → Marks key_of y u → Alike (t ∷ ts) ahead → u ++ z ≡ ahead → ⊥
  mark_never t ts isnt y u z [] s alike e = alike
  mark_never t ts isnt y u z (a ∷ ahead) s alike e =
      let e' : y.0 ∷ z ≡ a ∷ ahead = ap (λ l. l ++ z) (sym s.1) ∙ e in
      let same : y.0 ≡ t = cc in
      let wrong : None ≡ Some y.1 = sym isnt ∙ ap key_of (sym same) ∙ s.0 in
      cc

  expect_mark_meets : (t : T) (ts : List T) (o : Option K) → key_of t ≡ o → Meets (Marks key_of) more (t ∷ ts) (expect_mark_at o t ts)
  expect_mark_meets t ts (Some k) h = record {
    front = t ∷ [];
    split = refl;
    spelled = (h, refl);
    only = λ y u z ahead s stops alike e.
        let e' : y.0 ∷ z ≡ t ∷ ahead = ap (λ l. l ++ z) (sym s.1) ∙ e in
        let same : y.0 ≡ t = cc in
        let rest : z ≡ ahead = cc in
        let keys : Some y.1 ≡ Some k = sym s.0 ∙ ap key_of same ∙ h in
        let equal : y.1 ≡ k = cc in
        ((λ i. (same i, equal i)), rest);
  }
  expect_mark_meets t ts None h = record {
    front = [];
    split = refl;
    value = (t₀, k₀);
    missing = t₀ ∷ [];
    completed = (is_t₀, refl);
    never = λ y u z ahead s stops alike e. mark_never t ts h y u z ahead s alike e;
  }

  mark_meets : (ts : List T) → Meets (Marks key_of) more ts (expect_mark key_of ts)
  mark_meets [] = record { front = []; split = refl; value = (t₀, k₀); missing = t₀ ∷ []; completed = (is_t₀, refl); never = λ y u z ahead s stops alike e. mark_never_end y u z ahead s alike e }
  mark_meets (t ∷ ts) = expect_mark_meets t ts (key_of t) refl

  pub mark_exact : (n : ℕ) → Exact (Marks key_of) more (expect_mark key_of) n
  mark_exact n = record { meets = λ ts l. mark_meets ts }

module _ {T K A : Type 0} (key_of : T → Option K) (t₀ : T) (k₀ : K) (is_t₀ : key_of t₀ ≡ Some k₀) (key : A → K) (body : A → List T → Type 0) (more : T → Bool) where
  -- what the arm of a mark reads
  pub marked_body : T × K → A → List T → Type 0
  marked_body m y u = (key y ≡ m.1) × body y u

  marked : T × A → List T → Type 0
  marked = Image (λ (p : (T × K) × A). (p.0.0, p.1)) (Bind (Marks key_of) marked_body)

  to_marked : (y : T × A) (u : List T) → marked y u → Keyed key_of key body y u
  unfolding marked marked_body
  to_marked y u s = subst (λ w. Keyed key_of key body w u) (sym s.is) (record {
    left = s.spelled.left;
    right = s.spelled.right;
    joined = s.spelled.joined;
    before = (s.spelled.before.0 ∙ ap Some (sym s.spelled.after.0), s.spelled.before.1);
    after = s.spelled.after.1;
  })

  from_marked : (y : T × A) (u : List T) → Keyed key_of key body y u → marked y u
  unfolding marked marked_body
  from_marked y u s = record { value = ((y.0, key y.1), y.1); is = refl; spelled = record { left = s.left; right = s.right; joined = s.joined; before = s.before; after = (refl, s.after) } }

  pub keyed_exact : (n : ℕ) (arm : K → Parser T A) → ((k : K) → Exact (λ y u. (key y ≡ k) × body y u) more (arm k) n) → ((k : K) → Example (λ (y : A) u. (key y ≡ k) × body y u)) → Exact (Keyed key_of key body) more (keyed key_of arm) n
  unfolding marked marked_body
  keyed_exact n arm exact example =
      same_exact marked (Keyed key_of key body) more to_marked from_marked n (keyed key_of arm)
      (image_exact (λ (p : (T × K) × A). (p.0.0, p.1)) (Bind (Marks key_of) marked_body) more n (bind (expect_mark key_of) (λ m. arm m.1))
      (bind_exact (Marks key_of) marked_body nothing more (λ k y v z s stops. stops_nothing (v ++ z)) n n (λ k u s. omega arith) (expect_mark key_of) (λ m. arm m.1) (mark_exact key_of t₀ k₀ is_t₀ nothing n) (λ m. exact m.1) (λ m. example m.1)))
