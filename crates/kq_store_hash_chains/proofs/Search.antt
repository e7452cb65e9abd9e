-- The search for an item behind a head, where each item of a list is a link behind the head that it is filed under.
use Rattle.std.proofs.Common.{◌≡◌, ◌≢◌, ◌<◌, ◌≤◌, ◌⊎◌, inl, inr, ℕ, zero, suc, Bool, true, false, cond, List, [], ◌∷◌, Option, Some, None, length, get_or, map, ap, ◌∙◌, subst, arith}
use Rattle.std.proofs.lemmas.Bool.{cases_lt, eq-eqb}
use Rattle.std.proofs.lemmas.List.{get_or-map, get_or_default, length-map}
use Rattle.kq_store_hash_chains.specs.Chain.{links, LeadsTo}

-- the link is still to come
abbrev pub IsAhead : List ℕ → ℕ → Type 0
IsAhead [] j = ⊥
IsAhead (i ∷ is) j = (i ≡ j) ⊎ IsAhead is j

IsAhead-cond : (b : Bool) (n : ℕ) (is : List ℕ) (j : ℕ) → IsAhead is j → IsAhead (cond b (n ∷ is) is) j
IsAhead-cond true n is j h = inr h
IsAhead-cond false n is j h = h

-- what was added to a head is behind it
in_links : (added : List ℕ) (head n j : ℕ) → j < n → get_or added j 0 ≡ head → IsAhead (links added head n) j
in_links added head zero j h e = absurd (omega arith)
in_links added head (suc n) j h e = elim (cases_lt j n) [
  | inl below ↦ IsAhead-cond _ n (links added head n) j (in_links added head n j below e)
  | inr above ↦
      let same : n ≡ j = omega arith in
      let at : get_or added n 0 ≡ head = ap (λ (k : ℕ). get_or added k 0) same ∙ e in
      rw (eq-eqb (get_or added n 0) head at) (inl same)
]

-- a search for the item goes on at this link: the places of the item are still to come
pub record IsSought {T : Type 0} (added : List ℕ) (head : ℕ) (items : List T) (item : T) (link : Option ℕ) : Type 0 where
  pub below : ℕ
  pub within : below ≤ length items
  pub leads : LeadsTo added head below link
  pub ahead : (j : ℕ) → j < length items → get_or items j item ≡ item → IsAhead (links added head below) j

pub sought_first : {T : Type 0} (file : T → ℕ) (added : List ℕ) (head : ℕ) (items : List T) (item : T) (link : Option ℕ) → added ≡ map file items → head ≡ file item
    → LeadsTo added head (length added) link → IsSought added (file item) items item link
sought_first {T} file added head items item link filed under leads =
    let same : length added ≡ length items = ap length filed ∙ length-map items file in
    record {
      below = length added;
      within = omega (arith, same);
      leads = subst (λ (h : ℕ). LeadsTo added h (length added) link) under leads;
      ahead = λ j h e. in_links added (file item) (length added) j (omega (arith, h, same)) (ap (λ (heads : List ℕ). get_or heads j 0) filed ∙ get_or-map file items j item 0 h ∙ ap file e);
    }

-- what the search is at
at_link : {T : Type 0} (added : List ℕ) (head : ℕ) (items : List T) (item : T) (link : Option ℕ) (i : ℕ) (s : IsSought added head items item link) → link ≡ Some i → LeadsTo added head s.below (Some i)
at_link added head items item link i s is = subst (LeadsTo added head s.below) is s.leads

not_this : {P : Type 0} (i j : ℕ) → (i ≡ j) ⊎ P → i ≢ j → P
not_this i j (inl same) other = absurd (other same)
not_this i j (inr h) other = h

pub sought_within : {T : Type 0} (added : List ℕ) (head : ℕ) (items : List T) (item : T) (link : Option ℕ) (i : ℕ) → IsSought added head items item link → link ≡ Some i → i < length items
sought_within added head items item link i s is = omega (arith, (at_link added head items item link i s is).0, s.within)

-- the item at the link is another: the search goes on behind it
pub sought_next : {T : Type 0} (added : List ℕ) (head : ℕ) (items : List T) (item other : T) (link next : Option ℕ) (i : ℕ) → IsSought added head items item link → link ≡ Some i
    → get_or items i other ≢ item → LeadsTo added (get_or added i 0) i next → IsSought added head items item next
sought_next {T} added head items item other link next i s is differs leads =
    let at = at_link added head items item link i s is in
    let within = sought_within added head items item link i s is in
    record {
      below = i;
      within = omega (arith, within);
      leads = subst (λ (h : ℕ). LeadsTo added h i next) at.1 leads;
      ahead = λ j h e. not_this i j (subst (λ (ls : List ℕ). IsAhead ls j) at.2 (s.ahead j h e))
          (λ same. differs (get_or_default items i other item within ∙ ap (λ (n : ℕ). get_or items n item) same ∙ e));
    }

-- the search has ended: the item stands nowhere
pub sought_in_vain : {T : Type 0} (added : List ℕ) (head : ℕ) (items : List T) (item : T) (link : Option ℕ) (j : ℕ) → IsSought added head items item link → link ≡ None
    → j < length items → get_or items j item ≡ item → ⊥
sought_in_vain added head items item link j s is h e =
    let none : links added head s.below ≡ [] = subst (LeadsTo added head s.below) is s.leads in
    subst (λ (ls : List ℕ). IsAhead ls j) none (s.ahead j h e)
