-- A link that is added, in the words of a chain.
use Rattle.std.proofs.Common.{◌≡◌, ◌≢◌, ◌<◌, ◌≤◌, ◌+◌, ℕ, zero, suc, List, [], ◌∷◌, ◌++◌, length, get_or, set, Option, Some, None, refl, sym, ap, ◌∙◌, subst, arith, inl, inr, eq-eqb, get_or-set_same, get_or-set_other, length-set, add-one}
use Rattle.std.proofs.lemmas.List.{get_or_append_left, get_or_push, length_push}
use Rattle.std.proofs.lemmas.Bool.{cases_eq, cases_lt, ne_eqb}
use Rattle.kq_store_hash_chains.specs.Chain.{links, LeadsTo, IsLinked}

pub links-grown : (added more : List ℕ) (head n : ℕ) → n ≤ length added → links (added ++ more) head n ≡ links added head n
links-grown added more head zero le = refl
links-grown added more head (suc n) le =
    let same : get_or (added ++ more) n 0 ≡ get_or added n 0 = get_or_append_left added more 0 n (omega arith) in
    let rest : links (added ++ more) head n ≡ links added head n = links-grown added more head n (omega arith) in
    cc

pub LeadsTo-grown : (added more : List ℕ) (head n : ℕ) (o : Option ℕ) → n ≤ length added → LeadsTo added head n o → LeadsTo (added ++ more) head n o
LeadsTo-grown added more head n None le h = links-grown added more head n le ∙ h
LeadsTo-grown added more head n (Some link) le h = (
  h.0,
  get_or_append_left added more 0 link (omega (arith, h.0)) ∙ h.1,
  links-grown added more head n le ∙ h.2 ∙ ap (λ l. link ∷ l) (sym (links-grown added more head link (omega (arith, h.0)))),
)

-- a link of another head is passed over
links-skips : (added : List ℕ) (head n : ℕ) → get_or added n 0 ≢ head → links added head (suc n) ≡ links added head n
links-skips added head n other = rw (ne_eqb (get_or added n 0) head other) refl

links-takes : (added : List ℕ) (head n : ℕ) → get_or added n 0 ≡ head → links added head (suc n) ≡ n ∷ links added head n
links-takes added head n same = rw (eq-eqb (get_or added n 0) head same) refl

-- a link of another head changes nothing for this one
LeadsTo-passed : (added : List ℕ) (head other : ℕ) (o : Option ℕ) → other ≢ head → LeadsTo added head (length added) o → LeadsTo (added ++ other ∷ []) head (suc (length added)) o
LeadsTo-passed added head other o differs h = LeadsTo-skipped (added ++ other ∷ []) head (length added) o (λ is. differs (sym (get_or_push added other 0 (length added) refl) ∙ is)) (LeadsTo-grown added (other ∷ []) head (length added) o (omega arith) h)
  where
    LeadsTo-skipped : (added : List ℕ) (head n : ℕ) (o : Option ℕ) → get_or added n 0 ≢ head → LeadsTo added head n o → LeadsTo added head (suc n) o
    LeadsTo-skipped added head n None other h = links-skips added head n other ∙ h
    LeadsTo-skipped added head n (Some link) other h = (omega (arith, h.0), h.1, links-skips added head n other ∙ h.2)

-- the new link is the first one of its head
LeadsTo-new : (added : List ℕ) (head : ℕ) → LeadsTo (added ++ head ∷ []) head (suc (length added)) (Some (length added))
LeadsTo-new added head =
    let is : get_or (added ++ head ∷ []) (length added) 0 ≡ head = get_or_push added head 0 (length added) refl in
    (omega arith, is, links-takes (added ++ head ∷ []) head (length added) is)

pub IsLinked-added : (firsts nexts : List (Option ℕ)) (added : List ℕ) (head : ℕ) → head < length firsts → IsLinked firsts nexts added → IsLinked (set firsts head (Some (length added))) (nexts ++ get_or firsts head None ∷ []) (added ++ head ∷ [])
IsLinked-added firsts nexts added head within old = record {
  count = length_push nexts (get_or firsts head None) ∙ ap (λ n. n + 1) old.count ∙ sym (length_push added head);
  from_heads = λ h lt.
      let P : ℕ → Type 0 = λ n. LeadsTo (added ++ head ∷ []) h n (get_or (set firsts head (Some (length added))) h None) in
      let in_firsts : h < length firsts = subst (λ (n : ℕ). h < n) (length-set firsts head (Some (length added))) lt in
      subst P (sym (length_push added head ∙ add-one (length added))) (from_head h in_firsts);
  from_links = λ link lt. from_link link (subst (λ (n : ℕ). link < n) (length_push added head) lt);
}
  where
    from_head : (h : ℕ) → h < length firsts → LeadsTo (added ++ head ∷ []) h (suc (length added)) (get_or (set firsts head (Some (length added))) h None)
    from_head h lt = elim (cases_eq h head) [
      | inl same ↦
          let Q : Option ℕ → Type 0 = LeadsTo (added ++ head ∷ []) h (suc (length added)) in
          let R : ℕ → Type 0 = λ k. LeadsTo (added ++ head ∷ []) k (suc (length added)) (Some (length added)) in
          let at : get_or (set firsts head (Some (length added))) h None ≡ Some (length added) = ap (λ k. get_or (set firsts head (Some (length added))) k None) same ∙ get_or-set_same firsts head (Some (length added)) None within in
          subst Q (sym at) (subst R (sym same) (LeadsTo-new added head))
      | inr differs ↦
          let Q : Option ℕ → Type 0 = LeadsTo (added ++ head ∷ []) h (suc (length added)) in
          subst Q (sym (get_or-set_other firsts head h (Some (length added)) None differs)) (LeadsTo-passed added h head (get_or firsts h None) (λ is. differs (sym is)) (old.from_heads h lt))
    ]

    from_link : (link : ℕ) → link < length added + 1 → LeadsTo (added ++ head ∷ []) (get_or (added ++ head ∷ []) link 0) link (get_or (nexts ++ get_or firsts head None ∷ []) link None)
    from_link link lt = elim (cases_lt link (length added)) [
      | inl below ↦
          let Q : ℕ → Type 0 = λ h. LeadsTo (added ++ head ∷ []) h link (get_or (nexts ++ get_or firsts head None ∷ []) link None) in
          let R : Option ℕ → Type 0 = LeadsTo (added ++ head ∷ []) (get_or added link 0) link in
          subst Q (sym (get_or_append_left added (head ∷ []) 0 link below))
          (subst R (sym (get_or_append_left nexts (get_or firsts head None ∷ []) None link (omega (arith, old.count))))
          (LeadsTo-grown added (head ∷ []) (get_or added link 0) link (get_or nexts link None) (omega arith) (old.from_links link below)))
      | inr above ↦
          let is : length added ≡ link = omega arith in
          let Q : ℕ → Type 0 = λ h. LeadsTo (added ++ head ∷ []) h link (get_or (nexts ++ get_or firsts head None ∷ []) link None) in
          let R : Option ℕ → Type 0 = LeadsTo (added ++ head ∷ []) head link in
          subst Q (sym (get_or_push added head 0 link is))
          (subst R (sym (get_or_push nexts (get_or firsts head None) None link (old.count ∙ is)))
          (subst (λ (n : ℕ). LeadsTo (added ++ head ∷ []) head n (get_or firsts head None)) is
          (LeadsTo-grown added (head ∷ []) head (length added) (get_or firsts head None) (omega arith) (old.from_heads head within))))
    ]
