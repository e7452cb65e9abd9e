-- A search for the tables whose batches come to one.
use Rattle.std.proofs.Common.{◌≡◌, ◌⊎◌, ◌+◌, ◌<◌, ◌≤◌, inl, inr, ℕ, zero, suc, Bool, true, false, List, [], ◌∷◌, ◌++◌, length, replicate, refl, ap, sym, ◌∙◌, subst, arith}
use Rattle.std.proofs.lemmas.Bool.{false≢true}
use Rattle.std.proofs.lemmas.List.{length_push}
use Rattle.std.proofs.lemmas.List.Elements.{Contains-append_left, Contains-push, Contains-push_cases}
use Rattle.std.specs.List.{Contains}
use Rattle.kq_catalog_journal.specs.declared.policy.Entry.{Entry}
use Rattle.kq_catalog_journal.specs.Cycles.{Feeds, IsOnCycle, Reaches, at_once, by_way_of}
use Rattle.kq_catalog_journal.specs.Force.{policy_at}
use Rattle.kq_policy_entries.specs.Search.{AddsSources, HasSource, is_marked, unmarked}
use Rattle.std.specs.Prelude.{◌≢◌}

-- batches of the open tables come to the target, or are its own; and the sources of the other tables that were found were found too, and aren't the
-- target
pub record Searches (policies : List (List Entry)) (target : ℕ) (marked : List Bool) (open_ones : List ℕ) : Type 0 where
  pub leads : (t : ℕ) → Contains open_ones t → (t ≡ target) ⊎ Reaches policies t target
  pub closed : (s t : ℕ) → (t ≡ target) ⊎ (is_marked marked t ≡ true) → Feeds policies s t → Contains open_ones t ⊎ ((s ≢ target) × (is_marked marked s ≡ true))

-- a source of a table that is the target, or whose batches come to it
lead : (policies : List (List Entry)) (target t s : ℕ) → (t ≡ target) ⊎ Reaches policies t target → Feeds policies s t → Reaches policies s target
lead policies target t s (inl is) feeds = subst (λ (n : ℕ). Reaches policies s n) is (at_once feeds)
lead policies target t s (inr reaches) feeds = by_way_of t feeds reaches

feeds_by : (policies : List (List Entry)) (t s : ℕ) → HasSource (policy_at policies t) s → Feeds policies s t
feeds_by policies t s has = record { entry = has.entry; stands = has.stands; names = has.names }

source_by : (policies : List (List Entry)) (t s : ℕ) → Feeds policies s t → HasSource (policy_at policies t) s
source_by policies t s feeds = record { entry = feeds.entry; stands = feeds.stands; names = feeds.names }

-- the target is a source of a table that was open
pub found : (policies : List (List Entry)) (target t : ℕ) (marked : List Bool) (rest : List ℕ) → Searches policies target marked (rest ++ t ∷ []) → HasSource (policy_at policies t) target → IsOnCycle policies target
found policies target t marked rest searches has = lead policies target t target (searches.leads t (Contains-push rest t)) (feeds_by policies t target has)

-- the sources of the last of the open tables were added
pub Searches-more : (policies : List (List Entry)) (target t : ℕ) (a b : List Bool) (rest o : List ℕ) → Searches policies target a (rest ++ t ∷ []) → AddsSources (policy_at policies t) target a rest b o → Searches policies target b o
Searches-more policies target t a b rest o searches adds = record { leads = leads; closed = closed }
  where
    leads_by : (n : ℕ) → Contains rest n ⊎ HasSource (policy_at policies t) n → (n ≡ target) ⊎ Reaches policies n target
    leads_by n (inl stood) = searches.leads n (Contains-append_left rest (t ∷ []) n stood)
    leads_by n (inr has) = inr (lead policies target t n (searches.leads t (Contains-push rest t)) (feeds_by policies t n has))

    leads : (n : ℕ) → Contains o n → (n ≡ target) ⊎ Reaches policies n target
    leads n is = leads_by n (adds.came n is)

    gone_through : (s n : ℕ) → Feeds policies s n → (t ≡ n) → Contains o n ⊎ ((s ≡ target → ⊥) × (is_marked b s ≡ true))
    gone_through s n feeds same = inr (adds.all s (source_by policies t s (subst (λ (k : ℕ). Feeds policies s k) (sym same) feeds)))

    was_open : (s n : ℕ) → Feeds policies s n → Contains rest n ⊎ (t ≡ n) → Contains o n ⊎ ((s ≡ target → ⊥) × (is_marked b s ≡ true))
    was_open s n feeds (inl stood) = inl (adds.stay n stood)
    was_open s n feeds (inr same) = gone_through s n feeds same

    before : (s n : ℕ) → Feeds policies s n → Contains (rest ++ t ∷ []) n ⊎ ((s ≡ target → ⊥) × (is_marked a s ≡ true)) → Contains o n ⊎ ((s ≡ target → ⊥) × (is_marked b s ≡ true))
    before s n feeds (inl stood) = was_open s n feeds (Contains-push_cases rest t n stood)
    before s n feeds (inr done) = inr (done.0, adds.kept s done.1)

    by_mark : (s n : ℕ) → Feeds policies s n → (is_marked a n ≡ true) ⊎ Contains o n → Contains o n ⊎ ((s ≡ target → ⊥) × (is_marked b s ≡ true))
    by_mark s n feeds (inl marked) = before s n feeds (searches.closed s n (inr marked) feeds)
    by_mark s n feeds (inr fresh) = inl fresh

    closed : (s n : ℕ) → (n ≡ target) ⊎ (is_marked b n ≡ true) → Feeds policies s n → Contains o n ⊎ ((s ≡ target → ⊥) × (is_marked b s ≡ true))
    closed s n (inl is) feeds = before s n feeds (searches.closed s n (inl is) feeds)
    closed s n (inr marked) feeds = by_mark s n feeds (adds.fresh n marked)

-- nothing is open any more
pub exhausted : (policies : List (List Entry)) (target : ℕ) (marked : List Bool) → Searches policies target marked [] → IsOnCycle policies target → ⊥
exhausted policies target marked searches cycle = (all target cycle).0 refl
  where
    settled : (s t : ℕ) → Contains [] t ⊎ ((s ≡ target → ⊥) × (is_marked marked s ≡ true)) → (s ≡ target → ⊥) × (is_marked marked s ≡ true)
    settled s t (inl stands) = let within = stands.1 in absurd (omega (arith, within))
    settled s t (inr done) = done

    all : (s : ℕ) → Reaches policies s target → (s ≡ target → ⊥) × (is_marked marked s ≡ true)
    all s (at_once feeds) = settled s target (searches.closed s target (inl refl) feeds)
    all s (by_way_of m feeds reaches) = settled s m (searches.closed s m (inr (all m reaches).1) feeds)

-- ---- the beginning

pub unmarked-none : (count : ℕ) → unmarked (replicate count false) ≡ count
unmarked-none zero = refl
unmarked-none (suc n) = let rest = unmarked-none n in omega (arith, rest)

none_marked : (count t : ℕ) → is_marked (replicate count false) t ≡ true → count ≤ t
none_marked zero t is = omega arith
none_marked (suc n) zero is = absurd (false≢true is)
none_marked (suc n) (suc t) is = let rest = none_marked n t is in omega (arith, rest)

none_feeds : (policies : List (List Entry)) (s t : ℕ) → policy_at policies t ≡ [] → Feeds policies s t → ⊥
none_feeds policies s t none feeds = let within = (subst (λ (es : List Entry). Contains es feeds.entry) none feeds.stands).1 in omega (arith, within)

-- the target alone is open
pub Searches-first : (policies : List (List Entry)) (target count : ℕ) → ((t : ℕ) → count ≤ t → policy_at policies t ≡ []) → Searches policies target (replicate count false) (target ∷ [])
Searches-first policies target count past = record { leads = leads; closed = closed }
  where
    leads_by : (t : ℕ) → Contains [] t ⊎ (target ≡ t) → (t ≡ target) ⊎ Reaches policies t target
    leads_by t (inl stands) = let within = stands.1 in absurd (omega (arith, within))
    leads_by t (inr is) = inl (sym is)

    leads : (t : ℕ) → Contains (target ∷ []) t → (t ≡ target) ⊎ Reaches policies t target
    leads t is = leads_by t (Contains-push_cases [] target t is)

    closed : (s t : ℕ) → (t ≡ target) ⊎ (is_marked (replicate count false) t ≡ true) → Feeds policies s t → Contains (target ∷ []) t ⊎ ((s ≡ target → ⊥) × (is_marked (replicate count false) s ≡ true))
    closed s t (inl is) feeds = inl (subst (Contains (target ∷ [])) (sym is) (Contains-push [] target))
    closed s t (inr marked) feeds = absurd (none_feeds policies s t (past t (none_marked count t marked)) feeds)

-- ---- a round

-- the last of the open tables was taken, and its sources were added: a table fewer is unmarked or open
pub fewer : (entries : List Entry) (target t : ℕ) (a b : List Bool) (opened rest o : List ℕ) → opened ≡ rest ++ t ∷ [] → AddsSources entries target a rest b o → unmarked b + length o + 1 ≡ unmarked a + length opened
fewer entries target t a b opened rest o is adds =
    let long = ap length is ∙ length_push rest t in
    let same = adds.count in
    omega (arith, long, same)

none_open : (os : List ℕ) → length os ≤ 0 → os ≡ []
none_open [] short = refl
none_open (x ∷ xs) short = absurd (omega (arith, short))

pub none_where : (os : List ℕ) → (0 < length os → false ≡ true) → os ≡ []
none_where [] none = refl
none_where (x ∷ xs) none = absurd (false≢true (none (omega arith)))

-- after as many rounds as there are tables, and one more, none is open
pub all_done : (policies : List (List Entry)) (target count rounds : ℕ) (marked : List Bool) (opened : List ℕ) → unmarked marked + length opened + rounds ≤ count + 1 → count + 1 ≤ rounds → Searches policies target marked opened → IsOnCycle policies target → ⊥
all_done policies target count rounds marked opened left over searches =
    exhausted policies target marked (subst (Searches policies target marked) (none_open opened (omega (arith, left, over))) searches)
