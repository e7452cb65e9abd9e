-- The extents of a table under rising ids, and what a merge leaves of the small ones and of the others.
use Rattle.std.proofs.Common.{◌≡◌, ◌≢◌, ◌<◌, ◌≤◌, ◌⊎◌, inl, inr, refl, subst, ℕ, zero, suc, ◌+◌, Bool, true, false, not, ◌||◌, cond, List, [], ◌∷◌, ◌++◌, length, take, drop, nat_eq, ap, sym, ◌∙◌, arith, append-nil, append_assoc}
use Rattle.std.specs.List.{filter, list_any}
use Rattle.std.proofs.lemmas.Bool.{eq-eqb, eqb-true, ne_eqb}
use Rattle.std.proofs.lemmas.Bool.Decides.{eqb_tells}
use Rattle.std.proofs.lemmas.List.{take-take, length-take}
use Rattle.std.proofs.lemmas.List.Elements.{filter-append}
use Rattle.kq_catalog_journal.specs.declared.batch.Batch.{Batch}
use Rattle.kq_catalog_journal.specs.declared.limits.Limits.{Limits}
use Rattle.kq_catalog_journal.specs.declared.event.Commit.{Commit}
use Rattle.kq_catalog_journal.specs.declared.event.Commit.TheVariants.{CreateTable, SetPolicy, CreateView, AlterMerge, Ingest}
use Rattle.kq_catalog_journal.specs.declared.event.Event.{Event}
use Rattle.kq_catalog_journal.specs.declared.event.Operation.{Operation}
use Rattle.kq_catalog_journal.specs.declared.event.Operation.TheVariants as operation
use Rattle.kq_catalog_journal.specs.History.{History, cursor}
use Rattle.kq_catalog_journal.specs.Lawful.{IsMerge, Lawful, LawfulOperation, AreLawful, AreLawfulAfter}
use Rattle.kq_catalog_journal.specs.Records.{ExtentItem, extents, has_id_of, is_small_item, item_ids, batch_item, commit_items, items_after, batch_items, commit_extents, extents_made, operation_extents, merged, picked, small_items, united}
use Rattle.kq_catalog_journal.proofs.Bounded.{AreLawful-induct}
use Rattle.kq_catalog_journal.proofs.Histories.{AreLawful-push}
use Rattle.kq_catalog_journal.proofs.Records.{extents-push, extents_made-push}

-- ---- rising ids

-- the ids rise from a number on, and are below another
abbrev pub Rises : ℕ → ℕ → List ExtentItem → Type 0
Rises low high [] = low ≤ high
Rises low high (i ∷ is) = (low ≤ i.id) × Rises (i.id + 1) high is

pub Rises-bound : (low high : ℕ) (is : List ExtentItem) → Rises low high is → low ≤ high
Rises-bound low high [] rises = rises
Rises-bound low high (i ∷ is) rises = let later = Rises-bound (i.id + 1) high is rises.1 in omega (arith, later, rises.0)

Rises-lower : (low other high : ℕ) (is : List ExtentItem) → other ≤ low → Rises low high is → Rises other high is
Rises-lower low other high [] below rises = omega (arith, below, rises)
Rises-lower low other high (i ∷ is) below rises = (omega (arith, below, rises.0), rises.1)

Rises-higher : (low high other : ℕ) (is : List ExtentItem) → high ≤ other → Rises low high is → Rises low other is
Rises-higher low high other [] above rises = omega (arith, above, rises)
Rises-higher low high other (i ∷ is) above rises = (rises.0, Rises-higher (i.id + 1) high other is above rises.1)

Rises-append : (low mid high : ℕ) (is js : List ExtentItem) → Rises low mid is → Rises mid high js → Rises low high (is ++ js)
Rises-append low mid high [] js first later = Rises-lower mid low high js first later
Rises-append low mid high (i ∷ is) js first later = (first.0, Rises-append (i.id + 1) mid high is js first.1 later)

Rises-filter : (test : ExtentItem → Bool) (low high : ℕ) (is : List ExtentItem) → Rises low high is → Rises low high (filter test is)
Rises-filter test low high [] rises = rises
Rises-filter test low high (i ∷ is) rises = by_test (test i) (Rises-filter test (i.id + 1) high is rises.1)
  where
    by_test : (b : Bool) → Rises (i.id + 1) high (filter test is) → Rises low high (cond b (i ∷ filter test is) (filter test is))
    by_test true later = (rises.0, later)
    by_test false later = Rises-lower (i.id + 1) low high (filter test is) (omega (arith, rises.0)) later

Rises-take : (k low high : ℕ) (is : List ExtentItem) → Rises low high is → Rises low high (take k is)
Rises-take zero low high is rises = Rises-bound low high is rises
Rises-take (suc k) low high [] rises = rises
Rises-take (suc k) low high (i ∷ is) rises = (rises.0, Rises-take k (i.id + 1) high is rises.1)

Rises-drop : (k low high : ℕ) (is : List ExtentItem) → Rises low high is → Rises low high (drop k is)
Rises-drop zero low high is rises = rises
Rises-drop (suc k) low high [] rises = rises
Rises-drop (suc k) low high (i ∷ is) rises = Rises-lower (i.id + 1) low high (drop k is) (omega (arith, rises.0)) (Rises-drop k (i.id + 1) high is rises.1)

-- the extents of batches have the next ids
items-rise : (t cursor ordinal id : ℕ) (bs : List Batch) → Rises id (id + length bs) (batch_items t cursor ordinal id bs)
items-rise t cursor ordinal id [] = omega arith
items-rise t cursor ordinal id (b ∷ bs) = by_test (nat_eq b.table t) (λ o. items-rise t cursor o (id + 1) bs)
  where
    high : id + 1 + length bs ≡ id + length (b ∷ bs)
    high = omega arith

    by_test : (is : Bool) → ((o : ℕ) → Rises (id + 1) (id + 1 + length bs) (batch_items t cursor o (id + 1) bs))
        → Rises id (id + length (b ∷ bs)) (cond is (batch_item id cursor ordinal b ∷ batch_items t cursor (ordinal + length b.rows) (id + 1) bs) (batch_items t cursor ordinal (id + 1) bs))
    by_test true later = (omega arith, subst (λ (n : ℕ). Rises (id + 1) n (batch_items t cursor (ordinal + length b.rows) (id + 1) bs)) high (later (ordinal + length b.rows)))
    by_test false later = Rises-lower (id + 1) id (id + length (b ∷ bs)) (batch_items t cursor ordinal (id + 1) bs) (omega arith) (subst (λ (n : ℕ). Rises (id + 1) n (batch_items t cursor ordinal (id + 1) bs)) high (later ordinal))

commit-rises : (t cursor id : ℕ) (c : Commit) → Rises id (id + commit_extents c) (commit_items t cursor id c)
commit-rises t cursor id (CreateTable name schema) = omega arith
commit-rises t cursor id (CreateView view) = omega arith
commit-rises t cursor id (SetPolicy table entries) = omega arith
commit-rises t cursor id (AlterMerge table columns) = omega arith
commit-rises t cursor id (Ingest batches failures) = items-rise t cursor 0 id batches

-- and so do all extents of a table after one more operation
after-rises : (h : History) (t low : ℕ) (o : Operation) (is : List ExtentItem) → ((table : ℕ) (old : List ℕ) (new : ℕ) → o ≡ operation.Merge table old new → new ≡ 1 + extents_made h)
    → Rises low (1 + extents_made h) is → Rises low (1 + extents_made h + operation_extents o) (items_after t (cursor h + 1) (1 + extents_made h) o is)
after-rises h t low (operation.Commit c) is next rises = Rises-append low (1 + extents_made h) (1 + extents_made h + commit_extents c) is (commit_items t (cursor h + 1) (1 + extents_made h) c) rises (commit-rises t (cursor h + 1) (1 + extents_made h) c)
after-rises h t low (operation.Fold view to) is next rises = Rises-higher low (1 + extents_made h) (1 + extents_made h + 0) is (omega arith) rises
after-rises h t low (operation.Merge table old new) is next rises = by_test (nat_eq table t)
  where
    at : new ≡ 1 + extents_made h
    at = next table old new refl

    by_test : (b : Bool) → Rises low (1 + extents_made h + 1) (cond b (merged old new is) is)
    by_test true =
        Rises-append low (1 + extents_made h) (1 + extents_made h + 1) (filter (λ i. not (has_id_of old i)) is) (united new (filter (has_id_of old) is) ∷ [])
        (Rises-filter (λ i. not (has_id_of old i)) low (1 + extents_made h) is rises) (omega (arith, at), omega (arith, at))
    by_test false = Rises-higher low (1 + extents_made h) (1 + extents_made h + 1) is (omega arith) rises

new_id : (limits : Limits) (h : History) (o : Operation) → LawfulOperation limits h o → (table : ℕ) (old : List ℕ) (new : ℕ) → o ≡ operation.Merge table old new → new ≡ 1 + extents_made h
new_id limits h o lawful table old new is = (subst (LawfulOperation limits h) is lawful).next

push-rises : (limits : Limits) (h : History) (e : Event) (t low : ℕ) → Lawful limits h e → Rises low (1 + extents_made h) (extents h t) → Rises low (1 + extents_made (h ++ e ∷ [])) (extents (h ++ e ∷ []) t)
push-rises limits h e t low lawful rises =
    let high : 1 + extents_made h + operation_extents e.operation ≡ 1 + extents_made (h ++ e ∷ []) = let more = extents_made-push h e in omega (arith, more) in
    subst (Rises low (1 + extents_made (h ++ e ∷ []))) (sym (extents-push h t e))
    (subst (λ (n : ℕ). Rises low n (items_after t (cursor h + 1) (1 + extents_made h) e.operation (extents h t))) high
    (after-rises h t low e.operation (extents h t) (new_id limits h e.operation lawful.operation) rises))

-- the ids of a table's extents rise, and are below the next
pub extents-rise : (limits : Limits) (h : History) → AreLawful limits h → (t : ℕ) → Rises 1 (1 + extents_made h) (extents h t)
extents-rise limits h all = AreLawful-induct limits (λ (g : History). (t : ℕ) → Rises 1 (1 + extents_made g) (extents g t)) (λ t. omega arith) (λ g e before lawful t. push-rises limits g e t 1 lawful (before t)) h all

-- ---- a merge by ids

no_item : (is : List ExtentItem) → filter (has_id_of []) is ≡ []
no_item [] = refl
no_item (i ∷ is) = no_item is

each_item : (is : List ExtentItem) → filter (λ i. not (has_id_of [] i)) is ≡ is
each_item [] = refl
each_item (i ∷ is) = ap (λ (js : List ExtentItem). i ∷ js) (each_item is)

-- an id below those of these extents is none of theirs
not_theirs : (n low high : ℕ) (is : List ExtentItem) → n < low → Rises low high is → list_any (nat_eq n) (item_ids is) ≡ false
not_theirs n low high [] below rises = refl
not_theirs n low high (i ∷ is) below rises =
    ap (λ (b : Bool). b || list_any (nat_eq n) (item_ids is)) (ne_eqb n i.id (λ same. absurd (omega (arith, below, same, rises.0))))
    ∙ not_theirs n (i.id + 1) high is (omega (arith, below, rises.0)) rises.1

-- and tells nothing of them
other_id : (f : Bool → Bool) (n : ℕ) (ids : List ℕ) (low high : ℕ) (is : List ExtentItem) → n < low → Rises low high is
    → filter (λ i. f (has_id_of (n ∷ ids) i)) is ≡ filter (λ i. f (has_id_of ids i)) is
other_id f n ids low high [] below rises = refl
other_id f n ids low high (i ∷ is) below rises =
    ap (λ (b : Bool). cond (f (b || has_id_of ids i)) (i ∷ filter (λ j. f (has_id_of (n ∷ ids) j)) is) (filter (λ j. f (has_id_of (n ∷ ids) j)) is)) (ne_eqb i.id n (λ same. absurd (omega (arith, below, same, rises.0))))
    ∙ ap (λ (js : List ExtentItem). cond (f (has_id_of ids i)) (i ∷ js) js) (other_id f n ids (i.id + 1) high is (omega (arith, below, rises.0)) rises.1)

-- where the first of those that pass a test are taken by their ids, these are gone, and the others stay
pub record Takes (test : ExtentItem → Bool) (k : ℕ) (is : List ExtentItem) (ids : List ℕ) : Type 0 where
  pub gone : filter (has_id_of ids) is ≡ take k (filter test is)
  pub some : filter test (filter (λ i. not (has_id_of ids i)) is) ≡ drop k (filter test is)
  pub others : filter (λ i. not (test i)) (filter (λ i. not (has_id_of ids i)) is) ≡ filter (λ i. not (test i)) is

pub Takes-first : (test : ExtentItem → Bool) (k low high : ℕ) (is : List ExtentItem) → Rises low high is → Takes test k is (item_ids (take k (filter test is)))
Takes-first test zero low high is rises = record {
  gone = no_item is;
  some = ap (filter test) (each_item is);
  others = ap (filter (λ i. not (test i))) (each_item is);
}
Takes-first test (suc k) low high [] rises = record { gone = refl; some = refl; others = refl }
Takes-first test (suc k) low high (i ∷ is) rises = by_test (test i) refl (Takes-first test k (i.id + 1) high is rises.1) (Takes-first test (suc k) (i.id + 1) high is rises.1)
  where
    ids : List ℕ
    ids = item_ids (take k (filter test is))

    more : List ℕ
    more = item_ids (take (suc k) (filter test is))

    below : i.id < i.id + 1
    below = omega arith

    itself : has_id_of (i.id ∷ ids) i ≡ true
    itself = ap (λ (b : Bool). b || has_id_of ids i) (eq-eqb i.id i.id refl)

    not_more : has_id_of more i ≡ false
    not_more = not_theirs i.id (i.id + 1) high (take (suc k) (filter test is)) below (Rises-take (suc k) (i.id + 1) high (filter test is) (Rises-filter test (i.id + 1) high is rises.1))

    keeps : List ℕ → List ExtentItem
    keeps ns = filter (λ j. not (has_id_of ns j)) is

    kept : keeps (i.id ∷ ids) ≡ keeps ids
    kept = other_id not i.id ids (i.id + 1) high is below rises.1

    by_test : (b : Bool) → test i ≡ b → Takes test k is ids → Takes test (suc k) is more
        → Takes test (suc k) (i ∷ is) (item_ids (take (suc k) (filter test (i ∷ is))))
    by_test true passes fewer same =
        let front : filter test (i ∷ is) ≡ i ∷ filter test is = ap (λ (b : Bool). cond b (i ∷ filter test is) (filter test is)) passes in
        subst (λ (js : List ExtentItem). Takes test (suc k) (i ∷ is) (item_ids (take (suc k) js))) (sym front)
        (record {
          gone = ap (λ (b : Bool). cond b (i ∷ filter (has_id_of (i.id ∷ ids)) is) (filter (has_id_of (i.id ∷ ids)) is)) itself
              ∙ ap (λ (js : List ExtentItem). i ∷ js) (other_id (λ b. b) i.id ids (i.id + 1) high is below rises.1 ∙ fewer.gone) ∙ ap (take (suc k)) (sym front);
          some = ap (λ (b : Bool). filter test (cond (not b) (i ∷ keeps (i.id ∷ ids)) (keeps (i.id ∷ ids)))) itself ∙ ap (filter test) kept ∙ fewer.some ∙ ap (drop (suc k)) (sym front);
          others = ap (λ (b : Bool). filter (λ j. not (test j)) (cond (not b) (i ∷ keeps (i.id ∷ ids)) (keeps (i.id ∷ ids)))) itself
              ∙ ap (filter (λ j. not (test j))) kept ∙ fewer.others
              ∙ ap (λ (b : Bool). cond (not b) (i ∷ filter (λ j. not (test j)) is) (filter (λ j. not (test j)) is)) (sym passes);
        })
    by_test false passes fewer same =
        let front : filter test (i ∷ is) ≡ filter test is = ap (λ (b : Bool). cond b (i ∷ filter test is) (filter test is)) passes in
        subst (λ (js : List ExtentItem). Takes test (suc k) (i ∷ is) (item_ids (take (suc k) js))) (sym front)
        (record {
          gone = ap (λ (b : Bool). cond b (i ∷ filter (has_id_of more) is) (filter (has_id_of more) is)) not_more ∙ same.gone ∙ ap (take (suc k)) (sym front);
          some = ap (λ (b : Bool). filter test (cond (not b) (i ∷ keeps more) (keeps more))) not_more
              ∙ ap (λ (b : Bool). cond b (i ∷ filter test (keeps more)) (filter test (keeps more))) passes ∙ same.some ∙ ap (drop (suc k)) (sym front);
          others = ap (λ (b : Bool). filter (λ j. not (test j)) (cond (not b) (i ∷ keeps more) (keeps more))) not_more
              ∙ ap (λ (b : Bool). cond (not b) (i ∷ filter (λ j. not (test j)) (keeps more)) (filter (λ j. not (test j)) (keeps more))) passes
              ∙ ap (λ (js : List ExtentItem). i ∷ js) same.others
              ∙ ap (λ (b : Bool). cond (not b) (i ∷ filter (λ j. not (test j)) is) (filter (λ j. not (test j)) is)) (sym passes);
        })

-- the first of those that are picked are the first small ones
pub first_picked : (h : History) (t k : ℕ) → k ≤ length (picked h t) → take k (picked h t) ≡ take k (small_items h t)
first_picked h t k within =
    let most = length-take 64 (small_items h t) in take-take k 64 (small_items h t) (omega (arith, within, most))

pub merge-takes : (limits : Limits) (h : History) (t k : ℕ) → AreLawful limits h → k ≤ length (picked h t) → Takes is_small_item k (extents h t) (item_ids (take k (picked h t)))
merge-takes limits h t k all within =
    subst (λ (is : List ExtentItem). Takes is_small_item k (extents h t) (item_ids is)) (sym (first_picked h t k within))
    (Takes-first is_small_item k 1 (1 + extents_made h) (extents h t) (extents-rise limits h all t))

-- ---- later merges

AreLawfulAfter-induct : (limits : Limits) (P : History → Type 0) → ((h : History) (e : Event) → P h → Lawful limits h e → P (h ++ e ∷ [])) → (before more : History) → P before → AreLawfulAfter limits before more → P (before ++ more)
AreLawfulAfter-induct limits P one before [] p all = subst P (sym (append-nil before)) p
AreLawfulAfter-induct limits P one before (e ∷ more) p all = subst P (append_assoc before (e ∷ []) more) (AreLawfulAfter-induct limits P one (before ++ e ∷ []) more (one before e p all.0) all.1)

lawful_after : (limits : Limits) (before h more : History) → AreLawfulAfter limits before (h ++ more) → AreLawfulAfter limits before h × AreLawfulAfter limits (before ++ h) more
lawful_after limits before [] more all = (tt, subst (λ (b : History). AreLawfulAfter limits b more) (sym (append-nil before)) all)
lawful_after limits before (e ∷ h) more all =
    let later = lawful_after limits (before ++ e ∷ []) h more all.1 in
    ((all.0, later.0), subst (λ (b : History). AreLawfulAfter limits b more) (append_assoc before (e ∷ []) h) later.1)

-- the small extents that there were stand before what came, or the first of them is gone, and all have greater ids
pub record Goes_on (first : ExtentItem) (others : List ExtentItem) (g : History) (t : ℕ) : Type 0 where
  pub more : List ExtentItem
  pub is : small_items g t ≡ (first ∷ others) ++ more

-- no extent of the table has the id
abbrev pub IsGone : ℕ → History → ℕ → Type 0
IsGone id g t = list_any (nat_eq id) (item_ids (extents g t)) ≡ false

abbrev pub Stays : ExtentItem → List ExtentItem → ℕ → History → Type 0
Stays first others t g = Goes_on first others g t ⊎ (Rises (first.id + 1) (1 + extents_made g) (small_items g t) × IsGone first.id g t)

none_of_both : (n : ℕ) (is js : List ExtentItem) → list_any (nat_eq n) (item_ids is) ≡ false → list_any (nat_eq n) (item_ids js) ≡ false → list_any (nat_eq n) (item_ids (is ++ js)) ≡ false
none_of_both n [] js a b = b
none_of_both n (i ∷ is) js a b = by_test (nat_eq n i.id) a (none_of_both n is js)
  where
    by_test : (c : Bool) → (c || list_any (nat_eq n) (item_ids is)) ≡ false → (list_any (nat_eq n) (item_ids is) ≡ false → list_any (nat_eq n) (item_ids js) ≡ false → list_any (nat_eq n) (item_ids (is ++ js)) ≡ false)
        → (c || list_any (nat_eq n) (item_ids (is ++ js))) ≡ false
    by_test true a later = cc
    by_test false a later = later a b

none_kept : (n : ℕ) (test : ExtentItem → Bool) (is : List ExtentItem) → list_any (nat_eq n) (item_ids is) ≡ false → list_any (nat_eq n) (item_ids (filter test is)) ≡ false
none_kept n test [] a = refl
none_kept n test (i ∷ is) a = by_test (nat_eq n i.id) refl (test i) a (none_kept n test is)
  where
    by_test : (c : Bool) → nat_eq n i.id ≡ c → (b : Bool) → (c || list_any (nat_eq n) (item_ids is)) ≡ false → (list_any (nat_eq n) (item_ids is) ≡ false → list_any (nat_eq n) (item_ids (filter test is)) ≡ false)
        → list_any (nat_eq n) (item_ids (cond b (i ∷ filter test is) (filter test is))) ≡ false
    by_test true h b a later = cc
    by_test false h true a later = ap (λ (c : Bool). c || list_any (nat_eq n) (item_ids (filter test is))) h ∙ later a
    by_test false h false a later = later a

-- the first of the ids that are taken is gone
first_gone : (id : ℕ) (ids : List ℕ) (is : List ExtentItem) → list_any (nat_eq id) (item_ids (filter (λ i. not (has_id_of (id ∷ ids) i)) is)) ≡ false
first_gone id ids [] = refl
first_gone id ids (i ∷ is) = by_case (eqb_tells i.id id) (first_gone id ids is)
  where
    keeps : List ExtentItem
    keeps = filter (λ j. not (has_id_of (id ∷ ids) j)) is

    by_test : (b : Bool) → nat_eq id i.id ≡ false → list_any (nat_eq id) (item_ids keeps) ≡ false → list_any (nat_eq id) (item_ids (cond b (i ∷ keeps) keeps)) ≡ false
    by_test true other later = ap (λ (c : Bool). c || list_any (nat_eq id) (item_ids keeps)) other ∙ later
    by_test false other later = later

    by_case : ((nat_eq i.id id ≡ true) × (i.id ≡ id)) ⊎ ((nat_eq i.id id ≡ false) × (i.id ≢ id)) → list_any (nat_eq id) (item_ids keeps) ≡ false
        → list_any (nat_eq id) (item_ids (cond (not (nat_eq i.id id || has_id_of ids i)) (i ∷ keeps) keeps)) ≡ false
    by_case (inl h) later = ap (λ (b : Bool). list_any (nat_eq id) (item_ids (cond (not (b || has_id_of ids i)) (i ∷ keeps) keeps))) h.0 ∙ later
    by_case (inr h) later = by_test (not (nat_eq i.id id || has_id_of ids i)) (ne_eqb id i.id (λ same. h.1 (sym same))) later

stays_more : (limits : Limits) (first : ExtentItem) (others : List ExtentItem) (t : ℕ) (g : History) (e : Event) → AreLawful limits g → first.id ≤ extents_made g → Stays first others t g → Lawful limits g e → Stays first others t (g ++ e ∷ [])
stays_more limits first others t g e all low stays lawful = by_operation e.operation refl lawful.operation
  where
    next : History
    next = g ++ e ∷ []

    not_new : (new : List ExtentItem) → Rises (1 + extents_made g) (1 + extents_made next) new → list_any (nat_eq first.id) (item_ids new) ≡ false
    not_new new above = not_theirs first.id (1 + extents_made g) (1 + extents_made next) new (omega (arith, low)) above

    -- some extents more, of which the small ones are these
    longer : (new : List ExtentItem) → extents next t ≡ extents g t ++ new → Rises (1 + extents_made g) (1 + extents_made next) new → Stays first others t g → Stays first others t next
    longer new is above (inl goes) =
        let last = filter is_small_item new in
        inl (record {
          more = goes.more ++ last;
          is = ap (filter is_small_item) is ∙ filter-append is_small_item (extents g t) new ∙ ap (λ (js : List ExtentItem). js ++ last) goes.is ∙ append_assoc (first ∷ others) goes.more last;
        })
    longer new is above (inr gone) =
        let last = filter is_small_item new in
        let small = Rises-filter is_small_item (1 + extents_made g) (1 + extents_made next) new above in
        inr (
          subst (Rises (first.id + 1) (1 + extents_made next)) (sym (ap (filter is_small_item) is ∙ filter-append is_small_item (extents g t) new))
              (Rises-append (first.id + 1) (1 + extents_made g) (1 + extents_made next) (small_items g t) last gone.0 small),
          subst (λ (js : List ExtentItem). list_any (nat_eq first.id) (item_ids js) ≡ false) (sym is) (none_of_both first.id (extents g t) new gone.1 (not_new new above)),
        )

    -- the first small extents replaced by one
    fewer : (k : ℕ) (old : List ℕ) (one : ExtentItem) → 1 ≤ k → old ≡ item_ids (take k (small_items g t)) → Takes is_small_item k (extents g t) old
        → extents next t ≡ filter (λ i. not (has_id_of old i)) (extents g t) ++ one ∷ [] → Rises (1 + extents_made g) (1 + extents_made next) (one ∷ []) → Stays first others t g → Stays first others t next
    fewer zero old one some ids takes is above s = absurd (omega (arith, some))
    fewer (suc k) old one some ids takes is above s =
        let last = filter is_small_item (one ∷ []) in
        let small = Rises-filter is_small_item (1 + extents_made g) (1 + extents_made next) (one ∷ []) above in
        let keeps = filter (λ i. not (has_id_of old i)) (extents g t) in
        let now : small_items next t ≡ drop (suc k) (small_items g t) ++ last = ap (filter is_small_item) is ∙ filter-append is_small_item keeps (one ∷ []) ∙ ap (λ (js : List ExtentItem). js ++ last) takes.some in
        inr (
          subst (Rises (first.id + 1) (1 + extents_made next)) (sym now) (Rises-append (first.id + 1) (1 + extents_made g) (1 + extents_made next) (drop (suc k) (small_items g t)) last (dropped s) small),
          subst (λ (js : List ExtentItem). list_any (nat_eq first.id) (item_ids js) ≡ false) (sym is) (none_of_both first.id keeps (one ∷ []) (kept s) (not_new (one ∷ []) above)),
        )
      where
        dropped : Stays first others t g → Rises (first.id + 1) (1 + extents_made g) (drop (suc k) (small_items g t))
        dropped (inl goes) =
            let small = subst (Rises 1 (1 + extents_made g)) goes.is (Rises-filter is_small_item 1 (1 + extents_made g) (extents g t) (extents-rise limits g all t)) in
            subst (λ (js : List ExtentItem). Rises (first.id + 1) (1 + extents_made g) (drop (suc k) js)) (sym goes.is) (Rises-drop k (first.id + 1) (1 + extents_made g) (others ++ goes.more) small.1)
        dropped (inr gone) = Rises-drop (suc k) (first.id + 1) (1 + extents_made g) (small_items g t) gone.0

        kept : Stays first others t g → list_any (nat_eq first.id) (item_ids (filter (λ i. not (has_id_of old i)) (extents g t))) ≡ false
        kept (inl goes) =
            subst (λ (ns : List ℕ). list_any (nat_eq first.id) (item_ids (filter (λ i. not (has_id_of ns i)) (extents g t))) ≡ false)
            (sym (ids ∙ ap (λ (js : List ExtentItem). item_ids (take (suc k) js)) goes.is)) (first_gone first.id (item_ids (take k (others ++ goes.more))) (extents g t))
        kept (inr gone) = none_kept first.id (λ i. not (has_id_of old i)) (extents g t) gone.1

    high : (o : Operation) → e.operation ≡ o → 1 + extents_made g + operation_extents o ≡ 1 + extents_made next
    high o is = let more = extents_made-push g e ∙ ap (λ (p : Operation). extents_made g + operation_extents p) is in omega (arith, more)

    at : (o : Operation) → e.operation ≡ o → extents next t ≡ items_after t (cursor g + 1) (1 + extents_made g) o (extents g t)
    at o is = extents-push g t e ∙ ap (λ (p : Operation). items_after t (cursor g + 1) (1 + extents_made g) p (extents g t)) is

    by_merge : (table : ℕ) (old : List ℕ) (new : ℕ) → e.operation ≡ operation.Merge table old new → IsMerge g table old new → (b : Bool) → nat_eq table t ≡ b → Stays first others t next
    by_merge table old new is merge false other =
        longer [] (at (operation.Merge table old new) is ∙ ap (λ (b : Bool). cond b (merged old new (extents g t)) (extents g t)) other ∙ sym (append-nil (extents g t)))
        (let more = high (operation.Merge table old new) is in omega (arith, more)) stays
    by_merge table old new is merge true same =
        let here : IsMerge g t old new = subst (λ (n : ℕ). IsMerge g n old new) (eqb-true table t same) merge in
        let takes = subst (Takes is_small_item here.count (extents g t)) (sym here.first) (merge-takes limits g t here.count all here.within) in
        let one = united new (filter (has_id_of old) (extents g t)) in
        let more = high (operation.Merge table old new) is in
        let above : Rises (1 + extents_made g) (1 + extents_made next) (one ∷ []) = (omega (arith, here.next), omega (arith, here.next, more)) in
        fewer here.count old one (omega (arith, here.some)) (here.first ∙ ap item_ids (first_picked g t here.count here.within)) takes
        (at (operation.Merge table old new) is ∙ ap (λ (b : Bool). cond b (merged old new (extents g t)) (extents g t)) same) above stays

    by_operation : (o : Operation) → e.operation ≡ o → LawfulOperation limits g o → Stays first others t next
    by_operation (operation.Commit c) is lawful =
        let new = commit_items t (cursor g + 1) (1 + extents_made g) c in
        longer new (at (operation.Commit c) is) (subst (λ (n : ℕ). Rises (1 + extents_made g) n new) (high (operation.Commit c) is) (commit-rises t (cursor g + 1) (1 + extents_made g) c)) stays
    by_operation (operation.Fold view to) is lawful =
        longer [] (at (operation.Fold view to) is ∙ sym (append-nil (extents g t))) (let more = high (operation.Fold view to) is in omega (arith, more)) stays
    by_operation (operation.Merge table old new) is lawful = by_merge table old new is lawful (nat_eq table t) refl

pub lawful_parts : (limits : Limits) (h more : History) → AreLawful limits (h ++ more) → AreLawful limits h × AreLawfulAfter limits h more
lawful_parts limits h more all = lawful_after limits [] h more all

-- after more events the small extents that there were stand first still, or the first of them is gone
pub stays_on : (limits : Limits) (h more : History) (t : ℕ) (first : ExtentItem) (others : List ExtentItem) → AreLawful limits (h ++ more) → small_items h t ≡ first ∷ others → Stays first others t (h ++ more)
stays_on limits h more t first others all before = end.2
  where
    parts : AreLawful limits h × AreLawfulAfter limits h more
    parts = lawful_parts limits h more all

    low : first.id ≤ extents_made h
    low =
        let small = subst (Rises 1 (1 + extents_made h)) before (Rises-filter is_small_item 1 (1 + extents_made h) (extents h t) (extents-rise limits h parts.0 t)) in
        let bound = Rises-bound (first.id + 1) (1 + extents_made h) others small.1 in
        omega (arith, bound)

    Holds : History → Type 0
    Holds g = AreLawful limits g × (first.id ≤ extents_made g) × Stays first others t g

    one_more : (g : History) (e : Event) → Holds g → Lawful limits g e → Holds (g ++ e ∷ [])
    one_more g e so_far lawful = (AreLawful-push limits g e so_far.0 lawful, (let more = extents_made-push g e in omega (arith, more, so_far.1)), stays_more limits first others t g e so_far.0 so_far.1 so_far.2 lawful)

    end : Holds (h ++ more)
    end = AreLawfulAfter-induct limits Holds one_more h more (parts.0, low, inl (record { more = []; is = before ∙ sym (append-nil (first ∷ others)) })) parts.1

-- where the first of the small extents has the id that the first had, all of those still come first
pub still_first : (limits : Limits) (h more : History) (t : ℕ) (first now : ExtentItem) (others later : List ExtentItem) → AreLawful limits (h ++ more)
    → small_items h t ≡ first ∷ others → small_items (h ++ more) t ≡ now ∷ later → now.id ≡ first.id → Goes_on first others (h ++ more) t
still_first limits h more t first now others later all before after same = by_case (stays_on limits h more t first others all before)
  where
    by_case : Stays first others t (h ++ more) → Goes_on first others (h ++ more) t
    by_case (inl goes) = goes
    by_case (inr gone) = let over = subst (Rises (first.id + 1) (1 + extents_made (h ++ more))) after gone.0 in absurd (omega (arith, over.0, same))

-- where it has another, or there is none, the first is gone
pub gone_after : (limits : Limits) (h more : History) (t : ℕ) (first : ExtentItem) (others : List ExtentItem) → AreLawful limits (h ++ more)
    → small_items h t ≡ first ∷ others → ((later : List ExtentItem) (now : ExtentItem) → small_items (h ++ more) t ≡ now ∷ later → now.id ≢ first.id) → IsGone first.id (h ++ more) t
gone_after limits h more t first others all before other = by_case (stays_on limits h more t first others all before)
  where
    by_case : Stays first others t (h ++ more) → IsGone first.id (h ++ more) t
    by_case (inl goes) = absurd (other (others ++ goes.more) first goes.is refl)
    by_case (inr gone) = gone.1
