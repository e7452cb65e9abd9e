-- What the batches of a cascade give tables.
use Rattle.std.proofs.Common.{◌≡◌, ◌<◌, ◌≤◌, ◌+◌, ◌*◌, ℕ, Bool, true, false, cond, List, [], ◌∷◌, ◌++◌, All, length, nat_eq, refl, ap, ◌∙◌, length-append, arith}
use Rattle.std.proofs.lemmas.Bool.{ne_eqb}
use Rattle.std.specs.List.{sum_by}
use Rattle.std.proofs.lemmas.List.Elements.{All-head, All-tail}
use Rattle.std.proofs.lemmas.List.Sums.{sum_by-cons}
use Rattle.kq_store_rows.specs.Numbered.{numbered}
use Rattle.kq_catalog_journal.specs.declared.batch.Batch.{Batch}
use Rattle.kq_catalog_journal.specs.declared.batch.Failure.{Failure}
use Rattle.kq_catalog_journal.specs.Derived.{Queries, Cascade, Made, Failed, TooMany, Comes, first, after, IsDerived}
use Rattle.kq_catalog_journal.specs.Force.{Rules}
use Rattle.kq_catalog_journal.specs.Records.{batch_records, batch_item, batch_items}
use Rattle.kq_catalog_journal.proofs.Records.{length-numbered}

-- ---- the own batch comes first

-- batches that begin with this one
pub record IsLed (b : Batch) (bs : List Batch) : Type 0 where
  pub others : List Batch
  pub is : bs ≡ b ∷ others

abbrev LedTo : Batch → Cascade → Type 0
LedTo b (Made batches failures) = IsLed b batches
LedTo b (Failed target cause) = Unit {0}
LedTo b TooMany = Unit {0}

after-led : (b : Batch) (o : Cascade) → LedTo b (after (b ∷ []) [] o)
after-led b (Made batches failures) = record { others = batches; is = refl }
after-led b (Failed target cause) = tt
after-led b TooMany = tt

Comes-led : (limit : ℕ) (r : Rules) (q : Queries) (b : Batch) (n : ℕ) (o : Cascade) (m : ℕ) → Comes limit r q b n o m → LedTo b o
Comes-led limit r q b n _ m (first {o = o} follows) = after-led b o

pub IsDerived-led : (limit : ℕ) (r : Rules) (q : Queries) (own : Batch) (bs : List Batch) (fs : List Failure) → IsDerived limit r q own (Made bs fs) → IsLed own bs
IsDerived-led limit r q own bs fs derived = Comes-led limit r q own 0 (Made bs fs) derived.queries derived.comes

-- ---- how much they give

abbrev pub IsShort : Batch → Type 0
IsShort b = length b.rows ≤ 1048576

-- batches that aren't long give a table no more rows than so many a batch
pub few_given_by : (t cursor ordinal : ℕ) (bs : List Batch) → All IsShort bs → length (batch_records t cursor ordinal bs) ≤ length bs * 1048576
few_given_by t cursor ordinal [] all = omega arith
few_given_by t cursor ordinal (b ∷ bs) all = by_test (nat_eq b.table t) (λ o. few_given_by t cursor o bs (All-tail IsShort b bs all)) (All-head IsShort b bs all)
  where
    by_test : (is : Bool) → ((o : ℕ) → length (batch_records t cursor o bs) ≤ length bs * 1048576) → length b.rows ≤ 1048576
        → length (cond is (numbered cursor ordinal b.rows ++ batch_records t cursor (ordinal + length b.rows) bs) (batch_records t cursor ordinal bs)) ≤ length (b ∷ bs) * 1048576
    by_test true rest here =
        let both = length-append (numbered cursor ordinal b.rows) (batch_records t cursor (ordinal + length b.rows) bs) in
        let front = length-numbered cursor ordinal b.rows in
        let back = rest (ordinal + length b.rows) in
        omega (arith, both, front, back, here)
    by_test false rest here = let same = rest ordinal in omega (arith, same)

-- and have no more altogether
pub few_rows_in : (bs : List Batch) → All IsShort bs → sum_by (λ (b : Batch). length b.rows) bs ≤ length bs * 1048576
few_rows_in [] all = omega arith
few_rows_in (b ∷ bs) all =
    let here : length b.rows ≤ 1048576 = All-head IsShort b bs all in
    let rest = few_rows_in bs (All-tail IsShort b bs all) in
    let both = sum_by-cons (λ (x : Batch). length x.rows) b bs in
    omega (arith, here, rest, both)

-- ---- tables that aren't there

abbrev pub IsBefore : ℕ → Batch → Type 0
IsBefore n b = b.table < n

-- batches of tables before a number give none from there on
pub batch_records-past : (n t cursor ordinal : ℕ) (bs : List Batch) → All (IsBefore n) bs → n ≤ t → batch_records t cursor ordinal bs ≡ []
batch_records-past n t cursor ordinal [] all past = refl
batch_records-past n t cursor ordinal (b ∷ bs) all past =
    let here : b.table < n = All-head (IsBefore n) b bs all in
    ap (λ (is : Bool). cond is (numbered cursor ordinal b.rows ++ batch_records t cursor (ordinal + length b.rows) bs) (batch_records t cursor ordinal bs)) (ne_eqb b.table t (λ same. absurd (omega (arith, here, past, same))))
    ∙ batch_records-past n t cursor ordinal bs (All-tail (IsBefore n) b bs all) past

pub batch_items-past : (n t cursor ordinal id : ℕ) (bs : List Batch) → All (IsBefore n) bs → n ≤ t → batch_items t cursor ordinal id bs ≡ []
batch_items-past n t cursor ordinal id [] all past = refl
batch_items-past n t cursor ordinal id (b ∷ bs) all past =
    let here : b.table < n = All-head (IsBefore n) b bs all in
    ap (λ (is : Bool). cond is (batch_item id cursor ordinal b ∷ batch_items t cursor (ordinal + length b.rows) (id + 1) bs) (batch_items t cursor ordinal (id + 1) bs)) (ne_eqb b.table t (λ same. absurd (omega (arith, here, past, same))))
    ∙ batch_items-past n t cursor ordinal (id + 1) bs (All-tail (IsBefore n) b bs all) past
