-- The feeds, the workers and the rows that words ask for.
use Rattle.std.proofs.Common.{◌≡◌, ◌≤◌, ◌&&◌, Bool, true, false, ℕ, cond, List, length, nat_le, ◌∷◌, [], Option, Some, None, option_and_then, option_map, unwrap_or, refl, subst, arith}
use Rattle.std.proofs.lemmas.Bool.Decides.{nat_tests}
use Rattle.std.specs.Str.Parse.{digits_value}
use Rattle.kq_program_options.specs.Words.{Asked, Said, WordText, asked, asked_by, all_asked, are_distinct, feeds_given, is_number, read, number_given, number_in, texts_of}
use Rattle.kq_program_options.specs.Words.Kind.{workers, generate, feed}

-- at most seven, no two equal
pub record AreFeeds (feeds : List WordText) : Type 0 where
  pub distinct : are_distinct feeds ≡ true
  pub few : length feeds ≤ 7

both_true : (a b : Bool) → a && b ≡ true → (a ≡ true) × (b ≡ true)
both_true true b e = (refl, e)
both_true false b e = absurd cc

few_of : (n : ℕ) → nat_le n 7 ≡ true → n ≤ 7
few_of n e = grind (arith, nat_tests, e)

given_if : (b : Bool) (feeds fs : List WordText) → (b ≡ true → AreFeeds feeds) → cond b (Some feeds) None ≡ Some fs → AreFeeds fs
given_if true feeds fs are e = let same : feeds ≡ fs = cc in subst AreFeeds same (are refl)
given_if false feeds fs are e = absurd cc

given : (feeds fs : List WordText) → feeds_given feeds ≡ Some fs → AreFeeds fs
given feeds fs e = given_if (nat_le (length feeds) 7 && are_distinct feeds) feeds fs both e
  where
    both : nat_le (length feeds) 7 && are_distinct feeds ≡ true → AreFeeds feeds
    both t = let parts = both_true (nat_le (length feeds) 7) (are_distinct feeds) t in record { distinct = parts.1; few = few_of (length feeds) parts.0 }

all_given : (w : Option (Option ℕ)) (n : Option (Option ℕ)) (feeds : List WordText) (f : Option (List WordText)) (a : Asked) → feeds_given feeds ≡ f → all_asked w n f ≡ Some a → AreFeeds a.feeds
all_given (Some w) (Some n) feeds (Some fs) a is e =
    let all : Asked = record { workers = unwrap_or w 0; generate = n; feeds = fs } in
    let same : all ≡ a = cc in
    subst (λ (x : Asked). AreFeeds x.feeds) same (given feeds fs is)
all_given (Some w) (Some n) feeds None a is e = absurd cc
all_given (Some w) None feeds f a is e = absurd cc
all_given None n feeds f a is e = absurd cc

of_said : (said : Option (List Said)) (a : Asked) → option_and_then asked_by said ≡ Some a → AreFeeds a.feeds
of_said (Some said) a e = all_given (number_given 0 8 (texts_of workers said)) (number_given 1 1000000 (texts_of generate said)) (texts_of feed said) _ a refl e
of_said None a e = absurd cc

pub asked-feeds : (words : List WordText) (a : Asked) → asked words ≡ Some a → AreFeeds a.feeds
asked-feeds words a e = of_said (read None words) a e

-- ---- the numbers

-- a number, where one is given, isn't above this
abbrev pub IsUpTo : ℕ → Option ℕ → Type 0
IsUpTo high None = Unit {0}
IsUpTo high (Some n) = n ≤ high

some_if : (b : Bool) (high n w : ℕ) → (b ≡ true → n ≤ high) → cond b (Some n) None ≡ Some w → w ≤ high
some_if true high n w few e = let same : n ≡ w = cc in subst (λ (k : ℕ). k ≤ high) same (few refl)
some_if false high n w few e = absurd cc

number_up_to : (low high : ℕ) (text : WordText) (w : ℕ) → number_in low high text ≡ Some w → w ≤ high
number_up_to low high text w e = some_if (is_number text && (nat_le low n && nat_le n high)) high n w few e
  where
    n : ℕ
    n = digits_value 10 text

    few : is_number text && (nat_le low n && nat_le n high) ≡ true → n ≤ high
    few t =
        let both = both_true (is_number text) (nat_le low n && nat_le n high) t in
        let last = both_true (nat_le low n) (nat_le n high) both.1 in
        grind (arith, nat_tests, last.1)

of_one : (high : ℕ) (n : Option ℕ) (w : Option ℕ) → ((k : ℕ) → n ≡ Some k → k ≤ high) → option_map (λ (k : ℕ). Some k) n ≡ Some w → IsUpTo high w
of_one high None w few e = absurd cc
of_one high (Some n) None few e = tt
of_one high (Some n) (Some w) few e = let same : n ≡ w = cc in subst (λ (k : ℕ). k ≤ high) same (few n refl)

given_up_to : (low high : ℕ) (texts : List WordText) (w : Option ℕ) → number_given low high texts ≡ Some w → IsUpTo high w
given_up_to low high [] None e = tt
given_up_to low high [] (Some w) e = absurd cc
given_up_to low high (text ∷ []) w e = of_one high (number_in low high text) w (number_up_to low high text) e
given_up_to low high (text ∷ second ∷ more) w e = absurd cc

-- both numbers of what was asked
AreUpTo : Asked → Type 0
AreUpTo a = (a.workers ≤ 8) × IsUpTo 1000000 a.generate

or_none : (w : Option ℕ) → IsUpTo 8 w → unwrap_or w 0 ≤ 8
or_none None few = omega arith
or_none (Some w) few = few

all_up_to : (w n : Option (Option ℕ)) (f : Option (List WordText)) (a : Asked) → ((k : Option ℕ) → w ≡ Some k → IsUpTo 8 k) → ((k : Option ℕ) → n ≡ Some k → IsUpTo 1000000 k) → all_asked w n f ≡ Some a → AreUpTo a
unfolding AreUpTo
all_up_to (Some w) (Some n) (Some fs) a few rows e =
    let all : Asked = record { workers = unwrap_or w 0; generate = n; feeds = fs } in
    let same : all ≡ a = cc in
    subst AreUpTo same (or_none w (few w refl), rows n refl)
all_up_to (Some w) (Some n) None a few rows e = absurd cc
all_up_to (Some w) None f a few rows e = absurd cc
all_up_to None n f a few rows e = absurd cc

up_to_said : (said : Option (List Said)) (a : Asked) → option_and_then asked_by said ≡ Some a → AreUpTo a
up_to_said (Some said) a e =
    all_up_to (number_given 0 8 (texts_of workers said)) (number_given 1 1000000 (texts_of generate said)) _ a (given_up_to 0 8 (texts_of workers said)) (given_up_to 1 1000000 (texts_of generate said)) e
up_to_said None a e = absurd cc

pub asked-workers : (words : List WordText) (a : Asked) → asked words ≡ Some a → a.workers ≤ 8
unfolding AreUpTo
asked-workers words a e = (up_to_said (read None words) a e).0

pub asked-rows : (words : List WordText) (a : Asked) → asked words ≡ Some a → IsUpTo 1000000 a.generate
unfolding AreUpTo
asked-rows words a e = (up_to_said (read None words) a e).1
