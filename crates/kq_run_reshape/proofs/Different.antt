-- The different rows of one row more.
use Rattle.std.proofs.Common.{◌≡◌, ◌<◌, ◌+◌, ℕ, zero, suc, min, Bool, true, false, cond, List, [], ◌∷◌, ◌++◌, length, take, map, refl, sym, ap, ◌∙◌, subst, arith}
use Rattle.std.specs.List.{All}
use Rattle.std.proofs.lemmas.List.{length-map, map-append, take_more}
use Rattle.std.proofs.lemmas.List.Elements.{All-push}
use Rattle.kq_store_rows.specs.Chunks.{HasWidth, row_at}
use Rattle.kq_value.specs.declared.value.Value.{Value}
use Rattle.kq_value.specs.Same.{times}
use Rattle.kq_value.specs.Values.{is_same_row}
use Rattle.kq_value.proofs.Equals.{is_same_row-Decides}
use Rattle.kq_value.proofs.SameLemmas.{times-append}
use Rattle.kq_run_reshape.specs.declared.known.Known.{Known}
use Rattle.kq_run_reshape.specs.Cells.{cell_at}
use Rattle.kq_run_reshape.specs.Distinct.{Apart, chosen}
use Rattle.kq_run_reshape.specs.Known.{IsFiled}

alone : (n : ℕ) → n + 0 ≡ n
alone n = omega arith

-- how often a row stands among the choices, with one row more
one_more : (columns : List ℕ) (rows : List (List Value)) (row r : List Value) → times r (map (chosen columns) (rows ++ row ∷ [])) ≡ times r (map (chosen columns) rows) + cond (is_same_row r (chosen columns row)) 1 0
one_more columns rows row r = ap (times r) (map-append (chosen columns) rows (row ∷ [])) ∙ times-append r (map (chosen columns) rows) (chosen columns row ∷ []) ∙ ap (λ (n : ℕ). times r (map (chosen columns) rows) + n) (alone (cond (is_same_row r (chosen columns row)) 1 0))

new_count : (all : ℕ) (r c : List Value) (out : List (List Value)) (b : Bool) → is_same_row r c ≡ b → times c out ≡ 0 → times r out ≡ min 1 all → times r out + cond b 1 0 ≡ min 1 (all + cond b 1 0)
new_count all r c out true e none each = let gone : times r out ≡ 0 = ap (λ (s : List Value). times s out) ((is_same_row-Decides r c).0 e) ∙ none in omega (arith, gone, each)
new_count all r c out false e none each = omega (arith, each)

known_count : (all : ℕ) (r c : List Value) (out : List (List Value)) (b : Bool) → is_same_row r c ≡ b → 0 < times c out → times r out ≡ min 1 all → times r out ≡ min 1 (all + cond b 1 0)
known_count all r c out true e some each = let there : times r out ≡ times c out = ap (λ (s : List Value). times s out) ((is_same_row-Decides r c).0 e) in omega (arith, there, each)
known_count all r c out false e some each = omega (arith, each)

-- a choice that is new is put last
pub Apart-new : (columns : List ℕ) (rows out : List (List Value)) (row : List Value) → Apart columns rows out → times (chosen columns row) out ≡ 0 → Apart columns (rows ++ row ∷ []) (out ++ chosen columns row ∷ [])
Apart-new columns rows out row a none = record {
  each = λ r.
      times-append r out (chosen columns row ∷ []) ∙ ap (λ (n : ℕ). times r out + n) (alone (cond (is_same_row r (chosen columns row)) 1 0))
      ∙ new_count (times r (map (chosen columns) rows)) r (chosen columns row) out (is_same_row r (chosen columns row)) refl none (a.each r)
      ∙ ap (λ (n : ℕ). min 1 n) (sym (one_more columns rows row r));
}

-- a choice that is known is left out
pub Apart-known : (columns : List ℕ) (rows out : List (List Value)) (row : List Value) → Apart columns rows out → 0 < times (chosen columns row) out → Apart columns (rows ++ row ∷ []) out
Apart-known columns rows out row a some = record {
  each = λ r. known_count (times r (map (chosen columns) rows)) r (chosen columns row) out (is_same_row r (chosen columns row)) refl some (a.each r) ∙ ap (λ (n : ℕ). min 1 n) (sym (one_more columns rows row r));
}

-- the rows so far, and what is known of them
pub record Gathers (columns : List ℕ) (rows : List (List Value)) (k : Known) : Type 0 where
  pub filed : IsFiled k
  pub wide : All (HasWidth (length columns)) k.rows
  pub apart : Apart columns rows k.rows

pub Gathers-new : (columns : List ℕ) (rows : List (List Value)) (i : ℕ) (row : List Value) (k l : Known) → i < length rows → row ≡ chosen columns (row_at rows i)
    → Gathers columns (take i rows) k → times row k.rows ≡ 0 → IsFiled l → l.rows ≡ k.rows ++ row ∷ [] → Gathers columns (take (i + 1) rows) l
Gathers-new columns rows i row k l within is g none filed more = record {
  filed = filed;
  wide = subst (All (HasWidth (length columns))) (sym more) (All-push (HasWidth (length columns)) k.rows row g.wide (ap length is ∙ length-map columns (cell_at (row_at rows i))));
  apart = subst (λ (rs : List (List Value)). Apart columns rs l.rows) (sym (take_more rows i [] within))
      (subst (Apart columns (take i rows ++ row_at rows i ∷ [])) (ap (λ (r : List Value). k.rows ++ r ∷ []) (sym is) ∙ sym more)
      (Apart-new columns (take i rows) k.rows (row_at rows i) g.apart (ap (λ (r : List Value). times r k.rows) (sym is) ∙ none)));
}

pub Gathers-known : (columns : List ℕ) (rows : List (List Value)) (i : ℕ) (row : List Value) (k : Known) → i < length rows → row ≡ chosen columns (row_at rows i)
    → Gathers columns (take i rows) k → 0 < times row k.rows → Gathers columns (take (i + 1) rows) k
Gathers-known columns rows i row k within is g some = record {
  filed = g.filed;
  wide = g.wide;
  apart = subst (λ (rs : List (List Value)). Apart columns rs k.rows) (sym (take_more rows i [] within))
      (Apart-known columns (take i rows) k.rows (row_at rows i) g.apart (subst (λ (r : List Value). 0 < times r k.rows) is some));
}

-- what a test denies that holds for more than none
pub none_by_test : (n : ℕ) (b : Bool) → (0 < n → b ≡ true) → b ≡ false → n ≡ 0
none_by_test zero b h e = refl
none_by_test (suc n) b h e = let t : b ≡ true = h (omega arith) in absurd (cc)
