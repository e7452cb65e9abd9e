-- What lists of entries find.
use Rattle.std.proofs.Common.{◌≡◌, ℕ, Bool, true, false, cond, not, ◌&&◌, List, [], ◌∷◌, ◌++◌, Option, Some, None, nat_eq, refl, ap, sym, ◌∙◌}
use Rattle.std.specs.Option.{option_or}
use Rattle.std.specs.List.{filter}
use Rattle.std.specs.Cmp.Lexicographic.{pointwise, same_text}
use Rattle.std.proofs.lemmas.Bool.{eqb-true}
use Rattle.kq_catalog_indexes.specs.declared.tag_entry.Entry.{Entry}
use Rattle.kq_catalog_indexes.specs.Tags.{is_key, cursor_at, given_if, AddsTags, key_hash}
use Rattle.kq_catalog_indexes.specs.TagTrees.{goes_right, is_right, IsSide, FindAlike}

both : (a b : Bool) → (a && b) ≡ true → (a ≡ true) × (b ≡ true)
both true b is = (refl, is)
both false b is = cc

-- one key is told apart from no other
pub same_key : (t : ℕ) (tag : List ℕ) (u : ℕ) (other : List ℕ) → is_key t tag u other ≡ true → (t ≡ u) × (tag ≡ other)
same_key t tag u other is = let parts = both (nat_eq t u) (pointwise nat_eq tag other) is in (eqb-true t u parts.0, same_text tag other (sym parts.1))

pub cursor_at-append : (xs ys : List Entry) (t : ℕ) (tag : List ℕ) → cursor_at (xs ++ ys) t tag ≡ option_or (cursor_at xs t tag) (cursor_at ys t tag)
cursor_at-append [] ys t tag = refl
cursor_at-append (e ∷ xs) ys t tag = by_test (is_key e.table e.tag t tag) (cursor_at-append xs ys t tag)
  where
    by_test : (is : Bool) → cursor_at (xs ++ ys) t tag ≡ option_or (cursor_at xs t tag) (cursor_at ys t tag)
        → cond is (Some e.cursor) (cursor_at (xs ++ ys) t tag) ≡ option_or (cond is (Some e.cursor) (cursor_at xs t tag)) (cursor_at ys t tag)
    by_test true more = refl
    by_test false more = more

no_cursor : (b : Bool) (o : Option ℕ) → o ≡ None → o ≡ cond b o None
no_cursor true o is = refl
no_cursor false o is = is

-- what passes by its key is found as before, and nothing else is
pub cursor_at-filter : (q : ℕ → List ℕ → Bool) (es : List Entry) (t : ℕ) (tag : List ℕ) → cursor_at (filter (λ (e : Entry). q e.table e.tag) es) t tag ≡ cond (q t tag) (cursor_at es t tag) None
cursor_at-filter q [] t tag = no_cursor (q t tag) None refl
cursor_at-filter q (e ∷ es) t tag = by_tests (q e.table e.tag) refl (is_key e.table e.tag t tag) refl (cursor_at-filter q es t tag)
  where
    rest : List Entry
    rest = filter (λ (x : Entry). q x.table x.tag) es

    tested : (k : Bool) → q e.table e.tag ≡ k → is_key e.table e.tag t tag ≡ true → q t tag ≡ k
    tested k here is = let same = same_key e.table e.tag t tag is in sym (ap (λ (n : ℕ). q n e.tag) same.0 ∙ ap (q t) same.1) ∙ here

    by_tests : (k : Bool) → q e.table e.tag ≡ k → (is : Bool) → is_key e.table e.tag t tag ≡ is → cursor_at rest t tag ≡ cond (q t tag) (cursor_at es t tag) None
        → cursor_at (cond k (e ∷ rest) rest) t tag ≡ cond (q t tag) (cond is (Some e.cursor) (cursor_at es t tag)) None
    by_tests true here true is more = ap (λ (b : Bool). cond b (Some e.cursor) (cursor_at rest t tag)) is ∙ ap (λ (b : Bool). cond b (Some e.cursor) None) (sym (tested true here is))
    by_tests true here false is more = ap (λ (b : Bool). cond b (Some e.cursor) (cursor_at rest t tag)) is ∙ more
    by_tests false here true is more = more ∙ ap (λ (b : Bool). cond b (cursor_at es t tag) None) (tested false here is) ∙ ap (λ (b : Bool). cond b (Some e.cursor) None) (sym (tested false here is))
    by_tests false here false is more = more

or_none : (o : Option ℕ) → option_or o None ≡ o
or_none None = refl
or_none (Some k) = refl

or_assoc : (a b c : Option ℕ) → option_or a (option_or b c) ≡ option_or (option_or a b) c
or_assoc None b c = refl
or_assoc (Some k) b c = refl

-- what goes to the right is found there
pub found_right : (level : ℕ) (left right : List Entry) (t : ℕ) (tag : List ℕ) → IsSide level false left → goes_right level (key_hash t tag) ≡ true → cursor_at (left ++ right) t tag ≡ cursor_at right t tag
found_right level left right t tag side goes = cursor_at-append left right t tag ∙ ap (λ (o : Option ℕ). option_or o (cursor_at right t tag)) (side.none t tag goes)

-- and what goes to the left there
pub found_left : (level : ℕ) (left right : List Entry) (t : ℕ) (tag : List ℕ) → IsSide level true right → goes_right level (key_hash t tag) ≡ false → cursor_at (left ++ right) t tag ≡ cursor_at left t tag
found_left level left right t tag side goes = cursor_at-append left right t tag ∙ ap (λ (o : Option ℕ). option_or (cursor_at left t tag) o) (side.none t tag goes) ∙ or_none (cursor_at left t tag)

-- one that is put last is added
pub AddsTags-last : (es all new : List Entry) (e : Entry) → all ≡ es ++ e ∷ [] → FindAlike all new → AddsTags es (is_key e.table e.tag) e.cursor new
AddsTags-last es all new e is alike = record { is = λ t tag. sym (alike.is t tag) ∙ ap (λ (xs : List Entry). cursor_at xs t tag) is ∙ cursor_at-append es (e ∷ []) t tag }

-- one that is added on the right is added to both
pub AddsTags-right : (left right new : List Entry) (test : ℕ → List ℕ → Bool) (cursor : ℕ) → AddsTags right test cursor new → AddsTags (left ++ right) test cursor (left ++ new)
AddsTags-right left right new test cursor adds = record {
  is = λ t tag.
      cursor_at-append left new t tag ∙ ap (option_or (cursor_at left t tag)) (adds.is t tag) ∙ or_assoc (cursor_at left t tag) (cursor_at right t tag) (given_if (test t tag) cursor)
      ∙ ap (λ (o : Option ℕ). option_or o (given_if (test t tag) cursor)) (sym (cursor_at-append left right t tag));
}

-- and so is one on the left, if the right has nothing of its key
pub AddsTags-left : (level : ℕ) (left right new : List Entry) (t : ℕ) (tag : List ℕ) (cursor : ℕ) → IsSide level true right → goes_right level (key_hash t tag) ≡ false → AddsTags left (is_key t tag) cursor new → AddsTags (left ++ right) (is_key t tag) cursor (new ++ right)
AddsTags-left level left right new t tag cursor side goes adds = record { is = λ u other. cursor_at-append new right u other ∙ ap (λ (o : Option ℕ). option_or o (cursor_at right u other)) (adds.is u other) ∙ by_test u other (is_key t tag u other) refl ∙ ap (λ (o : Option ℕ). option_or o (given_if (is_key t tag u other) cursor)) (sym (cursor_at-append left right u other)) }
  where
    swap : (a b c : Option ℕ) → b ≡ None → option_or (option_or a c) b ≡ option_or (option_or a b) c
    swap None b c is = ap (option_or c) is ∙ or_none c ∙ ap (λ (o : Option ℕ). option_or o c) (sym is)
    swap (Some k) b c is = refl

    by_test : (u : ℕ) (other : List ℕ) (is : Bool) → is_key t tag u other ≡ is
        → option_or (option_or (cursor_at left u other) (given_if is cursor)) (cursor_at right u other) ≡ option_or (option_or (cursor_at left u other) (cursor_at right u other)) (given_if is cursor)
    by_test u other true is =
        let same = same_key t tag u other is in
        let there : goes_right level (key_hash u other) ≡ false = sym (ap (λ (n : ℕ). goes_right level (key_hash n tag)) same.0 ∙ ap (λ (x : List ℕ). goes_right level (key_hash u x)) same.1) ∙ goes in
        swap (cursor_at left u other) (cursor_at right u other) (Some cursor) (side.none u other there)
    by_test u other false is = ap (λ (o : Option ℕ). option_or o (cursor_at right u other)) (or_none (cursor_at left u other)) ∙ sym (or_none (option_or (cursor_at left u other) (cursor_at right u other)))

-- a list that is parted finds the same
pub FindAlike-parted : (level : ℕ) (es left right : List Entry) → left ≡ filter (λ e. not (is_right level e)) es → right ≡ filter (is_right level) es → FindAlike es (left ++ right)
FindAlike-parted level es left right is_left is_right_of = rw (is_left, is_right_of) record { is = λ t tag. parted (goes_right level (key_hash t tag)) (cursor_at es t tag) ∙ sym (cursor_at-append lefts rights t tag ∙ ap (λ (o : Option ℕ). option_or o (cursor_at rights t tag)) (cursor_at-filter (λ u x. not (goes_right level (key_hash u x))) es t tag) ∙ ap (option_or (cond (not (goes_right level (key_hash t tag))) (cursor_at es t tag) None)) (cursor_at-filter (λ u x. goes_right level (key_hash u x)) es t tag)) }
  where
    lefts : List Entry
    lefts = filter (λ e. not (is_right level e)) es

    rights : List Entry
    rights = filter (is_right level) es

    parted : (b : Bool) (o : Option ℕ) → o ≡ option_or (cond (not b) o None) (cond b o None)
    parted true o = refl
    parted false o = sym (or_none o)

-- each part is a side
pub IsSide-left : (level : ℕ) (es left : List Entry) → left ≡ filter (λ e. not (is_right level e)) es → IsSide level false left
IsSide-left level es left is = rw is record { none = λ t tag goes. cursor_at-filter (λ u x. not (goes_right level (key_hash u x))) es t tag ∙ ap (λ (b : Bool). cond (not b) (cursor_at es t tag) None) goes }

pub IsSide-right : (level : ℕ) (es right : List Entry) → right ≡ filter (is_right level) es → IsSide level true right
IsSide-right level es right is = rw is record { none = λ t tag goes. cursor_at-filter (λ u x. goes_right level (key_hash u x)) es t tag ∙ ap (λ (b : Bool). cond b (cursor_at es t tag) None) goes }
