-- Indexes of tags that get more, and a log with a commit more.
use Rattle.std.proofs.Common.{◌≡◌, ◌<◌, ◌+◌, ℕ, Bool, true, false, ◌&&◌, ◌||◌, List, [], ◌∷◌, ◌++◌, length, take, get_or, Option, Some, None, nat_eq, refl, ap, sym, ◌∙◌}
use Rattle.std.specs.Option.{option_or}
use Rattle.std.specs.List.{list_any}
use Rattle.std.specs.Cmp.Lexicographic.{pointwise}
use Rattle.std.proofs.lemmas.List.Folds.{list_any_more}
use Rattle.kq_catalog_journal.specs.declared.batch.Batch.{Batch}
use Rattle.kq_catalog_journal.specs.declared.event.Commit.{Commit}
use Rattle.kq_catalog_journal.specs.History.{Log}
use Rattle.kq_catalog_journal.specs.kq_value_text_sets.Names.{is_among}
use Rattle.kq_catalog_journal.specs.Tagged.{gives_tag, is_tagged_by}
use Rattle.kq_catalog_journal.proofs.Tagged.{first_tagged-push}
use Rattle.kq_catalog_indexes.specs.declared.tag_entry.Entry.{Entry}
use Rattle.kq_catalog_indexes.specs.Tags.{cursor_at, given_if, is_key, AddsTags}
use Rattle.kq_catalog.specs.Tagged.{TellsTags}

-- what one step adds and then another, under one cursor
pub AddsTags-then : (a b c : List Entry) (p q r : ℕ → List ℕ → Bool) (cursor : ℕ) → AddsTags a p cursor b → AddsTags b q cursor c → ((t : ℕ) (tag : List ℕ) → r t tag ≡ (p t tag || q t tag)) → AddsTags a r cursor c
AddsTags-then a b c p q r cursor first second either = record { is = λ t tag. second.is t tag ∙ ap (λ (o : Option ℕ). option_or o (given_if (q t tag) cursor)) (first.is t tag) ∙ both (cursor_at a t tag) (p t tag) (q t tag) ∙ ap (λ (x : Bool). option_or (cursor_at a t tag) (given_if x cursor)) (sym (either t tag)) }
  where
    both : (o : Option ℕ) (x y : Bool) → option_or (option_or o (given_if x cursor)) (given_if y cursor) ≡ option_or o (given_if (x || y) cursor)
    both None true y = refl
    both None false y = refl
    both (Some k) x y = refl

and_or : (a x y : Bool) → (a && (x || y)) ≡ ((a && x) || (a && y))
and_or true x y = refl
and_or false x y = refl

-- one tag more of one table
pub tags_more : (es all new : List Entry) (table : ℕ) (tags : List (List ℕ)) (i : ℕ) (next : List ℕ) (cursor : ℕ) → i < length tags → next ≡ get_or tags i next
    → AddsTags es (λ t tag. nat_eq table t && is_among tag (take i tags)) cursor all → AddsTags all (is_key table next) cursor new → AddsTags es (λ t tag. nat_eq table t && is_among tag (take (i + 1) tags)) cursor new
tags_more es all new table tags i next cursor within is before one =
    AddsTags-then es all new (λ t tag. nat_eq table t && is_among tag (take i tags)) (is_key table next) (λ t tag. nat_eq table t && is_among tag (take (i + 1) tags)) cursor before one
    (λ t tag. ap (λ (b : Bool). nat_eq table t && b) (list_any_more (λ other. pointwise nat_eq other tag) tags i next within ∙ ap (λ (x : List ℕ). is_among tag (take i tags) || pointwise nat_eq x tag) (sym is))
    ∙ and_or (nat_eq table t) (is_among tag (take i tags)) (pointwise nat_eq next tag))

-- one batch more
pub batches_more : (es all new : List Entry) (batches : List Batch) (i : ℕ) (next : Batch) (cursor : ℕ) → i < length batches → next ≡ get_or batches i next
    → AddsTags es (λ t tag. list_any (gives_tag t tag) (take i batches)) cursor all → AddsTags all (λ t tag. nat_eq next.table t && is_among tag next.tags) cursor new → AddsTags es (λ t tag. list_any (gives_tag t tag) (take (i + 1) batches)) cursor new
batches_more es all new batches i next cursor within is before one =
    AddsTags-then es all new (λ t tag. list_any (gives_tag t tag) (take i batches)) (λ t tag. gives_tag t tag next) (λ t tag. list_any (gives_tag t tag) (take (i + 1) batches)) cursor before one
    (λ t tag. list_any_more (gives_tag t tag) batches i next within ∙ ap (λ (b : Batch). list_any (gives_tag t tag) (take i batches) || gives_tag t tag b) (sym is))

-- the index after a commit tells the tags of the log with the commit
pub TellsTags-push : (index new : List Entry) (l : Log) (c : Commit) → TellsTags index l → AddsTags index (λ t tag. is_tagged_by t tag c) (length l + 1) new → TellsTags new (l ++ c ∷ [])
TellsTags-push index new l c tells adds = record { is = λ t tag. adds.is t tag ∙ ap (λ (o : Option ℕ). option_or o (given_if (is_tagged_by t tag c) (length l + 1))) (tells.is t tag) ∙ sym (first_tagged-push l c t tag) }
