-- The properties that are to be strings are strings, where all are supported.
use Rattle.std.proofs.Common.{◌≡◌, ℕ, Bool, true, false, List, [], ◌∷◌, Option, Some, None, All, if◌then◌else◌, refl, subst}
use Rattle.std.specs.Prelude.{IfSome, codes}
use Rattle.std.proofs.lemmas.List.Elements.{All-head, All-tail}
use Rattle.kq_read_commands.specs.Ingestions.{first_named}
use Rattle.kq_read_commands.specs.InText.{IsString, PropertyIn}
use Rattle.kq_read_commands.specs.Meanings.{piece}
use Rattle.kq_read_commands.specs.Unsupported.{first_of, ingest_fault, is_string, named_fault, or_later, unless}
use Rattle.kq_read_control.specs.declared.tree.Property.{Property}
use Rattle.kq_read_literals.proofs.RawLemmas.{same_text}
use Rattle.kq_read_meanings.specs.Types.{same}

wrong : {A : Type 0} {x : ℕ} → Some x ≡ None → A
wrong h = absurd (cc)

neither : (o p : Option ℕ) → or_later o p ≡ None → (o ≡ None) × (p ≡ None)
neither (Some x) p h = wrong h
neither None p h = (refl, h)

fine : (b : Bool) (place : ℕ) → unless b place ≡ None → b ≡ true
fine true place h = refl
fine false place h = wrong h

module _ (text : List ℕ) where
  -- a property of this name is fine only as a string
  abbrev WantsString : List ℕ → Type 0
  WantsString name = (q : Property) → named_fault text name q ≡ None → is_string q ≡ true

  tags_want : WantsString (codes "tags")
  tags_want q h = fine (is_string q) q.value.from h

  conditions_want : WantsString (codes "ingestIfNotExists")
  conditions_want q h = fine (is_string q) q.value.from h

  module _ (name : List ℕ) (wants : WantsString name) where
    abbrev Found : Option Property → Type 0
    Found o = IfSome o (λ q. IsString text q.value)

    here : (q : Property) → ingest_fault text q ≡ None → same (piece text q.name) name ≡ true → is_string q ≡ true
    here q h is = wants q (subst (λ n. named_fault text n q ≡ None) (same_text (piece text q.name) name is) h)

    by_test : (b : Bool) (q : Property) (later : Option Property) → same (piece text q.name) name ≡ b → ingest_fault text q ≡ None → PropertyIn text q → Found later → Found (if b then Some q else later)
    by_test true q later is h stands rest = stands.1 (here q h is)
    by_test false q later is h stands rest = rest

    found : (qs : List Property) → first_of (ingest_fault text) qs ≡ None → All (PropertyIn text) qs → Found (first_named text name qs)
    found [] h all = tt
    found (q ∷ qs) h all =
        let (this, others) = neither (ingest_fault text q) (first_of (ingest_fault text) qs) h in
        by_test (same (piece text q.name) name) q (first_named text name qs) refl this (All-head (PropertyIn text) q qs all) (found qs others (All-tail (PropertyIn text) q qs all))

  pub tags_said : (q : Property) (qs : List Property) → first_of (ingest_fault text) (q ∷ qs) ≡ None → PropertyIn text q → All (PropertyIn text) qs → IfSome (first_named text (codes "tags") (q ∷ qs)) (λ p. IsString text p.value)
  tags_said q qs h one all =
      let (this, others) = neither (ingest_fault text q) (first_of (ingest_fault text) qs) h in
      by_test (codes "tags") tags_want (same (piece text q.name) (codes "tags")) q (first_named text (codes "tags") qs) refl this one (found (codes "tags") tags_want qs others all)

  pub condition_said : (q : Property) (qs : List Property) → first_of (ingest_fault text) (q ∷ qs) ≡ None → PropertyIn text q → All (PropertyIn text) qs → IfSome (first_named text (codes "ingestIfNotExists") (q ∷ qs)) (λ p. IsString text p.value)
  condition_said q qs h one all =
      let (this, others) = neither (ingest_fault text q) (first_of (ingest_fault text) qs) h in
      by_test (codes "ingestIfNotExists") conditions_want (same (piece text q.name) (codes "ingestIfNotExists")) q (first_named text (codes "ingestIfNotExists") qs) refl this one (found (codes "ingestIfNotExists") conditions_want qs others all)
