-- Of members with one key the last is kept.
use Rattle.std.proofs.Common.{◌≡◌, ℕ, Bool, true, false, cond, true≢false, List, Option, Some, None, bytes_eq, option_and_then, refl, sym, ap, ◌∙◌, subst}
use Rattle.std.proofs.lemmas.Slice.Eq.{bytes_eq-Decides}
use Rattle.json.specs.Json as source
use Rattle.serde_json.specs.Data.{Data, Members, no_members, put}
use Rattle.serde_json.specs.Find.{get_member}
use Rattle.serde_json.specs.Read.{of_json, of_members}
use Rattle.serde_json.proofs.Views.{get_member-put, get_member-put_other}
use Rattle.kq_run_laws.specs.Objects.{or_else, last_of, KeepsLast}

-- a member was read, and then the others
record Reads (l : List ℕ) (j : source.Json) (ms : source.Members) (found kept : Members) : Type 0 where
  value : Data
  is : of_json j ≡ Some value
  later : of_members ms (put l value found) ≡ Some kept

reads : (l : List ℕ) (j : source.Json) (ms : source.Members) (found kept : Members) (o : Option Data) → of_json j ≡ o → option_and_then (λ d. of_members ms (put l d found)) o ≡ Some kept → Reads l j ms found kept
reads l j ms found kept (Some d) e h = record { value = d; is = e; later = h }
reads l j ms found kept None e h = absurd (cc)

differ : (l k : List ℕ) → bytes_eq l k ≡ false → k ≡ l → ⊥
differ l k e h = true≢false (sym ((bytes_eq-Decides l k).1 (sym h)) ∙ e)

-- the key stands in no later member, and here it does or doesn't
none_later : (k l : List ℕ) (j : source.Json) (o : Option source.Json) (b : Bool) → or_else o (cond b (Some j) None) ≡ None → (o ≡ None) × (b ≡ false)
none_later k l j (Some i) b e = absurd (cc)
none_later k l j None true e = absurd (cc)
none_later k l j None false e = (refl, refl)

none_kept : (k : List ℕ) (ms : source.Members) (found kept : Members) → last_of k ms ≡ None → of_members ms found ≡ Some kept → get_member k kept ≡ get_member k found
none_kept k source.no_members found kept e h = let same : found ≡ kept = cc in ap (get_member k) (sym same)
none_kept k (source.member l j ms) found kept e h =
    let r = reads l j ms found kept (of_json j) refl h in
    let n = none_later k l j (last_of k ms) (bytes_eq l k) e in
    none_kept k ms (put l r.value found) kept n.0 r.later ∙ get_member-put_other k l r.value found (differ l k n.1)

last_kept : (k : List ℕ) (i : source.Json) (ms : source.Members) (found kept : Members) → last_of k ms ≡ Some i → of_members ms found ≡ Some kept → get_member k kept ≡ of_json i
last_kept k i source.no_members found kept e h = absurd (cc)
last_kept k i (source.member l j ms) found kept e h =
    let r = reads l j ms found kept (of_json j) refl h in
    by_place k i l j ms found kept r (λ f. last_kept k i ms (put l r.value found) kept f r.later) (last_of k ms) refl (bytes_eq l k) refl e
  where
    by_place : (k : List ℕ) (i : source.Json) (l : List ℕ) (j : source.Json) (ms : source.Members) (found kept : Members) → Reads l j ms found kept
        → (last_of k ms ≡ Some i → get_member k kept ≡ of_json i)
        → (o : Option source.Json) → last_of k ms ≡ o → (b : Bool) → bytes_eq l k ≡ b → or_else o (cond b (Some j) None) ≡ Some i → get_member k kept ≡ of_json i
    by_place k i l j ms found kept r later (Some x) f b g e = later (f ∙ e)
    by_place k i l j ms found kept r later None f false g e = absurd (cc)
    by_place k i l j ms found kept r later None f true g e =
        let same : l ≡ k = (bytes_eq-Decides l k).0 g in
        let here : j ≡ i = cc in
        none_kept k ms (put l r.value found) kept f r.later ∙ subst (λ (q : List ℕ). get_member q (put l r.value found) ≡ Some r.value) same (get_member-put l r.value found) ∙ sym r.is ∙ ap of_json here

pub keeps : (ms : source.Members) (kept : Members) → of_members ms no_members ≡ Some kept → KeepsLast ms kept
keeps ms kept h = record {
  last = λ k j e. last_kept k j ms no_members kept e h;
  others = λ k e. none_kept k ms no_members kept e h;
}
