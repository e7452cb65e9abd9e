-- What a search finds.
use Rattle.std.specs.Prelude.{◌≡◌, ℕ, ◌<◌, Bool, true, false, ◌&&◌, List}
use Rattle.kq_value_formats.specs.Strings.{occurs_at, is_term_at, contains_cs, has_cs}
use Rattle.kq_value_strings.specs.declared.search.Occurrence.{Occurrence}
use Rattle.kq_value_strings.specs.declared.search.Occurrence.TheVariants.{Any, Term}

-- whether an occurrence at a place counts
abbrev pub counts : Occurrence → List ℕ → List ℕ → ℕ → Bool
counts Any s t i = true
counts Term s t i = is_term_at s t i

-- whether one stands at a place and counts
abbrev pub counts_at : Occurrence → List ℕ → List ℕ → ℕ → Bool
counts_at which s t i = occurs_at s t i && counts which s t i

-- no place below `from` has one that counts
abbrev pub NoneBelow : Occurrence → List ℕ → List ℕ → ℕ → Type 0
NoneBelow which s t from = (k : ℕ) → k < from → counts_at which s t k ≡ false

-- whether there is one that counts
abbrev pub is_found : Occurrence → List ℕ → List ℕ → Bool
is_found Any = contains_cs
is_found Term = has_cs
