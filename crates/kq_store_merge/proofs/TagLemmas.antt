-- The tags of extents, one extent after another.
use Rattle.std.proofs.Common.{◌≡◌, ◌<◌, ℕ, ◌+◌, List, [], ◌∷◌, ◌++◌, length, get_or, map, take, append-nil, refl, sym, ap, ◌∙◌}
use Rattle.std.proofs.lemmas.List.{take_more}
use Rattle.std.proofs.lemmas.List.Concat.{flat_map-append}
use Rattle.kq_store_extent.specs.Seen.{ExtentView}
use Rattle.kq_store_extent.specs.Wide.{wide}
use Rattle.kq_value.specs.declared.schema.Field.{Field}
use Rattle.kq_store_merge.specs.Merges.{tags_in}

-- the tags of one extent more
pub tags_in-more : (es : List ExtentView) (i : ℕ) (e : ExtentView) → i < length es → get_or es i e ≡ e → tags_in (take i es) ++ e.tags ≡ tags_in (take (i + 1) es)
tags_in-more es i e within is =
    ap (λ (ts : List (List ℕ)). tags_in (take i es) ++ ts) (sym (append-nil e.tags)) ∙ sym (flat_map-append (λ (x : ExtentView). x.tags) (take i es) (e ∷ []))
    ∙ ap tags_in (ap (λ (x : ExtentView). take i es ++ x ∷ []) (sym is) ∙ sym (take_more es i e within))

-- further columns leave the tags
pub tags_in-wide : (fields : List Field) (es : List ExtentView) → tags_in (map (wide fields) es) ≡ tags_in es
tags_in-wide fields [] = refl
tags_in-wide fields (e ∷ es) = ap (λ (ts : List (List ℕ)). e.tags ++ ts) (tags_in-wide fields es)
