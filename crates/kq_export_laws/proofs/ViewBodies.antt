-- The body of a view has nothing that the body of an export may not have.
use Rattle.std.proofs.Common.{◌≡◌, ◌∙◌, ℕ, Bool, true, false, cond, List, [], ◌∷◌, ◌++◌, Option, Some, None, refl, sym}
use Rattle.std.specs.Prelude.{not, option_map}
use Rattle.std.specs.List.{find}
use Rattle.kq_view_body.specs.Bodies.{Part, table_name, summarize as summarize_part, foreign, is_steps, is_body}
use Rattle.kq_view_body.specs.Exports.{foreign_body}
use Rattle.kq_view_body.specs.Parts.{foreign_at, lets_place, none, operator_parts, pipe_parts, query_parts}
use Rattle.kq_read_grammar.specs.Trees.{TabularTree, pipeline, table as table_source, nested, worded, Operators, no_operator, and_operator, BodyTree, filter, extend, project, project_away, project_rename, take, count, sort, top, distinct, distinct_all, summarize, summarize_by, join, unite, mv_expand, LetTree, QueryTree}
use Rattle.kq_read_meanings.specs.Names.{name_said, name_place}
use Rattle.kq_read_tokens.specs.Bytes.{is_text}
use Rattle.kq_export_laws.specs.Symbols.{Spoken, source_name, place_of, tabular_symbols, operators_symbols, body_symbols, lets_symbols, query_symbols}
use Rattle.kq_export_laws.specs.Searches.{found, is_foreign}
use Rattle.kq_export_laws.proofs.Found.{found_in_both}
use Rattle.kq_export_laws.proofs.Foreign.{body_found}

module _ (text name : List ℕ) where
  abbrev HasNone : List Spoken → Type 0
  HasNone xs = None ≡ found (is_foreign text name) xs

  row_parts : (m : Option ℕ) (ps : List Part) → is_steps (foreign_at m ++ ps) ≡ true → (None ≡ m) × (is_steps ps ≡ true)
  row_parts None ps h = (refl, h)
  row_parts (Some at) ps h = absurd (cc)

  row : (b : BodyTree) (bs : Operators) → is_steps (foreign_at (foreign_body text name b) ++ operator_parts text bs) ≡ true
      → (is_steps (operator_parts text bs) ≡ true → HasNone (operators_symbols bs)) → HasNone (body_symbols b ++ operators_symbols bs)
  row b bs h more =
      let p = row_parts (foreign_body text name b) (operator_parts text bs) h in
      found_in_both (is_foreign text name) (body_symbols b) (operators_symbols bs) None None (p.0 ∙ body_found text name b) (more p.1)

  last : (b : BodyTree) (bs : Operators) (at : ℕ) → is_steps (summarize_part at ∷ (foreign_at (foreign_body text name b) ++ operator_parts text bs)) ≡ true
      → HasNone (body_symbols b ++ operators_symbols bs)
  last b bs at h =
      let p = by (foreign_body text name b) bs h in
      found_in_both (is_foreign text name) (body_symbols b) (operators_symbols bs) None None (p.0 ∙ body_found text name b) p.1
    where
      by : (m : Option ℕ) (os : Operators) → is_steps (summarize_part at ∷ (foreign_at m ++ operator_parts text os)) ≡ true → (None ≡ m) × HasNone (operators_symbols os)
      by None no_operator g = (refl, refl)
      by None (and_operator t c os) g = absurd (cc)
      by (Some m) os g = absurd (cc)

  steps : (bs : Operators) → is_steps (operator_parts text bs) ≡ true → HasNone (operators_symbols bs)
  steps no_operator h = absurd (cc)
  steps (and_operator t (filter e) bs) h = row (filter e) bs h (λ k. steps bs k)
  steps (and_operator t (extend i is) bs) h = row (extend i is) bs h (λ k. steps bs k)
  steps (and_operator t (project i is) bs) h = row (project i is) bs h (λ k. steps bs k)
  steps (and_operator t (project_away n ns) bs) h = row (project_away n ns) bs h (λ k. steps bs k)
  steps (and_operator t (project_rename q qs) bs) h = row (project_rename q qs) bs h (λ k. steps bs k)
  steps (and_operator t (summarize a more g) bs) h = last (summarize a more g) bs t.from h
  steps (and_operator t (summarize_by g) bs) h = last (summarize_by g) bs t.from h
  steps (and_operator t (take n) bs) h = absurd (cc)
  steps (and_operator t count bs) h = absurd (cc)
  steps (and_operator t (sort k ks) bs) h = absurd (cc)
  steps (and_operator t (top n k) bs) h = absurd (cc)
  steps (and_operator t (distinct n ns) bs) h = absurd (cc)
  steps (and_operator t (distinct_all s) bs) h = absurd (cc)
  steps (and_operator t (join kind q k ks) bs) h = absurd (cc)
  steps (and_operator t (unite u) bs) h = absurd (cc)
  steps (and_operator t (mv_expand i w) bs) h = absurd (cc)

  pipe : (q : TabularTree) → is_body (pipe_parts text name true q) ≡ true → HasNone (tabular_symbols q)
  pipe (pipeline (table_source n) bs) h = by (is_text (name_said text n) name) h where
    by : (b : Bool) → is_body (cond b (table_name (name_place n)) (foreign (name_place n)) ∷ operator_parts text bs) ≡ true
        → None ≡ option_map place_of (cond (not b) (Some (source_name n)) (find (is_foreign text name) (operators_symbols bs)))
    by true g = steps bs g
    by false g = absurd (cc)
  pipe (pipeline (nested t q) bs) h = absurd (cc)
  pipe (pipeline (worded t b) bs) h = absurd (cc)

  pub nothing_foreign : (q : QueryTree) → is_body (query_parts text name q) ≡ true → found (is_foreign text name) (query_symbols q) ≡ None
  nothing_foreign q h = sym (by q.lets q.tabular h) where
    with_lets : (m : Option ℕ) (p : TabularTree) → is_body (foreign_at m ++ pipe_parts text name false p) ≡ true → ⊥
    with_lets (Some at) p g = cc
    with_lets None (pipeline o bs) g = cc

    by : (ls : List LetTree) (p : TabularTree) → is_body (foreign_at (lets_place text [] ls) ++ pipe_parts text name (none ls) p) ≡ true → HasNone (lets_symbols ls ++ tabular_symbols p)
    by [] p g = pipe p g
    by (l ∷ ls) p g = absurd (with_lets (lets_place text [] (l ∷ ls)) p g)
