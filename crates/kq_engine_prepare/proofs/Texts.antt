-- What the text of a change alone tells.
use Rattle.std.proofs.Common.{◌≡◌, ◌<◌, inl, inr, refl, arith, ℕ, List, length, Option, Some, None, ap, sym, ◌∙◌, subst}
use Rattle.std.specs.List.{slice_get}
use Rattle.std.specs.Option.{option_map, option_and_then}
use Rattle.std.proofs.lemmas.List.{length-map}
use Rattle.std.proofs.lemmas.Option.{slice_get_cases}
use Rattle.std.proofs.lemmas.Simd.{map-map}
use Rattle.kq_value.specs.declared.schema.Field.{Field}
use Rattle.kq_catalog_journal.specs.kq_value_text_sets.Names.{repeat_of, names_of}
use Rattle.kq_catalog_journal.proofs.Repeats.{repeat_of-within}
use Rattle.kq_read_commands.specs.declared.columns.Column.{Column}
use Rattle.kq_read_commands.specs.Columns.{schema_of, column_names}
use Rattle.kq_reply.specs.declared.refusal.Refusal.TheVariants as refusals
use Rattle.kq_engine_prepare.specs.Due.{repeated_place}

once_named : (columns : List Column) (repeat : Option ℕ) → repeat_of (column_names columns) ≡ repeat → option_map (λ (c : Column). c.name.at) (option_and_then (slice_get columns) repeat) ≡ None → repeat ≡ None
once_named columns None is e = refl
once_named columns (Some i) is e =
    let within : i < length columns = subst (λ (n : ℕ). i < n) (length-map columns (λ (c : Column). c.name.text)) (repeat_of-within (column_names columns) i is) in
    elim (slice_get_cases columns i).1 [
      | inl found ↦ absurd (some_none found.0 (ap (option_map (λ (c : Column). c.name.at)) (sym found.2) ∙ e))
      | inr past ↦ absurd (omega (arith, past.0))
    ]
  where
    some_none : (c : Column) → option_map (λ (x : Column). x.name.at) (Some c) ≡ None → ⊥
    some_none c e = cc

no_place : (place : Option ℕ) → option_map (λ (at : ℕ). refusals.Mistyped at) place ≡ None → place ≡ None
no_place None e = refl
no_place (Some at) e = cc

-- columns of which none repeats have different names
pub different_names : (columns : List Column) → option_map (λ (at : ℕ). refusals.Mistyped at) (repeated_place columns) ≡ None → repeat_of (names_of (schema_of columns)) ≡ None
different_names columns e =
    ap repeat_of (map-map (λ (f : Field). f.name) (λ (c : Column). let f : Field = record { name = c.name.text; ty = c.ty } in f) columns)
    ∙ once_named columns (repeat_of (column_names columns)) refl (no_place (repeated_place columns) e)
