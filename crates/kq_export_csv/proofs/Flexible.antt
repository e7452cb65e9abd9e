-- A flexible writer writes each record as the default writer does.
use Rattle.std.proofs.Common.{◌≡◌, ℕ, List, [], ◌∷◌, refl}
use Rattle.csv.specs.Writing.{default_writer, escaped, field_text, fields_text, is_blank, row_text}
use Rattle.kq_export_csv.specs.Recording.{flexible_writer}

escaped-same : (field : List ℕ) → escaped flexible_writer field ≡ escaped default_writer field
unfolding escaped
escaped-same [] = refl
escaped-same (b ∷ rest) = rw (escaped-same rest) refl

field-same : (field : List ℕ) → field_text flexible_writer field ≡ field_text default_writer field
field-same field = rw (escaped-same field) refl

fields-same : (fields : List (List ℕ)) → fields_text flexible_writer fields ≡ fields_text default_writer fields
unfolding fields_text
fields-same [] = refl
fields-same (field ∷ rest) = rw (field-same field, fields-same rest) refl

blank-same : (fields : List (List ℕ)) → is_blank flexible_writer fields ≡ is_blank default_writer fields
unfolding is_blank
blank-same [] = refl
blank-same (field ∷ []) = rw (field-same field) refl
blank-same (field ∷ next ∷ rest) = refl

pub row-same : (fields : List (List ℕ)) → row_text flexible_writer fields ≡ row_text default_writer fields
row-same [] = rw (blank-same []) refl
row-same (field ∷ rest) = rw (field-same field, fields-same rest, blank-same (field ∷ rest)) refl
