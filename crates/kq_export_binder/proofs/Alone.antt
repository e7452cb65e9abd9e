-- A plan that reads one table alone fits all names that know that table.
use Rattle.std.proofs.Common.{◌≡◌, ◌++◌, ◌∷◌, [], ◌||◌, ℕ, Bool, true, false, not, List, Option, Some, refl, ap, sym, ◌∙◌}
use Rattle.std.specs.List.{list_any}
use Rattle.std.specs.Str.{bytes_eq}
use Rattle.std.proofs.lemmas.Slice.Eq.{bytes_eq-Decides}
use Rattle.kq_plan.specs.declared.names.NameKind.TheVariants as name
use Rattle.kq_plan.specs.declared.work.LeafKind.TheVariants as kind
use Rattle.kq_plan.specs.Fits.{FitAfter, FitsNames, FitsStep}
use Rattle.kq_plan.specs.Names.{Known}
use Rattle.kq_plan.specs.Plans.{Doing, Planned, Stepping, leaf, one_row, numbers, written, scalar, kept, mapped, cut, counted, sorted, topped, apart, summarized, joined, united, expanded}
use Rattle.kq_value.specs.declared.schema.Field.{Field}
use Rattle.kq_export_binder.specs.Bodies.{is_export_body, is_foreign, reads_other}

first_false : (a b : Bool) → (a || b) ≡ false → a ≡ false
first_false true b e = absurd (cc)
first_false false b e = refl

second_false : (a b : Bool) → (a || b) ≡ false → b ≡ false
second_false true b e = absurd (cc)
second_false false b e = e

not_true : (b : Bool) → not b ≡ true → b ≡ false
not_true true e = absurd (cc)
not_true false e = refl

not_false : (b : Bool) → not b ≡ false → b ≡ true
not_false true e = refl
not_false false e = absurd (cc)

module _ (known other : List ℕ → Option Known) (table : List ℕ) (cs : List Field) (is : known table ≡ Some (name.Table, cs)) (has : other table ≡ Some (name.Table, cs)) where
  table_alone : (said : List ℕ) (fs : List Field) → bytes_eq said table ≡ true → known said ≡ Some (name.Table, fs) → other said ≡ Some (name.Table, fs)
  table_alone said fs test fits =
      let same : said ≡ table = (bytes_eq-Decides said table).0 test in
      ap other same ∙ has ∙ sym is ∙ ap known (sym same) ∙ fits

  step_alone : (before : List Stepping) (d : Doing) (fs : List Field) → reads_other table d ≡ false → FitsStep known before d fs → FitsStep other before d fs
  step_alone before (leaf kind.Table said) fs own fits = table_alone said fs (not_false (bytes_eq said table) own) fits
  step_alone before (leaf kind.View said) fs own fits = absurd (cc)
  step_alone before (leaf kind.Part said) fs own fits = absurd (cc)
  step_alone before (one_row es) fs own fits = fits
  step_alone before (numbers from to by) fs own fits = fits
  step_alone before (written rows) fs own fits = fits
  step_alone before (scalar e) fs own fits = fits
  step_alone before (kept i e) fs own fits = fits
  step_alone before (mapped i es) fs own fits = fits
  step_alone before (cut i n) fs own fits = fits
  step_alone before (counted i) fs own fits = fits
  step_alone before (sorted i ks) fs own fits = fits
  step_alone before (topped i n k) fs own fits = fits
  step_alone before (apart i at) fs own fits = fits
  step_alone before (summarized i es gs) fs own fits = fits
  step_alone before (joined k i j on) fs own fits = fits
  step_alone before (united arms) fs own fits = fits
  step_alone before (expanded i e at t) fs own fits = fits

  steps_alone : (before steps : List Stepping) → list_any (is_foreign table) steps ≡ false → FitAfter known before steps → FitAfter other before steps
  steps_alone before [] own fits = tt
  steps_alone before (s ∷ steps) own fits =
      let here = first_false (is_foreign table s) (list_any (is_foreign table) steps) own in
      let rest = second_false (is_foreign table s) (list_any (is_foreign table) steps) own in (
        step_alone before s.doing s.columns (first_false (reads_other table s.doing) _ here) fits.0,
        steps_alone (before ++ s ∷ []) steps rest fits.1,
      )

  pub fits_alone : (p : Planned) (columns : List Field) → is_export_body table p ≡ true → FitsNames known p columns → FitsNames other p columns
  fits_alone p columns body fits = record { steps = steps_alone [] p.steps (not_true (list_any (is_foreign table) p.steps) body) fits.steps; output = fits.output }
