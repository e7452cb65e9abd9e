-- A name that is made free is one that no column before it has.
use Rattle.std.proofs.Common.{◌≡◌, ℕ, Bool, true, false, List, ◌++◌, refl, sym, ◌∙◌, subst}
use Rattle.kq_bind_columns.specs.Naming.{is_taken}
use Rattle.kq_value.specs.declared.schema.Field.{Field}
use Rattle.kq_bind_query.specs.Suffixes.{IsNamed, IsMadeFree}
use Rattle.kq_bind_query.proofs.Apart.{is_false, neither, not_both, taken_append}
use Rattle.kq_bind_query.proofs.Suffixed.{taken_named, named_taken}

pub unnamed_free : (cs : List Field) (name : List ℕ) → ¬ (IsNamed cs name) → is_taken cs name ≡ false
unnamed_free cs name h = is_false (is_taken cs name) (λ e. h (taken_named cs name e))

pub made_apart : (given avoided : List Field) (base name : List ℕ) → IsMadeFree given avoided base name → is_taken given name ≡ false
made_apart given avoided base name h = by (is_taken given base) refl where
  by : (b : Bool) → is_taken given base ≡ b → is_taken given name ≡ false
  by true is =
      let free = unnamed_free (given ++ avoided) name (h.suffixed (taken_named given base is)).free in
      (neither (is_taken given name) (is_taken avoided name) (sym (taken_append given avoided name) ∙ free)).0
  by false is =
      let same : name ≡ base = h.itself (λ n. not_both (is_taken given base) (named_taken given base n) is) in
      subst (λ z. is_taken given z ≡ false) (sym same) is
