-- The tests of types and columns decide equality.
use Rattle.std.proofs.Common.{◌≡◌, ℕ, zero, suc, Bool, true, ◌&&◌, List, refl, sym, ap, ◌∙◌, subst, nat_eq}
use Rattle.std.specs.Bool.{Decides}
use Rattle.std.specs.Cmp.{first_so, second_so, unsigned_Decides}
use Rattle.std.specs.Cmp.Lexicographic.{pointwise, pointwise_decides}
use Rattle.kq_value.specs.declared.ty.Ty.{Ty}
use Rattle.kq_value.specs.declared.ty.Ty.TheVariants.{Long, Int, Text, Bool as Truth, Moment, Span, Dynamic}
use Rattle.kq_value.specs.declared.schema.Field.{Field}
use Rattle.kq_value.specs.Ty.{rank_of, same_ty}
use Rattle.kq_value.specs.Schema.{same_field, same_fields}

ty_at : ℕ → Ty
ty_at zero = Long
ty_at (suc zero) = Int
ty_at (suc (suc zero)) = Text
ty_at (suc (suc (suc zero))) = Truth
ty_at (suc (suc (suc (suc zero)))) = Moment
ty_at (suc (suc (suc (suc (suc zero))))) = Span
ty_at (suc (suc (suc (suc (suc (suc n)))))) = Dynamic

ty_at-rank : (t : Ty) → ty_at (rank_of t) ≡ t
unfolding ty_at
ty_at-rank Long = refl
ty_at-rank Int = refl
ty_at-rank Text = refl
ty_at-rank Truth = refl
ty_at-rank Moment = refl
ty_at-rank Span = refl
ty_at-rank Dynamic = refl

-- two types of one rank are one type
pub rank-injective : (a b : Ty) → rank_of a ≡ rank_of b → a ≡ b
rank-injective a b e = sym (ty_at-rank a) ∙ ap ty_at e ∙ ty_at-rank b

pub same_ty-Decides : (a b : Ty) → Decides (same_ty a b) (a ≡ b)
same_ty-Decides a b = (λ h. rank-injective a b ((unsigned_Decides (rank_of a) (rank_of b)).0 h), λ e. (unsigned_Decides (rank_of a) (rank_of b)).1 (ap rank_of e))

same_names-Decides : (a b : List ℕ) → Decides (pointwise nat_eq a b) (a ≡ b)
same_names-Decides = pointwise_decides unsigned_Decides

abbrev field_of : List ℕ → Ty → Field
field_of name ty = record { name = name; ty = ty }

pub same_field-Decides : (a b : Field) → Decides (same_field a b) (a ≡ b)
same_field-Decides a b = (
  λ h.
      let named : a.name ≡ b.name = (same_names-Decides a.name b.name).0 (first_so (pointwise nat_eq a.name b.name) (same_ty a.ty b.ty) h) in
      let typed : a.ty ≡ b.ty = (same_ty-Decides a.ty b.ty).0 (second_so (pointwise nat_eq a.name b.name) (same_ty a.ty b.ty) h) in
      same_parts named typed,
  λ e. subst (λ (f : Field). same_field a f ≡ true) e (itself a),
)
  where
    same_parts : a.name ≡ b.name → a.ty ≡ b.ty → a ≡ b
    same_parts n t = ap (λ (m : List ℕ). field_of m a.ty) n ∙ ap (λ (u : Ty). field_of b.name u) t

    both : (p q : Bool) → p ≡ true → q ≡ true → (p && q) ≡ true
    both p q x y = cc

    itself : (f : Field) → same_field f f ≡ true
    itself f = both (pointwise nat_eq f.name f.name) (same_ty f.ty f.ty) ((same_names-Decides f.name f.name).1 refl) ((same_ty-Decides f.ty f.ty).1 refl)

pub same_fields-Decides : (a b : List Field) → Decides (same_fields a b) (a ≡ b)
same_fields-Decides = pointwise_decides same_field-Decides
