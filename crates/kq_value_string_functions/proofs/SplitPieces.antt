-- The members of a split.
use Rattle.std.proofs.Common.{◌≡◌, ◌∷◌, [], ◌+◌, ◌-◌, ℕ, zero, suc, ℤ, pos, negsuc, Bool, true, false, cond, List, length, map, nat_le, Option, Some, None, refl, sym, ap, ◌∙◌}
use Rattle.std.specs.Prelude.{option_map, slice_get, unwrap_or}
use Rattle.kq_value.specs.Tree.{Tree, null, string, items_of}
use Rattle.kq_value.specs.Seen.{dyn_of}
use Rattle.kq_value.specs.declared.dynamic.Dyn.TheVariants as dyn
use Rattle.kq_value.specs.declared.value.Value.{Value}
use Rattle.kq_value.specs.declared.value.Value.TheVariants.{Text, Long, Dynamic}
use Rattle.kq_value_formats.specs.Members.{item_at, strings}
use Rattle.kq_value_formats.specs.Strings.{split}
use Rattle.kq_value_strings.specs.Pieces.{item_from}
use Rattle.kq_value_conversions.specs.Parts.{member_of}
use Rattle.kq_value_string_functions.specs.Texts.{piece_cell, pieces}

items-strings : (ps : List (List ℕ)) → items_of (strings ps) ≡ map string ps
items-strings [] = refl
items-strings (p ∷ ps) = ap (λ (ts : List Tree). string p ∷ ts) (items-strings ps)

get-strings : (ps : List (List ℕ)) (i : ℕ) → slice_get (map string ps) i ≡ option_map string (slice_get ps i)
get-strings [] zero = refl
get-strings [] (suc i) = refl
get-strings (p ∷ ps) zero = refl
get-strings (p ∷ ps) (suc i) = get-strings ps i

length-strings : (ps : List (List ℕ)) → length (map string ps) ≡ length ps
length-strings [] = refl
length-strings (p ∷ ps) = ap suc (length-strings ps)

if-strings : (b : Bool) (o : Option (List ℕ)) → cond b (option_map string o) None ≡ option_map string (cond b o None)
if-strings true o = refl
if-strings false o = refl

item-strings : (ps : List (List ℕ)) (z : ℤ) → item_at (map string ps) z ≡ option_map string (item_from ps z)
item-strings ps (pos i) = get-strings ps i
item-strings ps (negsuc back) =
    (λ j. cond (nat_le (back + 1) (length-strings ps j)) (slice_get (map string ps) (length-strings ps j - (back + 1))) None)
    ∙ ap (λ o. cond (nat_le (back + 1) (length ps)) o None) (get-strings ps (length ps - (back + 1)))
    ∙ if-strings (nat_le (back + 1) (length ps)) (slice_get ps (length ps - (back + 1)))

as_dyn : (o : Option (List ℕ)) → dyn_of (unwrap_or (option_map string o) null) ≡ unwrap_or (option_map dyn.Text o) dyn.Null
as_dyn (Some p) = refl
as_dyn None = refl

member-pieces : (s t : List ℕ) (z : ℤ) → member_of (pieces (Text s) (Text t)) (Long z) ≡ piece_cell (item_from (split s t) z)
member-pieces s t z =
    ap (λ (ts : List Tree). Dynamic (dyn_of (unwrap_or (item_at ts z) null))) (items-strings (split s t))
    ∙ ap (λ o. Dynamic (dyn_of (unwrap_or o null))) (item-strings (split s t) z)
    ∙ ap Dynamic (as_dyn (item_from (split s t) z))

-- the member of a split at a place is the piece there
pub piece_found : (v w x : Value) (s t : List ℕ) (z : ℤ) (o : Option (List ℕ)) → v ≡ Text s → w ≡ Text t → x ≡ Long z → o ≡ item_from (split s t) z → member_of (pieces v w) x ≡ piece_cell o
piece_found v w x s t z o first second third is =
    (λ j. member_of (pieces (first j) (second j)) (third j)) ∙ member-pieces s t z ∙ ap piece_cell (sym is)

-- nothing stands in the null of dynamics
pub member_of_null : (x : Value) → member_of (Dynamic dyn.Null) x ≡ Dynamic dyn.Null
member_of_null (Text key) = refl
member_of_null (Long z) = refl
member_of_null x = refl
