-- Each operator and function of strings gives a proper value of its type.
use Rattle.std.proofs.Common.{List, refl}
use Rattle.kq_value_strings.specs.declared.find.FindKind.{FindKind}
use Rattle.kq_value.specs.Typed.{HasType}
use Rattle.kq_value.specs.declared.ty.Ty.TheVariants as ty
use Rattle.kq_value.specs.declared.value.Value.{Value}
use Rattle.kq_value.specs.declared.value.Value.TheVariants.{Text, Long}
use Rattle.kq_value_string_functions.specs.Texts.{found, equal_folded, str_len, lowered, uppered, joined, sub_text, sub_text_to, index_in, pieces, replaced}

pub found-typed : (kind : FindKind) (v w : Value) → HasType ty.Bool (found kind v w)
found-typed kind v w = (refl, tt)

pub equal_folded-typed : (v w : Value) → HasType ty.Bool (equal_folded v w)
equal_folded-typed v w = (refl, tt)

pub str_len-typed : (v : Value) → HasType ty.Long (str_len v)
str_len-typed (Text s) = (refl, tt)
str_len-typed v = (refl, ((λ e. cc), (λ e. cc)))

pub lowered-typed : (v : Value) → HasType ty.Text (lowered v)
lowered-typed (Text s) = (refl, tt)
lowered-typed v = (refl, tt)

pub uppered-typed : (v : Value) → HasType ty.Text (uppered v)
uppered-typed (Text s) = (refl, tt)
uppered-typed v = (refl, tt)

pub joined-typed : (vs : List Value) → HasType ty.Text (joined vs)
joined-typed vs = (refl, tt)

pub sub_text-typed : (v w : Value) → HasType ty.Text (sub_text v w)
sub_text-typed (Text s) (Long from) = (refl, tt)
sub_text-typed v w = (refl, tt)

pub sub_text_to-typed : (v w x : Value) → HasType ty.Text (sub_text_to v w x)
sub_text_to-typed (Text s) (Long from) (Long n) = (refl, tt)
sub_text_to-typed v w x = (refl, tt)

pub index_in-typed : (v w : Value) → HasType ty.Long (index_in v w)
index_in-typed (Text s) (Text t) = (refl, tt)
index_in-typed v w = (refl, ((λ e. cc), (λ e. cc)))

pub pieces-typed : (v w : Value) → HasType ty.Dynamic (pieces v w)
pieces-typed (Text s) (Text t) = (refl, tt)
pieces-typed v w = (refl, tt)

pub replaced-typed : (v w x : Value) → HasType ty.Text (replaced v w x)
replaced-typed (Text s) (Text t) (Text u) = (refl, tt)
replaced-typed v w x = (refl, tt)
