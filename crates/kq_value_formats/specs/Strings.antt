-- What the operators and functions of strings give.
use Rattle.std.specs.Prelude.{ℕ, zero, suc, ◌+◌, ◌-◌, ◌&&◌, ◌||◌, ◌==◌, not, ℤ, pos, negsuc, Bool, List, [], ◌∷◌, ◌++◌, length, take, drop, slice_index, nat_eq, if◌then◌else◌, Option, Some, None, option_map, unwrap_or}
use Rattle.std.specs.Char.{is_ascii_alphanumeric}
use Rattle.std.specs.List.{ends_with, list_any, onto_first, range_with_len, starts_with}
use Rattle.std.specs.Str.{chars, encode_utf8_all, str_to_ascii_lowercase}

-- t stands in s from the place i on
abbrev pub occurs_at : List ℕ → List ℕ → ℕ → Bool
occurs_at s t i = starts_with nat_eq (drop i s) t

-- the places in s, with its end
abbrev pub places : List ℕ → List ℕ
places s = range_with_len 0 (length s + 1)

abbrev pub contains_cs : List ℕ → List ℕ → Bool
contains_cs s t = list_any (occurs_at s t) (places s)

abbrev pub startswith_cs : List ℕ → List ℕ → Bool
startswith_cs s t = starts_with nat_eq s t

abbrev pub endswith_cs : List ℕ → List ℕ → Bool
endswith_cs s t = ends_with nat_eq s t

-- two characters that belong to one term
abbrev pub are_joined : ℕ → ℕ → Bool
are_joined a b = is_ascii_alphanumeric a && is_ascii_alphanumeric b

-- the occurrence at i doesn't go on before it, nor after it
abbrev pub is_term_at : List ℕ → List ℕ → ℕ → Bool
is_term_at s t i =
    ((i == 0) || not (are_joined (slice_index s (i - 1)) (slice_index t 0)))
    && ((i + length t == length s) || not (are_joined (slice_index t (length t - 1)) (slice_index s (i + length t))))

-- t is found in s as a term; an empty t always is
abbrev pub has_cs : List ℕ → List ℕ → Bool
has_cs s t = (length t == 0) || list_any (λ i. occurs_at s t i && is_term_at s t i) (places s)

-- an operator without ASCII case
abbrev pub without_case : (List ℕ → List ℕ → Bool) → List ℕ → List ℕ → Bool
without_case operator s t = operator (str_to_ascii_lowercase s) (str_to_ascii_lowercase t)

-- the number of characters
abbrev pub strlen : List ℕ → ℕ
strlen s = length (chars s)

-- where a substring begins: counted from the end where negative, and not before the start
abbrev pub start_in : ℕ → ℤ → ℕ
start_in len (pos from) = from
start_in len (negsuc back) = len - (back + 1)

-- the characters from a place to the end, and at most n of them where n isn't negative
abbrev pub substring_from : List ℕ → ℤ → List ℕ
substring_from s from = encode_utf8_all (drop (start_in (strlen s) from) (chars s))

abbrev pub substring : List ℕ → ℤ → ℤ → List ℕ
substring s from (pos n) = encode_utf8_all (take n (drop (start_in (strlen s) from) (chars s)))
substring s from (negsuc n) = substring_from s from

-- the first place at which t stands in s
abbrev pub first_place : List ℕ → List ℕ → Option ℕ
first_place t [] = if starts_with nat_eq [] t then Some 0 else None
first_place t (c ∷ s) = if starts_with nat_eq (c ∷ s) t then Some 0 else option_map suc (first_place t s)

-- the character index of the first occurrence, else -1
abbrev pub indexof : List ℕ → List ℕ → ℤ
indexof s t = unwrap_or (option_map pos (first_place (chars t) (chars s))) (negsuc 0)

-- the pieces of s between the occurrences of t from the left, where the first `passed` bytes of s are of an occurrence
abbrev pub pieces_from : List ℕ → ℕ → List ℕ → List (List ℕ)
pieces_from t passed [] = [] ∷ []
pieces_from t (suc passed) (b ∷ s) = pieces_from t passed s
pieces_from t zero (b ∷ s) = if starts_with nat_eq (b ∷ s) t then [] ∷ pieces_from t (length t - 1) s else onto_first b (pieces_from t zero s)

-- an empty t gives the text alone
abbrev pub split : List ℕ → List ℕ → List (List ℕ)
split s [] = s ∷ []
split s (b ∷ t) = pieces_from (b ∷ t) 0 s

-- the pieces with u between them
abbrev pub joined_by : List ℕ → List (List ℕ) → List ℕ
joined_by u [] = []
joined_by u (p ∷ []) = p
joined_by u (p ∷ q ∷ ps) = p ++ u ++ joined_by u (q ∷ ps)

-- each occurrence of t from the left is replaced by u
abbrev pub replace_string : List ℕ → List ℕ → List ℕ → List ℕ
replace_string s t u = joined_by u (split s t)
