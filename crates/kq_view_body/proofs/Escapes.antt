-- The character that four digits behind `\u` stand for, and what is left behind it.
use Rattle.std.proofs.Common.{◌≡◌, ℕ, zero, suc, ◌==◌, true, false, List, [], ◌∷◌, ◌++◌, get_or, take, drop, refl, ap, subst}
use Rattle.std.specs.Char.{encode_utf8}
use Rattle.std.specs.Str.Parse.{digits_value}
use Rattle.kq_read_literals.proofs.StringLemmas.{IsCode, behind_escape, code_is, digits_behind}
use Rattle.kq_read_literals.specs.Strings.{escape_len, escape_of, unescaped}
use Rattle.kq_read_tokens.specs.declared.delimited.Within.TheVariants.{Quoted, Escape}
use Rattle.kq_read_tokens.specs.Delimited.{closes, step}

skip : (quote n : ℕ) (bs : List ℕ) → unescaped quote n bs ≡ unescaped quote 0 (drop n bs)
skip quote zero bs = refl
skip quote (suc n) [] = refl
skip quote (suc n) (b ∷ bs) = skip quote n bs

module _ (quote : ℕ) where
  pub character_at : (bs : List ℕ) → closes step (Escape quote) bs ≡ true → (get_or bs 0 0 == 117) ≡ true → IsCode (take 4 (drop 1 bs))
  character_at [] h e = let no_way : false ≡ true = h in absurd (cc)
  character_at (c ∷ bs) h e = code_is quote bs (digits_behind quote c bs e h)

  pub character_text : (bs : List ℕ) → closes step (Escape quote) bs ≡ true → (get_or bs 0 0 == 117) ≡ true → escape_of bs ++ unescaped quote (escape_len bs) bs ≡ encode_utf8 (digits_value 16 (take 4 (drop 1 bs))) ++ unescaped quote 0 (drop 5 bs)
  character_text [] h e = let no_way : false ≡ true = h in absurd (cc)
  character_text (c ∷ bs) h e = rw e (ap (λ l. encode_utf8 (digits_value 16 (take 4 bs)) ++ l) (skip quote 5 (c ∷ bs)))

  pub character_closed : (bs : List ℕ) → closes step (Escape quote) bs ≡ true → (get_or bs 0 0 == 117) ≡ true → closes step (Quoted quote) (drop 5 bs) ≡ true
  character_closed [] h e = let no_way : false ≡ true = h in absurd (cc)
  character_closed (c ∷ bs) h e =
      let long : escape_len (c ∷ bs) ≡ 5 = rw e refl in
      subst (λ n. closes step (Quoted quote) (drop n (c ∷ bs)) ≡ true) long (behind_escape quote (c ∷ bs) h)
