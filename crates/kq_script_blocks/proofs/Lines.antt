-- What a line's bytes show tells whether it is blank, and whether it is a comment.
use Rattle.std.proofs.Common.{◌≡◌, ℕ, ◌==◌, ◌||◌, ◌&&◌, Bool, true, false, List, [], ◌∷◌, fold, drop, refl, ap, arith, if◌then◌else◌, ◌+◌, codes, nat_eq, one-add, inl, inr}
use Rattle.std.specs.List.{starts_with, prefix_len}
use Rattle.std.proofs.lemmas.Bool.Decides.{nat_tests, eqb_tells}
use Rattle.kq_script_blocks.specs.declared.line.Line.{Line}
use Rattle.kq_script_blocks.specs.declared.line.Line.TheVariants.{Spaces, Blank, Slash, Comment, Other}
use Rattle.kq_script_blocks.specs.Script.{is_blank, is_comment, is_space}
use Rattle.kq_script_blocks.specs.Line.{line_with, shown_by, shows_blank, shows_comment}

-- from a line of this kind on
abbrev shown_from : Line → List ℕ → Line
shown_from kind bytes = fold line_with kind bytes

other_stays : (bytes : List ℕ) → shown_from Other bytes ≡ Other
other_stays [] = refl
other_stays (b ∷ bs) = other_stays bs

comment_stays : (bytes : List ℕ) → shown_from Comment bytes ≡ Comment
comment_stays [] = refl
comment_stays (b ∷ bs) = comment_stays bs

shows_blank-slash : (bytes : List ℕ) → shows_blank (shown_from Slash bytes) ≡ false
shows_blank-slash [] = refl
shows_blank-slash (b ∷ bs) =
    elim (b == 47) as (λ v. shows_blank (shown_from (if v then Comment else Other) bs) ≡ false) [ true ↦ ap shows_blank (comment_stays bs) | false ↦ ap shows_blank (other_stays bs) ]

shows_blank-blank : (bytes : List ℕ) → shows_blank (shown_from Blank bytes) ≡ is_blank bytes
shows_blank-blank [] = refl
shows_blank-blank (b ∷ bs) =
    elim (is_space b || (b == 13)) as (λ v. shows_blank (shown_from (if v then Blank else Other) bs) ≡ (v && is_blank bs)) [ true ↦ shows_blank-blank bs | false ↦ ap shows_blank (other_stays bs) ]

pub shows_blank-shown : (bytes : List ℕ) → shows_blank (shown_by bytes) ≡ is_blank bytes
shows_blank-shown [] = refl
shows_blank-shown (b ∷ bs) =
    elim (is_space b) as (λ v. shows_blank (shown_from (if v then Spaces else (if b == 13 then Blank else (if b == 47 then Slash else Other))) bs) ≡ ((v || (b == 13)) && is_blank bs)) [
      | true ↦ shows_blank-shown bs
      | false ↦ elim (b == 13) as (λ v. shows_blank (shown_from (if v then Blank else (if b == 47 then Slash else Other)) bs) ≡ (v && is_blank bs)) [
        | true ↦ shows_blank-blank bs
        | false ↦ elim (b == 47) as (λ v. shows_blank (shown_from (if v then Slash else Other) bs) ≡ false) [ true ↦ shows_blank-slash bs | false ↦ ap shows_blank (other_stays bs) ]
      ]
    ]

shows_comment-blank : (bytes : List ℕ) → shows_comment (shown_from Blank bytes) ≡ false
shows_comment-blank [] = refl
shows_comment-blank (b ∷ bs) =
    elim (is_space b || (b == 13)) as (λ v. shows_comment (shown_from (if v then Blank else Other) bs) ≡ false) [ true ↦ shows_comment-blank bs | false ↦ ap shows_comment (other_stays bs) ]

eqb_comm : (a b : ℕ) → (a == b) ≡ (b == a)
eqb_comm a b = grind (arith, nat_tests)

-- two slashes at the front
abbrev slashes : List ℕ → Bool
slashes bytes = starts_with nat_eq bytes (codes "//")

shows_comment-slash : (bytes : List ℕ) → shows_comment (shown_from Slash bytes) ≡ slashes (47 ∷ bytes)
shows_comment-slash [] = refl
shows_comment-slash (b ∷ bs) =
    rw (eqb_comm 47 b)
    (elim (b == 47) as (λ v. shows_comment (shown_from (if v then Comment else Other) bs) ≡ (v && true)) [ true ↦ ap shows_comment (comment_stays bs) | false ↦ ap shows_comment (other_stays bs) ])

-- from a byte that is no space or tab on
shows_comment-first : (b : ℕ) (bs : List ℕ) → shows_comment (shown_from (if b == 13 then Blank else (if b == 47 then Slash else Other)) bs) ≡ slashes (b ∷ bs)
shows_comment-first b bs =
    elim (eqb_tells b 13) [
      | inl p ↦ rw p.1 (shows_comment-blank bs)
      | inr p ↦ elim (eqb_tells b 47) [
        | inl q ↦ rw q.1 (shows_comment-slash bs)
        | inr q ↦ rw (eqb_comm 47 b, p.0, q.0) (ap shows_comment (other_stays bs))
      ]
    ]

pub shows_comment-shown : (bytes : List ℕ) → shows_comment (shown_by bytes) ≡ is_comment bytes
shows_comment-shown [] = refl
shows_comment-shown (b ∷ bs) =
    elim (is_space b) as (λ v. shows_comment (shown_from (if v then Spaces else (if b == 13 then Blank else (if b == 47 then Slash else Other))) bs) ≡ slashes (drop (if v then (1 + prefix_len is_space bs) else 0) (b ∷ bs))) [
      | true ↦ rw (one-add (prefix_len is_space bs)) (shows_comment-shown bs)
      | false ↦ shows_comment-first b bs
    ]
