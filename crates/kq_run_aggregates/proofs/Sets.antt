-- Sets of different values, with more values.
use Rattle.std.proofs.Common.{◌≡◌, ◌<◌, ◌≤◌, ℕ, Bool, true, false, cond, nat_lt, List, [], ◌∷◌, ◌++◌, ◌⊎◌, inl, inr, length, take, refl, ap, ◌∙◌, arith}
use Rattle.std.proofs.lemmas.Bool.Decides.{nat_tests}
use Rattle.std.specs.List.{All, Contains, IsDistinct, list_any}
use Rattle.std.proofs.lemmas.List.{length_push, length-take, take-append-le}
use Rattle.std.proofs.lemmas.List.Elements.{All-nil, All-append, All-push, All-weaker, All-contains, All-contains_itself, Contains-append_left, Contains-append_right, Contains-append_cases, Contains-push}
use Rattle.std.proofs.lemmas.Map.Keys.{IsDistinct-push}
use Rattle.std.proofs.lemmas.Map.Made.{length-le_from_is_member}
use Rattle.std.proofs.lemmas.Map.Views.{Contains-from_any, list_any-from_Contains}
use Rattle.indexmap.specs.IndexSet.{insert_key}
use Rattle.kq_value.specs.Values.{is_same}
use Rattle.kq_value.specs.declared.value.Value.{Value}
use Rattle.kq_value.proofs.Equals.{is_same-Decides}
use Rattle.kq_run_aggregates.specs.SameLaws.{is_same_equiv}
use Rattle.kq_run_aggregates.specs.Holds.{IsSetOf}
use Rattle.kq_run_aggregates.specs.Steps.{with_value}

same_equal : (x y : Value) → is_same x y ≡ true → x ≡ y
same_equal x y h = (is_same-Decides x y).0 h

-- a full set stands for more values too
full : (n : ℕ) (vs ws set : List Value) → n ≤ length set → IsSetOf n vs set → IsSetOf n (vs ++ ws) set
full n vs ws set h s = record {
  distinct = s.distinct;
  within = All-weaker _ _ (λ x k. Contains-append_left vs ws x k) set s.within;
  bounded = s.bounded;
  complete = λ less. absurd (omega arith);
}

-- a value that is there already
there : (n : ℕ) (vs : List Value) (v : Value) (set : List Value) → list_any (is_same v) set ≡ true → IsSetOf n vs set → IsSetOf n (vs ++ v ∷ []) set
there n vs v set h s = record {
  distinct = s.distinct;
  within = All-weaker _ _ (λ x k. Contains-append_left vs (v ∷ []) x k) set s.within;
  bounded = s.bounded;
  complete = λ less. All-push (Contains set) vs v (s.complete less) (Contains-from_any same_equal v set h);
}

new_one : (n : ℕ) (vs : List Value) (v : Value) (set : List Value) → length set < n → list_any (is_same v) set ≡ false → IsSetOf n vs set → IsSetOf n (vs ++ v ∷ []) (set ++ v ∷ [])
new_one n vs v set room h s = record {
  distinct = IsDistinct-push is_same_equiv set v s.distinct h;
  within = All-push (Contains (vs ++ v ∷ [])) set v (All-weaker _ _ (λ x k. Contains-append_left vs (v ∷ []) x k) set s.within) (Contains-push vs v);
  bounded = omega (arith, length_push set v);
  complete = λ less. All-push (Contains (set ++ v ∷ [])) vs v (All-weaker _ _ (λ x k. Contains-append_left set (v ∷ []) x k) vs (s.complete room)) (Contains-push set v);
}

inserted : (n : ℕ) (vs : List Value) (v : Value) (set : List Value) → length set < n → (b : Bool) → list_any (is_same v) set ≡ b → IsSetOf n vs set → IsSetOf n (vs ++ v ∷ []) (cond b set (set ++ v ∷ []))
inserted n vs v set room true h s = there n vs v set h s
inserted n vs v set room false h s = new_one n vs v set room h s

with_room : (n : ℕ) (vs : List Value) (v : Value) (set : List Value) (b : Bool) → (b ≡ true → length set < n) → (b ≡ false → n ≤ length set) → IsSetOf n vs set → IsSetOf n (vs ++ v ∷ []) (cond b (insert_key is_same set v) set)
with_room n vs v set true room none s = inserted n vs v set (room refl) (list_any (is_same v) set) refl s
with_room n vs v set false room none s = full n vs (v ∷ []) set (none refl) s

pub IsSetOf-with_value : (n : ℕ) (vs : List Value) (v : Value) (set : List Value) → IsSetOf n vs set → IsSetOf n (vs ++ v ∷ []) (with_value n set v)
IsSetOf-with_value n vs v set s = with_room n vs v set _ (λ e. grind (arith, nat_tests)) (λ e. grind (arith, nat_tests)) s

pub IsSetOf-none : (n : ℕ) → IsSetOf n [] []
unfolding IsDistinct
IsSetOf-none n = record { distinct = tt; within = All-nil _; bounded = omega arith; complete = λ less. All-nil _ }

-- ---- one set's values put into another

-- what stands in front stays there
pub front-with_value : (n : ℕ) (old set : List Value) (v : Value) → take (length old) set ≡ old → take (length old) (with_value n set v) ≡ old
front-with_value n old set v e = kept (nat_lt (length set) n) (list_any (is_same v) set)
  where
    kept : (a b : Bool) → take (length old) (cond a (cond b set (set ++ v ∷ [])) set) ≡ old
    kept true true = e
    kept true false =
        let long : length (take (length old) set) ≡ length old = ap length e in
        take-append-le (length old) set (v ∷ []) (omega (arith, length-take (length old) set)) ∙ e
    kept false b = e

-- what stands for values and for a set of others stands for those others
fewer : (n : ℕ) (ws t u : List Value) → IsSetOf n ws t → All (Contains u) t → length t ≤ length u
fewer n ws t u s h = length-le_from_is_member is_same_equiv t u s.distinct (λ q m. list_any-from_Contains is_same_equiv q u (All-contains (Contains u) t q h (Contains-from_any same_equal q t m)))

pub IsSetOf-through : (n : ℕ) (vs ws t u : List Value) → IsSetOf n ws t → IsSetOf n (vs ++ t) u → IsSetOf n (vs ++ ws) u
IsSetOf-through n vs ws t u s k = record {
  distinct = k.distinct;
  within = All-weaker _ _ (λ x h. by x (Contains-append_cases vs t x h)) u k.within;
  bounded = k.bounded;
  complete = λ less.
      let all : All (Contains u) (vs ++ t) = k.complete less in
      let old : All (Contains u) vs = All-weaker (Contains vs) (Contains u) (λ x h. All-contains (Contains u) (vs ++ t) x all (Contains-append_left vs t x h)) vs (All-contains_itself vs) in
      let own : All (Contains u) t = All-weaker (Contains t) (Contains u) (λ x h. All-contains (Contains u) (vs ++ t) x all (Contains-append_right vs t x h)) t (All-contains_itself t) in
      let few : length t ≤ length u = fewer n ws t u s own in
      All-append (Contains u) vs ws old (All-weaker (Contains t) (Contains u) (λ x h. All-contains (Contains u) t x own h) ws (s.complete (omega arith)));
}
  where
    by : (x : Value) → Contains vs x ⊎ Contains t x → Contains (vs ++ ws) x
    by x (inl h) = Contains-append_left vs ws x h
    by x (inr h) = Contains-append_right vs ws x (All-contains (Contains ws) t x s.within h)
