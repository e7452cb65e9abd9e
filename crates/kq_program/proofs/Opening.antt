-- The feeds are opened one after another.
use Rattle.std.proofs.Common.{◌≡◌, ◌≢◌, ℕ, ◌+◌, ◌&&◌, ◌||◌, not, Bool, true, false, List, [], ◌∷◌, ◌++◌, length, take, None, Err, refl, ap, sym, ◌∙◌, subst, arith, inl, inr, append_assoc, append-nil, length-append}
use Rattle.std.specs.List.{list_any}
use Rattle.std.specs.Str.{bytes_eq}
use Rattle.std.proofs.Math.Seq.{take-append_seam, take-length}
use Rattle.std.proofs.lemmas.List.{length_push}
use Rattle.std.proofs.lemmas.Slice.Eq.{bytes_eq-Decides}
use Rattle.kq_world.specs.Outside.{Contents, AsksFor, OpensByCause, Rose}
use Rattle.kq_world.specs.declared.outside.OpenFault.{OpenFault}
use Rattle.kq_world.specs.declared.outside.OpenFault.TheVariants.{Failed, Memory}
use Rattle.kq_program_options.specs.Words.{are_distinct}
use Rattle.kq_program.specs.Opening.{IsOpened, AreOpened, AsksInOrder, OpensFeeds}
use Rattle.kq_program.specs.Views.{OpenedView, RunView}

-- ---- names that differ

abbrev pub Differs : List ℕ → List (List ℕ) → Type 0
Differs name [] = Unit {0}
Differs name (n ∷ ns) = (name ≢ n) × Differs name ns

and_true : (a b : Bool) → a && b ≡ true → (a ≡ true) × (b ≡ true)
and_true true b e = (refl, e)
and_true false b e = absurd cc

or_false : (a b : Bool) → a || b ≡ false → (a ≡ false) × (b ≡ false)
or_false true b e = absurd cc
or_false false b e = (refl, e)

not_true : (a : Bool) → not a ≡ true → a ≡ false
not_true true e = absurd cc
not_true false e = refl

any_false : (test : List ℕ → Bool) (ns rest : List (List ℕ)) (name : List ℕ) → list_any test (ns ++ name ∷ rest) ≡ false → test name ≡ false
any_false test [] rest name e = (or_false (test name) (list_any test rest) e).0
any_false test (n ∷ ns) rest name e = any_false test ns rest name (or_false (test n) (list_any test (ns ++ name ∷ rest)) e).1

not_same : (name n : List ℕ) → bytes_eq name n ≡ false → name ≢ n
not_same name n e = λ same. false_true (sym e ∙ (bytes_eq-Decides name n).1 same)
  where
    false_true : false ≡ true → ⊥
    false_true e = cc

differs : (name : List ℕ) (done rest : List (List ℕ)) → are_distinct (done ++ name ∷ rest) ≡ true → Differs name done
differs name [] rest e = tt
differs name (n ∷ done) rest e =
    let both = and_true (not (list_any (λ (u : List ℕ). bytes_eq u n) (done ++ name ∷ rest))) (are_distinct (done ++ name ∷ rest)) e in
    (not_same name n (any_false (λ (u : List ℕ). bytes_eq u n) done rest name (not_true _ both.0)), differs name done rest both.1)

differs_push : (other name : List ℕ) (done : List (List ℕ)) → Differs other (done ++ name ∷ []) → Differs other done × (other ≢ name)
differs_push other name [] differ = (tt, differ.0)
differs_push other name (n ∷ done) differ = let rest = differs_push other name done differ.1 in ((differ.0, rest.0), rest.1)

-- ---- opening

AreOpened-push : (told : List ℕ → Contents) (names : List (List ℕ)) (os : List OpenedView) (name : List ℕ) (o : OpenedView) → AreOpened told names os → IsOpened told name o → AreOpened told (names ++ name ∷ []) (os ++ o ∷ [])
AreOpened-push told [] [] name o each last = (last, tt)
AreOpened-push told [] (p ∷ os) name o each last = absurd each
AreOpened-push told (n ∷ names) [] name o each last = absurd each
AreOpened-push told (n ∷ names) (p ∷ os) name o each last = (each.0, AreOpened-push told names os name o each.1 last)

-- the World after some of the names were asked for, and opened
pub record Opening (told now : List ℕ → Contents) (first first_now : Contents) (asked asked_now : List (List ℕ)) (count count_now : ℕ) (names done rest : List (List ℕ)) (opened : List OpenedView) : Type 0 where
  pub all : done ++ rest ≡ names
  pub each : AreOpened told done opened
  pub later : (other : List ℕ) → Differs other done → now other ≡ told other
  pub first_told : first_now ≡ first
  pub in_order : asked_now ≡ asked ++ done
  pub counts : count_now ≡ count

pub Opening-none : (told : List ℕ → Contents) (first : Contents) (asked : List (List ℕ)) (count : ℕ) (names rest : List (List ℕ)) (opened : List OpenedView) → rest ≡ names → opened ≡ [] → Opening told told first first asked asked count count names [] rest opened
Opening-none told first asked count names rest opened all none = subst (λ (l : List OpenedView). Opening told told first first asked asked count count names [] rest l) (sym none) (record {
  all = all;
  each = tt;
  later = λ other differ. refl;
  first_told = refl;
  in_order = sym (append-nil asked);
  counts = refl;
})

Opening-push : (told now new : List ℕ → Contents) (first first_now first_new : Contents) (asked asked_now asked_new : List (List ℕ)) (count count_now count_new : ℕ) (names done rest : List (List ℕ)) (opened : List OpenedView) (name : List ℕ) (o : OpenedView)
    → are_distinct names ≡ true → Opening told now first first_now asked asked_now count count_now names done (name ∷ rest) opened
    → o.name ≡ name → o.generate ≡ None → o.objects.contents ≡ now name → o.objects.source_faults ≡ 0 → o.objects.sink_faults ≡ 0 → ((other : List ℕ) → other ≢ name → new other ≡ now other) → first_new ≡ first_now → asked_new ≡ asked_now ++ name ∷ [] → count_new ≡ count_now
    → Opening told new first first_new asked asked_new count count_new names (done ++ name ∷ []) rest (opened ++ o ∷ [])
Opening-push told now new first first_now first_new asked asked_now asked_new count count_now count_new names done rest opened name o distinct so_far named own contents source sink others first_told in_order counts =
    let alone = differs name done rest (ap are_distinct so_far.all ∙ distinct) in
    record {
      all = append_assoc done (name ∷ []) rest ∙ so_far.all;
      each = AreOpened-push told done opened name o so_far.each (record { named = named; own = own; contents = contents ∙ so_far.later name alone; source = source; sink = sink });
      later = λ other differ.
          let split = differs_push other name done differ in
          others other split.1 ∙ so_far.later other split.0;
      first_told = first_told ∙ so_far.first_told;
      in_order = in_order ∙ ap (λ (l : List (List ℕ)). l ++ name ∷ []) so_far.in_order ∙ append_assoc asked done (name ∷ []);
      counts = counts ∙ so_far.counts;
    }

-- the same, where the iterator gave the name and a list of objects has one more
pub Opening-next : (told now new : List ℕ → Contents) (first first_now first_new : Contents) (asked asked_now asked_new : List (List ℕ)) (count count_now count_new : ℕ) (names done before rest : List (List ℕ)) (opened more : List OpenedView) (name text : List ℕ) (o : OpenedView)
    → are_distinct names ≡ true → before ≡ name ∷ rest → more ≡ opened ++ o ∷ [] → text ≡ name → Opening told now first first_now asked asked_now count count_now names done before opened
    → o.objects.contents ≡ now text → o.objects.source_faults ≡ 0 → o.objects.sink_faults ≡ 0 → ((other : List ℕ) → other ≢ text → new other ≡ now other) → first_new ≡ first_now → asked_new ≡ asked_now ++ text ∷ [] → count_new ≡ count_now
    → o.name ≡ name → o.generate ≡ None → Opening told new first first_new asked asked_new count count_new names (done ++ name ∷ []) rest more
Opening-next told now new first first_now first_new asked asked_now asked_new count count_now count_new names done before rest opened more name text o distinct is_before is_more is_text so_far contents source sink others first_told in_order counts named own =
    let were = subst (λ (l : List (List ℕ)). Opening told now first first_now asked asked_now count count_now names done l opened) is_before so_far in
    let told_here = contents ∙ ap now is_text in
    let others_here = subst (λ (t : List ℕ). (other : List ℕ) → other ≢ t → new other ≡ now other) is_text others in
    let asks = in_order ∙ ap (λ (t : List ℕ). asked_now ++ t ∷ []) is_text in
    subst (λ (l : List OpenedView). Opening told new first first_new asked asked_new count count_new names (done ++ name ∷ []) rest l) (sym is_more)
    (Opening-push told now new first first_now first_new asked asked_now asked_new count count_now count_new names done rest opened name o distinct were named own told_here source sink others_here first_told asks counts)

take_names : (names done rest : List (List ℕ)) (name : List ℕ) → done ++ name ∷ rest ≡ names → take (length done + 1) names ≡ done ++ name ∷ []
take_names names done rest name all =
    ap (take (length done + 1)) (sym all ∙ sym (append_assoc done (name ∷ []) rest))
    ∙ ap (λ (n : ℕ). take n ((done ++ name ∷ []) ++ rest)) (sym (length_push done name))
    ∙ take-append_seam (done ++ name ∷ []) rest

-- the opening of this name was refused
Opening-refused : (T U : Type 0) (told now : List ℕ → Contents) (first first_now : Contents) (asked asked_now asked_new : List (List ℕ)) (count count_now : ℕ) (names done rest : List (List ℕ)) (opened : List OpenedView) (name : List ℕ) (e : OpenFault)
    → Opening told now first first_now asked asked_now count count_now names done (name ∷ rest) opened → AsksFor {T = T} asked_now asked_new (Err e) name → AsksInOrder {T = U} asked asked_new (Err e) names
Opening-refused T U told now first first_now asked asked_now asked_new count count_now names done rest opened name Failed so_far asks =
    let long = ap length so_far.all in
    (length done, omega (arith, long, length-append done (name ∷ rest)), asks ∙ ap (λ (l : List (List ℕ)). l ++ name ∷ []) so_far.in_order ∙ append_assoc asked done (name ∷ []) ∙ ap (λ (l : List (List ℕ)). asked ++ l) (sym (take_names names done rest name so_far.all)))
Opening-refused T U told now first first_now asked asked_now asked_new count count_now names done rest opened name Memory so_far (inl asks) =
    let long = ap length so_far.all in
    (length done + 1, omega (arith, long, length-append done (name ∷ rest)), asks ∙ ap (λ (l : List (List ℕ)). l ++ name ∷ []) so_far.in_order ∙ append_assoc asked done (name ∷ []) ∙ ap (λ (l : List (List ℕ)). asked ++ l) (sym (take_names names done rest name so_far.all)))
Opening-refused T U told now first first_now asked asked_now asked_new count count_now names done rest opened name Memory so_far (inr asks) =
    let long = ap length so_far.all in
    (length done, omega (arith, long, length-append done (name ∷ rest)), asks ∙ so_far.in_order ∙ ap (λ (l : List (List ℕ)). asked ++ l) (sym (ap (take (length done)) (sym so_far.all) ∙ take-append_seam done (name ∷ rest))))

pub OpensByCause-from : (T U : Type 0) (count count_now count_new : ℕ) (e : OpenFault) → count_now ≡ count → OpensByCause {T = T} count_now count_new (Err e) → OpensByCause {T = U} count count_new (Err e)
OpensByCause-from T U count count_now count_new Failed same rose = subst (λ (n : ℕ). Rose n count_new) same rose
OpensByCause-from T U count count_now count_new Memory same stays = stays ∙ same

pub Opening-asked : (T U : Type 0) (told now : List ℕ → Contents) (first first_now : Contents) (asked asked_now asked_new : List (List ℕ)) (count count_now : ℕ) (names done before rest : List (List ℕ)) (opened : List OpenedView) (name text : List ℕ) (e : OpenFault)
    → before ≡ name ∷ rest → text ≡ name → Opening told now first first_now asked asked_now count count_now names done before opened → AsksFor {T = T} asked_now asked_new (Err e) text → AsksInOrder {T = U} asked asked_new (Err e) names
Opening-asked T U told now first first_now asked asked_now asked_new count count_now names done before rest opened name text e is_before is_text so_far asks =
    Opening-refused T U told now first first_now asked asked_now asked_new count count_now names done rest opened name e
    (subst (λ (l : List (List ℕ)). Opening told now first first_now asked asked_now count count_now names done l opened) is_before so_far)
    (subst (λ (t : List ℕ). AsksFor {T = T} asked_now asked_new (Err e) t) is_text asks)

pub nothing_left : {X : Type 0} (xs : List X) → length xs ≡ 0 → xs ≡ []
nothing_left [] e = refl
nothing_left (x ∷ xs) e = absurd (omega (arith, e))

pub AreOpened-all : (told : List ℕ → Contents) (done names : List (List ℕ)) (os : List OpenedView) → done ≡ names → AreOpened told done os → AreOpened told names os
AreOpened-all told done names os all each = subst (λ (l : List (List ℕ)). AreOpened told l os) all each

-- all feeds were opened
pub OpensFeeds-all : (feeds before now : List (List ℕ)) (count count_now : ℕ) (run : RunView) → now ≡ before ++ feeds → count_now ≡ count → ¬ (run.status ≡ 5) → OpensFeeds feeds before now count count_now run
OpensFeeds-all feeds before now count count_now run in_order counts opened = record {
  asked = length feeds;
  within = omega arith;
  in_order = in_order ∙ ap (λ (l : List (List ℕ)). before ++ l) (sym (take-length feeds));
  all = λ some. refl;
  failed = λ e. absurd (opened e);
  stays = λ other. counts;
}
