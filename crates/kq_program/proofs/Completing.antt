-- A run whose sessions nothing troubled is complete.
use Rattle.std.proofs.Common.{◌≡◌, ◌<◌, ◌⊎◌, ◌+◌, ◌^◌, ℕ, Bool, true, false, cond, List, [], ◌∷◌, length, take, map, IsSome, Option, Some, None, nat_eq, refl, sym, subst, arith, inl, inr}
use Rattle.std.specs.List.{AllByRecursion}
use Rattle.std.proofs.lemmas.List.{length-take}
use Rattle.std.proofs.lemmas.List.Elements.{recursion_from_All}
use Rattle.kq_world.specs.Outside.{Contents, Rose}
use Rattle.kq_catalog_journal.specs.declared.limits.Limits.{Limits}
use Rattle.kq_catalog_journal.specs.History.{History}
use Rattle.kq_workers.specs.kq_catalog.Seen.{CatalogView, hist}
use Rattle.kq_program_options.specs.Words.{Asked}
use Rattle.kq_session.specs.Complete.{IsComplete}
use Rattle.kq_session.specs.Objects.{Objects, SessionView}
use Rattle.kq_session.specs.Session.{Explained, input_bytes}
use Rattle.kq_session.proofs.Completing.{complete_by}
use Rattle.kq_session.specs.kq_export_interface.Due.{Holding, nothing_held}
use Rattle.kq_export_run.specs.Held.{ExporterState}
use Rattle.kq_script_generated.specs.Commands.{script}
use Rattle.kq_script_generated.specs.Source.{script_read, script_unread}
use Rattle.kq_script_generated.proofs.Lengths.{length-script}
use Rattle.kq_program.specs.Headline.{AreComplete, AreExplained, AreUntroubled, CompletesRun, IsCaused, IsCompleteRun, IsUntroubledBy, RanBy, RunsProgram, first_status, given_to_sessions}
use Rattle.kq_program.specs.Scripts.{ByScript, as_reading, unfailed, with_source}
use Rattle.kq_program.specs.Views.{EndedView, Given, RunView, held_by}
use Rattle.kq_program.specs.Words.{feeds_of, generate_of, workers_of}
use Rattle.kq_program.proofs.Asking.{IsUpTo}

-- no script is generated of more rows than words may ask for
abbrev AreFew : List Given → Type 0
AreFew [] = Unit {0}
AreFew (g ∷ given) = IsUpTo 1000000 g.generate × AreFew given

-- what was read of a text are no more bytes than it has
few_taken : (text : List ℕ) (at : ℕ) → length text < 2 ^ 32 → length (take at text) < length (take 0 text) + input_bytes
few_taken text at few = omega (arith, few, length-take at text, length-take 0 text)

complete_one : (limits : Limits) (h : History) (n : ℕ) (x : Holding) (generate : Option ℕ) (before : Contents) (s : EndedView) → IsUpTo 1000000 generate → ByScript (Explained limits h n x) generate (unfailed before) s.session → IsCaused s → IsUntroubledBy generate (unfailed before) s.session.objects → ByScript (IsComplete limits h n x) generate (unfailed before) s.session
complete_one limits h n x None before s few explained caused untroubled =
    complete_by limits h n x (unfailed before) s.session s.session.end refl explained.ends explained.by_end
    (λ e. untroubled.source (inl (caused.source e))) (λ e. untroubled.sink (inl (caused.sink e))) untroubled.few
complete_one limits h n x (Some rows) before s few scripted caused untroubled =
    let explained = scripted.holds in
    record {
      source = scripted.source;
      source_faults = scripted.source_faults;
      at = scripted.at;
      ended = scripted.ended;
      holds = complete_by limits h n x (unfailed (with_source (script_unread rows) before)) (as_reading (script_read rows scripted.at scripted.ended) s.session) s.session.end refl explained.ends explained.by_end
          (λ e. let rose = caused.source e in omega (arith, rose, scripted.source_faults)) (λ e. untroubled (inl (caused.sink e))) (few_taken (script rows) scripted.at (length-script rows few));
    }

complete_all : (limits : Limits) (h : History) (n : ℕ) (x : Holding) (given : List Given) (ss : List EndedView) → AreFew given → AreExplained limits h n x given ss → AllByRecursion IsCaused ss → AreUntroubled given ss → AreComplete limits h n x given ss
complete_all limits h n x [] [] few explained caused untroubled = tt
complete_all limits h n x [] (s ∷ ss) few explained caused untroubled = absurd explained
complete_all limits h n x (g ∷ given) [] few explained caused untroubled = absurd explained
complete_all limits h n x (g ∷ given) (s ∷ ss) few explained caused untroubled =
    (complete_one limits h n x g.generate g.contents s few.0 explained.0 caused.0 untroubled.0, complete_all limits h (n + 1) nothing_held given ss few.1 explained.1 caused.1 untroubled.1)

few_feeds : (of_feed : List ℕ → Contents) (feeds : List (List ℕ)) → AreFew (map (λ (name : List ℕ). record { generate = None; contents = of_feed name }) feeds)
few_feeds of_feed [] = tt
few_feeds of_feed (feed ∷ feeds) = (tt, few_feeds of_feed feeds)

-- ---- the status

abbrev IsGood : ℕ → Type 0
IsGood status = (status ≡ 0) ⊎ (status ≡ 1)

good_if : (b : Bool) (m n : ℕ) → IsGood m → IsGood n → IsGood (cond b m n)
good_if true m n first second = first
good_if false m n first second = second

good_one : (limits : Limits) (h : History) (n : ℕ) (x : Holding) (generate : Option ℕ) (before : Objects) (s : SessionView) → ByScript (IsComplete limits h n x) generate before s → IsGood s.status
good_one limits h n x None before s complete = complete.status
good_one limits h n x (Some rows) before s scripted = scripted.holds.status

good_first : (limits : Limits) (h : History) (n : ℕ) (x : Holding) (given : List Given) (ss : List EndedView) → AreComplete limits h n x given ss → IsGood (first_status ss)
good_first limits h n x [] [] complete = inl refl
good_first limits h n x [] (s ∷ ss) complete = absurd complete
good_first limits h n x (g ∷ given) [] complete = absurd complete
good_first limits h n x (g ∷ given) (s ∷ ss) complete =
    good_if (nat_eq s.session.status 0) (first_status ss) s.session.status (good_first limits h (n + 1) nothing_held given ss complete.1) (good_one limits h n x g.generate (unfailed g.contents) s.session complete.0)

complete_run : (workers : ℕ) (feeds : List (List ℕ)) (given : List Given) (status : ℕ) (catalog : Option CatalogView) (export : Option ExporterState) (ss : List EndedView) → AreFew given → ¬ (status ≡ 2) → ¬ (status ≡ 5)
    → RanBy workers feeds given status catalog export ss → (IsSome catalog → AreUntroubled given ss) → IsCompleteRun given (record { status = status; catalog = catalog; sessions = ss; export = export })
complete_run workers feeds given status None None ss few words opened ran untroubled = record { status = by_cause ran.1; sessions = tt }
  where
    by_cause : (status ≡ 2) ⊎ (status ≡ 5) ⊎ (status ≡ 1) → IsGood status
    by_cause (inl e) = absurd (words e)
    by_cause (inr (inl e)) = absurd (opened e)
    by_cause (inr (inr e)) = inr e
complete_run workers feeds given status None (Some x) ss few words opened ran untroubled = absurd ran
complete_run workers feeds given status (Some c) None ss few words opened ran untroubled = absurd ran
complete_run workers feeds given status (Some c) (Some x) ss few words opened ran untroubled =
    let held = held_by x in
    let all = complete_all c.limits (hist c) 0 held given ss few ran.headline.explained (recursion_from_All IsCaused ss ran.caused) (untroubled refl) in
    record { status = subst IsGood (sym ran.status_is) (good_first c.limits (hist c) 0 held given ss all); sessions = all }

-- ---- the words

form : (said : Option Asked) → IsSome said → said ≡ None → ⊥
form None some none = absurd cc
form (Some asked) some none = cc

pub CompletesRun-runs : (said : Option Asked) (count count_now : ℕ) (first : Contents) (of_feed : List ℕ → Contents) (run : RunView)
    → IsUpTo 1000000 (generate_of said) → (run.status ≡ 2 → said ≡ None) → (run.status ≡ 5 → Rose count count_now) → RunsProgram (workers_of said) (generate_of said) (feeds_of said) first of_feed run → CompletesRun said count count_now first of_feed run
CompletesRun-runs said count count_now first of_feed run few words failed runs some well untroubled =
    complete_run (workers_of said) (feeds_of said) (given_to_sessions (generate_of said) first of_feed (feeds_of said)) run.status run.catalog run.export run.sessions (few, few_feeds of_feed (feeds_of said))
    (λ e. form said some (words e)) (λ e. well (failed e)) runs untroubled
