-- What opening the feeds does to the World.
use Rattle.std.specs.Prelude.{◌≡◌, ◌≢◌, ◌<◌, ◌≤◌, ◌+◌, ℕ, List, [], ◌∷◌, ◌++◌, length, take, Option, None, IsSome, Result, Ok, Err}
use Rattle.kq_world.specs.Outside.{Contents, Rose}
use Rattle.kq_world.specs.declared.outside.OpenFault.{OpenFault}
use Rattle.kq_world.specs.declared.outside.OpenFault.TheVariants.{Failed, Memory}
use Rattle.kq_program.specs.Headline.{RunsProgram}
use Rattle.kq_program.specs.Views.{OpenedView, RunView}

-- the feed of a name was opened: it has the name and what was told of it, its script is its own, and it has not failed yet
pub record IsOpened (told : List ℕ → Contents) (name : List ℕ) (o : OpenedView) : Type 0 where
  pub named : o.name ≡ name
  pub own : o.generate ≡ None
  pub contents : o.objects.contents ≡ told name
  pub source : o.objects.source_faults ≡ 0
  pub sink : o.objects.sink_faults ≡ 0

-- so were the feeds of these names
abbrev pub AreOpened : (List ℕ → Contents) → List (List ℕ) → List OpenedView → Type 0
AreOpened told [] [] = Unit {0}
AreOpened told [] (o ∷ os) = ⊥
AreOpened told (name ∷ names) [] = ⊥
AreOpened told (name ∷ names) (o ∷ os) = IsOpened told name o × AreOpened told names os

-- the names were asked for in order, up to the one at which an opening was refused
abbrev pub AsksInOrder : {T : Type 0} → List (List ℕ) → List (List ℕ) → Result T OpenFault → List (List ℕ) → Type 0
AsksInOrder before now (Ok x) names = now ≡ before ++ names
AsksInOrder before now (Err Failed) names = (k : ℕ) × (k < length names) × (now ≡ before ++ take (k + 1) names)
AsksInOrder before now (Err Memory) names = (k : ℕ) × (k ≤ length names) × (now ≡ before ++ take k names)

-- the feeds of a run were asked for in order, each once, and all of them where its sessions were begun; the status
-- tells that one failed exactly where the World's count rose, and it was the last one asked
pub record OpensFeeds (feeds before now : List (List ℕ)) (count_before count_now : ℕ) (run : RunView) : Type 0 where
  pub asked : ℕ
  pub within : asked ≤ length feeds
  pub in_order : now ≡ before ++ take asked feeds
  pub all : IsSome run.catalog → asked ≡ length feeds
  pub failed : run.status ≡ 5 → (0 < asked) × Rose count_before count_now
  pub stays : run.status ≢ 5 → count_now ≡ count_before

-- a run of feeds that were opened, whatever their names are and the world told of them
abbrev pub RunsOpened : ℕ → Option ℕ → List OpenedView → Contents → RunView → Type 0
RunsOpened workers generate opened first run = (told : List ℕ → Contents) (names : List (List ℕ)) → AreOpened told names opened → RunsProgram workers generate names first told run
