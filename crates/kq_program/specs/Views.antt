-- What contracts see of a run and its sessions.
use Rattle.std.specs.Prelude.{ℕ, List, Option}
use Rattle.kq_world.specs.Outside.{Contents}
use Rattle.kq_workers.specs.kq_catalog.Seen.{CatalogView}
use Rattle.kq_session.specs.Objects.{Objects, SessionView}
use Rattle.kq_session.specs.kq_export_interface.Due.{Holding}
use Rattle.kq_export_run.specs.Held.{ExporterState, exports_in}

-- what a session is given: of how many rows its script is generated, where it is, and what its objects tell at first
pub record Given : Type 0 where
  pub generate : Option ℕ
  pub contents : Contents

-- a session before it is served
pub record OpenedView : Type 0 where
  pub name : List ℕ
  pub generate : Option ℕ
  pub objects : Objects

-- a session that has ended
pub record EndedView : Type 0 where
  pub name : List ℕ
  pub session : SessionView

-- the exports that an exporter holds, and how often its artefacts have failed
abbrev pub held_by : ExporterState → Holding
held_by e = record { exports = exports_in e; faults = e.faults }

-- what a run hands back
pub record RunView : Type 0 where
  pub status : ℕ
  pub catalog : Option CatalogView
  pub sessions : List EndedView
  pub export : Option ExporterState
