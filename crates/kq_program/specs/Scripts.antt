-- A session by its script, which its source gives, or which is generated.
use Rattle.std.specs.Prelude.{◌≡◌, ℕ, Bool, Option, Some, None}
use Rattle.kq_world.specs.Outside.{SourceView, Contents}
use Rattle.kq_session.specs.Objects.{Objects, SessionView}
use Rattle.kq_script_generated.specs.Source.{script_read, script_unread}

-- what objects tell that have not failed yet
abbrev pub unfailed : Contents → Objects
unfailed told = record { contents = told; source_faults = 0; sink_faults = 0 }

-- what objects tell, with this in place of what their source tells
abbrev pub with_source : SourceView → Contents → Contents
with_source source told = record told { source = source }

-- a session, with this in place of what its source tells
abbrev pub as_reading : SourceView → SessionView → SessionView
as_reading source s = record s { objects = record s.objects { contents = with_source source s.objects.contents } }

-- a session had the generated script of n rows: its own source is as it was, and P holds of the session that had the script
-- for its source, of which so many bytes were read
pub record IsScripted (P : Contents → SessionView → Type 0) (n : ℕ) (before : Objects) (s : SessionView) : Type 0 where
  pub source : s.objects.contents.source ≡ before.contents.source
  pub source_faults : s.objects.source_faults ≡ before.source_faults
  pub at : ℕ
  pub ended : Bool
  pub holds : P (with_source (script_unread n) before.contents) (as_reading (script_read n at ended) s)

-- P holds of a session by its script: the one that its source gave, or a generated one of so many rows
abbrev pub ByScript : (Contents → SessionView → Type 0) → Option ℕ → Objects → SessionView → Type 0
ByScript P None before s = P before.contents s
ByScript P (Some n) before s = IsScripted P n before s
