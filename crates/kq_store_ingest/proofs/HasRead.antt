-- What the reader of a body has read of it.
use Rattle.std.specs.Prelude.{IsUtf8}
use Rattle.std.proofs.Common.{◌≡◌, ◌<◌, ℕ, Bor, true, false, List, [], ◌∷◌, ◌++◌, length, Some, ◌∙◌, refl, sym}
use Rattle.csv.specs.Reading.{ReadRecord, Reached, default_config, pending_of, source_of, strip_bom}
use Rattle.csv.specs.declared.parser.State.TheVariants as st
use Rattle.csv.specs.declared.reader.Reader.{Reader}
use Rattle.csv.proofs.ReadFacts.{rows-end, rows-more}
use Rattle.kq_store_ingest.specs.Ingestion.{records_of}
use Rattle.kq_store_ingest.specs.Reading.{HasText, IsPlain, NotInComment, known}
use Rattle.kq_store_ingest.proofs.Records.{read-less, records-end, records-more}
use Rattle.kq_store_ingest.proofs.Texts.{read-text}

-- these records, and these bytes are left
pub record HasRead (body : List ℕ) (reader : Reader (Bor (List ℕ))) (seen : List (List (List ℕ))) (left : List ℕ) : Type 0 where
  pub plain : IsPlain reader
  pub config : reader.config ≡ default_config
  pub source : source_of known reader ≡ Some left
  pub reached : Reached default_config st.StartRecord (strip_bom body) seen reader.state left
  pub outside : NotInComment reader.state
  pub utf8 : IsUtf8 left

-- what is left is text
pub left-text : (body : List ℕ) (reader : Reader (Bor (List ℕ))) (seen : List (List (List ℕ))) (left : List ℕ) → HasRead body reader seen left → HasText reader
left-text body reader seen left read = record { config = read.config; outside = read.outside; left = left; source = read.source; utf8 = read.utf8 }

pending : (reader : Reader (Bor (List ℕ))) → reader.bom_checked ≡ true → source_of known reader ≡ pending_of (known reader.rdr) reader
pending reader checked = rw checked refl

-- one more record, and fewer bytes
pub read-more : (body : List ℕ) (old new : Reader (Bor (List ℕ))) (seen : List (List (List ℕ))) (left : List ℕ) (fields : List (List ℕ)) → HasRead body old seen left
    → IsPlain new → ReadRecord known old new true fields → (rest : List ℕ) × HasRead body new (seen ++ fields ∷ []) rest × (length rest < length left)
read-more body old new seen left fields before plain read =
    let (rest, source, reached) = rows-more known old new fields default_config st.StartRecord (strip_bom body) left seen before.config before.source before.reached read in
    let ahead : pending_of (known new.rdr) new ≡ Some rest = sym (pending new read.1) ∙ source in
    let text = read-text old.state new.state left rest fields before.outside before.utf8 (rw (before.config, before.source, ahead) at read.0) in
    let less = read-less old.state new.state (strip_bom body) left (pending_of (known new.rdr) new) seen fields before.reached (rw (before.config, before.source) at read.0) in (
      rest,
      record { plain = plain; config = read.2 ∙ before.config; source = source; reached = reached; outside = text.outside; utf8 = text.utf8 },
      rw ahead at less,
    )

-- the records that were read are the first of the body
pub read-first : (body : List ℕ) (reader : Reader (Bor (List ℕ))) (seen : List (List (List ℕ))) (left : List ℕ) → HasRead body reader seen left
    → (more : List (List (List ℕ))) × (records_of body ≡ seen ++ more)
read-first body reader seen left read = records-more (strip_bom body) seen reader.state left read.reached

-- and all of them where there was no further one
pub read-all : (body : List ℕ) (old new : Reader (Bor (List ℕ))) (seen : List (List (List ℕ))) (left : List ℕ) (fields : List (List ℕ)) → HasRead body old seen left
    → ReadRecord known old new false fields → records_of body ≡ seen
read-all body old new seen left fields before read =
    records-end (strip_bom body) seen old.state left before.reached (rows-end known old new fields default_config left before.config before.source read)
