-- Why a reader of records of any number of cells stops.
use Rattle.std.proofs.Common.{◌≡◌, ℕ, true, false, List, Bor, sym, ◌∙◌, refl}
use Rattle.csv.specs.Reading.{ExplainsRead, stops_reader}
use Rattle.csv.specs.declared.error.ErrorKind.{ErrorKind}
use Rattle.csv.specs.declared.error.ErrorKind.TheVariants as kind
use Rattle.csv.specs.declared.reader.Reader.{Reader}
use Rattle.kq_store_ingest.specs.Reading.{HasText, known}
use Rattle.kq_store_ingest.proofs.Texts.{fields-text}

no_flag : true ≡ false → ⊥
no_flag e = cc

-- want of memory, or an error of what it reads from
pub stops_flexible : (old new : Reader (Bor (List ℕ))) (k : ErrorKind) → old.flexible ≡ true → HasText old → ExplainsRead known old new true k → stops_reader k ≡ true
stops_flexible old new (kind.Io e) flexible text why = refl
stops_flexible old new kind.OutOfMemory flexible text why = refl
stops_flexible old new (kind.UnequalLengths pos expected len) flexible text why = absurd (no_flag (sym flexible ∙ why.0))
stops_flexible old new (kind.Utf8 pos err) flexible text why =
    let (is_text, fields, took, none) = why in
    absurd (none (fields-text old.state new.state text.left _ fields text.outside text.utf8 (rw (text.config, text.source) at took)))
stops_flexible old new (kind.Serialize reason) flexible text why = absurd why
stops_flexible old new (kind.Deserialize pos err) flexible text why = absurd why
