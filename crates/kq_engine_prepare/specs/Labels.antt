-- The tags that the properties of an ingestion give.
use Rattle.std.specs.Prelude.{◌≡◌, ◌⊎◌, ℕ, Option, Some, None}
use Rattle.kq_read_commands.specs.declared.ingestion.Properties.{Properties}
use Rattle.kq_read_commands.specs.declared.ingestion.Quoted.{Quoted}
use Rattle.kq_reply.specs.declared.refusal.Refusal.{Refusal}
use Rattle.kq_reply.specs.declared.refusal.Refusal.TheVariants as refusals
use Rattle.kq_engine_prepare.specs.declared.tags.Labels.{Labels}
use Rattle.kq_engine_prepare.specs.declared.tags.Strings.{Strings}
use Rattle.kq_engine_prepare.specs.declared.tags.Strings.TheVariants.{Read, Bad}
use Rattle.kq_engine_prepare.specs.Due.{bad_tags, barring_tags, strings_of, tag_fault}

-- a property's value was read so
abbrev pub ReadsStrings : Option Quoted → Strings → Type 0
ReadsStrings value (Read tags) = (tag_fault value ≡ None) × (tags ≡ strings_of value)
ReadsStrings value (Bad at) = tag_fault value ≡ Some at

-- both values are tags, and these are they
pub record AreLabels (properties : Properties) (labels : Labels) : Type 0 where
  pub good : bad_tags properties ≡ None
  pub tags : labels.tags ≡ strings_of properties.tags
  pub barring : labels.barring ≡ barring_tags properties

-- one of the values is no tags, or memory was wanting
abbrev pub IsBadTags : Properties → Refusal → Type 0
IsBadTags properties r = (r ≡ refusals.Memory) ⊎ ((at : ℕ) × (bad_tags properties ≡ Some at) × (r ≡ refusals.BadTags at))
