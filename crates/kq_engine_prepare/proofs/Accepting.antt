-- A command that makes a commit isn't refused.
use Rattle.std.proofs.Common.{◌≡◌, ℕ, refl, ap, sym, ◌∙◌, subst}
use Rattle.kq_catalog_journal.specs.declared.event.Commit.{Commit}
use Rattle.kq_catalog_journal.specs.declared.event.Commit.TheVariants as commits
use Rattle.kq_catalog_journal.specs.declared.limits.Limits.{Limits}
use Rattle.kq_catalog_journal.specs.History.{Log}
use Rattle.kq_read_commands.specs.declared.command.Command.{Command}
use Rattle.kq_read_commands.specs.declared.command.Command.TheVariants.{Query, Show, Change, Merge, Fold}
use Rattle.kq_reply.specs.declared.reply.Reply.{Reply}
use Rattle.kq_reply.specs.declared.reply.Reply.TheVariants as replies
use Rattle.kq_reply.specs.Number.{kind_of}
use Rattle.kq_engine_prepare.specs.Due.{reply_to}
use Rattle.kq_engine_prepare.specs.Fits.{IsGranted, Makes}

granted : (c : Commit) (cursor : ℕ) → kind_of (reply_to c cursor) ≡ 0
granted (commits.CreateTable name schema) cursor = refl
granted (commits.SetPolicy table entries) cursor = refl
granted (commits.CreateView view) cursor = refl
granted (commits.AlterMerge table columns) cursor = refl
granted (commits.Ingest batches failures) cursor = refl

-- the reply that comes with a commit is no refusal
pub Accept-commit : (limits : Limits) (l : Log) (asked : Command) (reply : Reply) (c : Commit) → Makes limits l asked reply c → kind_of reply ≡ 0
Accept-commit limits l (Query query) reply c makes = absurd makes
Accept-commit limits l (Show show) reply c makes = absurd makes
Accept-commit limits l (Change change) reply c makes = ap kind_of makes.1 ∙ granted c _
Accept-commit limits l (Merge table) reply c makes = absurd makes
Accept-commit limits l (Fold view) reply c makes = absurd makes

reply_to-granted : (c : Commit) (cursor : ℕ) → IsGranted (reply_to c cursor)
reply_to-granted (commits.CreateTable name schema) cursor = λ r e. cc
reply_to-granted (commits.SetPolicy table entries) cursor = λ r e. cc
reply_to-granted (commits.CreateView view) cursor = λ r e. cc
reply_to-granted (commits.AlterMerge table columns) cursor = λ r e. cc
reply_to-granted (commits.Ingest batches failures) cursor = λ r e. cc

-- the reply beside a commit is no refusal
pub Makes-granted : (limits : Limits) (l : Log) (asked : Command) (reply : Reply) (c : Commit) → Makes limits l asked reply c → IsGranted reply
Makes-granted limits l (Query query) reply c makes = absurd makes
Makes-granted limits l (Show show) reply c makes = absurd makes
Makes-granted limits l (Change change) reply c makes = subst IsGranted (sym makes.1) (reply_to-granted c _)
Makes-granted limits l (Merge table) reply c makes = absurd makes
Makes-granted limits l (Fold view) reply c makes = absurd makes

-- a reply that is no refusal has the kind 0
pub granted_kind : (reply : Reply) → IsGranted reply → kind_of reply ≡ 0
granted_kind (replies.Done cursor) granted = refl
granted_kind (replies.Kept cursor) granted = refl
granted_kind (replies.Ingested cursor rows) granted = refl
granted_kind (replies.Skipped cursor) granted = refl
granted_kind (replies.Folded cursor) granted = refl
granted_kind (replies.Merged extents) granted = refl
granted_kind replies.Nothing granted = refl
granted_kind (replies.Rows text) granted = refl
granted_kind replies.Exporting granted = refl
granted_kind (replies.Exported from to rows) granted = refl
granted_kind (replies.Refused r) granted = absurd (granted r refl)
