use Rattle.std.proofs.Common.{◌∷◌, ◌∙◌, ap, subst, sym}
use Rattle.std.specs.Prelude.{IfSome, codes}
use Rattle.kq_read_commands.specs.Ingestions.{first_named}
use Rattle.kq_read_commands.specs.InText.{IsString}
use Rattle.kq_read_commands.proofs.GivenStrings.{tags_said, condition_said}
use Rattle.kq_read_commands.proofs.properties.given.Goals as goal

pub quoted-requires : goal.quoted-requires
quoted-requires c =
    let text = c.args.text.now in
    let list = c.args.list.now in
    let is = c.named-tags.ensures ∙ ap (λ qs. first_named text (codes "tags") (list.first ∷ qs)) c.as_slice-others.ensures.value in
    subst (λ o. IfSome o (λ q. IsString text q.value)) (sym is) (tags_said text list.first list.others.items c.requires.supported c.requires.stand.0 c.requires.stand.1)

pub quoted-requires-2 : goal.quoted-requires-2
quoted-requires-2 c =
    let text = c.args.text.now in
    let list = c.args.list.now in
    let is = c.named-if_not_exists.ensures ∙ ap (λ qs. first_named text (codes "ingestIfNotExists") (list.first ∷ qs)) c.as_slice-others.ensures.value in
    subst (λ o. IfSome o (λ q. IsString text q.value)) (sym is) (condition_said text list.first list.others.items c.requires.supported c.requires.stand.0 c.requires.stand.1)
