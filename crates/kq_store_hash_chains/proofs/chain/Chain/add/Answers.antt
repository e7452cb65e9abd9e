use Rattle.std.proofs.Common.{rules, ◌≡◌, ◌<◌, ◌++◌, ◌∷◌, [], ℕ, List, length, get_or, set, Option, Some, None, ap, sym, ◌∙◌, subst}
use Rattle.std.proofs.lemmas.List.{get_or_read}
use Rattle.kq_store_hash_chains.specs.Chain.{IsLinked}
use Rattle.kq_store_hash_chains.proofs.Chains.{IsLinked-added}
use Rattle.kq_store_hash_chains.proofs.chain.Chain.add.Goals as goal

pub invariant_of-self-2 : goal.invariant_of-self-2
invariant_of-self-2 c =
    let firsts = c.self.inside.firsts.items in
    let nexts = c.self.inside.nexts.items in
    let added = c.self.inside.added in
    let head = c.args.head in
    let within : head < length firsts = search rules in
    let link : c.len-link.result ≡ length added = search rules in
    let read : c.index.result.now ≡ get_or firsts head None = get_or_read firsts head c.index.result.now within c.index.ensures None in
    let pushed : c.push.new.self.items ≡ nexts ++ get_or firsts head None ∷ [] = c.in_ok-push.ensures.items ∙ ap (λ o. nexts ++ o ∷ []) read in
    let P : ℕ → Type 0 = λ n. IsLinked (set firsts head (Some n)) c.push.new.self.items c.and.result in
    let Q : List (Option ℕ) → Type 0 = λ ns. IsLinked (set firsts head (Some (length added))) ns c.and.result in
    let R : List ℕ → Type 0 = λ hs. IsLinked (set firsts head (Some (length added))) (nexts ++ get_or firsts head None ∷ []) hs in
    subst P (sym link) (subst Q (sym pushed) (subst R (sym c.and.ensures) (IsLinked-added firsts nexts added head within c.self.invariant)))
