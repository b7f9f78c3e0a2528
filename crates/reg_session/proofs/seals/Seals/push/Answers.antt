use Rattle.std.proofs.Common.{[], ◌∷◌, ◌++◌, length, Some, arith, ap, ◌∙◌}
use Rattle.std.specs.List.{filter_map}
use Rattle.std.proofs.lemmas.List.{length-append}
use Rattle.std.proofs.lemmas.List.Elements.{filter_map-append}
use Rattle.reg_session.proofs.seals.Seals.push.Goals as goal

pub invariant_of-self : goal.invariant_of-self
invariant_of-self g c =
    let old = c.self.inside.seals.items in
    let seals = filter_map (λ seal. seal) old in
    let more = ap (filter_map (λ seal. seal)) c.push.ensures.items ∙ filter_map-append (λ seal. seal) old (Some c.args.seal ∷ []) in
    omega (arith, ap length more, c.self.invariant, length-append seals (c.args.seal ∷ []), ap length c.push.ensures.items, length-append old (Some c.args.seal ∷ []))

pub returns : goal.returns
returns g c =
    let old = c.self.inside.seals.items in
    ap (filter_map (λ seal. seal)) c.push.ensures.items ∙ (filter_map-append (λ seal. seal) old (Some c.args.seal ∷ []) ∙ ap (λ seals. seals ++ c.args.seal ∷ []) c.self.view_is)
