-- one more keeps within the limits
use Rattle.std.proofs.Common.{refl, sym, subst}
use Rattle.std.specs.Prelude.{All, IsTrue}
use Rattle.std.proofs.lemmas.List.{take_all}
use Rattle.std.proofs.lemmas.List.Elements.{All-more}
use Rattle.fx_css_types.specs.declared.declarations.Declaration.{Declaration}
use Rattle.fx_css_types.specs.Limits.{IsKeptDeclaration}
use Rattle.fx_css_limits.proofs.declarations.are_kept.Goals as goal

pub loop-declaration-preserved : goal.loop-declaration-preserved
loop-declaration-preserved c =
    let P : Declaration → Type 0 = IsKeptDeclaration in
    let kept : P c.declaration-item.result = c.is_kept.ensures.0 (subst IsTrue (sym c.if-not-is_kept.false) refl) in
    All-more P c.args.declarations.now c.loop-declaration.declaration-index c.declaration-item.result c.loop-declaration-test.true c.loop-declaration.invariant (subst P c.declaration-item.is kept)

pub returns : goal.returns
returns c =
    let P : Declaration → Type 0 = IsKeptDeclaration in
    (λ _. subst (All P) (take_all c.loop-declaration.declaration-index c.args.declarations.now c.loop-declaration-test.false) c.loop-declaration.invariant, λ _. refl)
