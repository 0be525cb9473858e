use Rattle.std.proofs.Common.{◌≡◌, List, length, ◌∙◌, ap, subst}
use Rattle.std.specs.Prelude.{IfOk}
use Rattle.fx_look.specs.declared.looks.Look.{Look}
use Rattle.fx_style.specs.declared.kept.Rest.{Rest}
use Rattle.fx_style.specs.Kept.{Kept, kept_at}
use Rattle.fx_style.specs.Turns.{AreRightBelow}
use Rattle.fx_style.proofs.styles.Styles.fresh.Goals as goal

pub returns-clause-right : goal.returns-clause-right
returns-clause-right g c =
    let sheets = c.args.scene.sheets.now in
    let facts = c.args.scene.facts.now in
    let restyle = c.args.restyle.now in
    let looks : c.as_slice.result.now ≡ c.args.self.now.looks =
    c.as_slice.ensures.value ∙ ap (λ (k : Kept). k.looks) c.self.view_is in
    let rest : c.as_slice-2.result.now ≡ c.args.self.now.rest =
    c.as_slice-2.ensures.value ∙ ap (λ (k : Kept). k.rest) c.self.view_is in
    subst (λ (ls : List Look). IfOk c.made.result (λ fresh. AreRightBelow sheets facts restyle
    (kept_at ls c.args.self.now.rest facts) ls c.args.self.now.rest fresh (length facts))) looks
    (subst (λ (rs : List Rest). IfOk c.made.result (λ fresh. AreRightBelow sheets facts restyle
    (kept_at c.as_slice.result.now rs facts) c.as_slice.result.now rs fresh (length facts))) rest
    c.made.ensures.right)
