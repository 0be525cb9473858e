use Rattle.std.proofs.Common.{◌≡◌, Bool, List, ◌∙◌, ap, subst}
use Rattle.std.specs.Option.{option_copied}
use Rattle.fx_style.specs.declared.kept.Rest.{Rest}
use Rattle.fx_style.specs.Kept.{Kept}
use Rattle.fx_style.specs.Parting.{AreParts}
use Rattle.fx_style.proofs.PartingLemmas.{if_found, parted_of}
use Rattle.fx_style.proofs.styles.Styles.parted.Goals as goal

pub returns : goal.returns
returns c =
    let sheets = c.args.scene.sheets.now in
    let facts = c.args.scene.facts.now in
    let last = option_copied c.args.scene.last in
    let marks = c.in_ok-marks.marks.items in
    let old = c.args.self.now in
    let rest : c.as_slice.result.now ≡ old.rest =
    c.as_slice.ensures.value ∙ ap (λ (k : Kept). k.rest) c.self.view_is in
    if_found c.parts_of.result
    (λ parts are. parted_of sheets facts c.args.restyle.now marks old last parts.there.items parts.left.items
    c.requires.last c.in_ok-marks.ensures.marks (c.stays.ensures c.if-not-stays.false)
    (subst (λ (r : List Rest). AreParts last facts r marks parts.there.items parts.left.items) rest
    (subst (λ (m : List Bool). AreParts last facts c.as_slice.result.now m parts.there.items parts.left.items)
    c.as_slice-2.ensures.value are)))
    c.parts_of.ensures
