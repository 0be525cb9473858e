use Rattle.std.proofs.Common.{◌∙◌, length, sym}
use Rattle.std.proofs.lemmas.Bool.{eqb-true}
use Rattle.fx_css_types.specs.declared.sheets.SheetOrigin.TheVariants as origin
use Rattle.fx_stage_facts.specs.Sheets.{depth_of, from_origin}
use Rattle.fx_stage_facts.proofs.LoopLemmas.{none_put}
use Rattle.fx_stage_facts.proofs.sheets.push_parents.Goals as goal

pub returns-then-is_empty : goal.returns-then-is_empty
returns-then-is_empty c =
    none_put (from_origin (origin.Parent (depth_of c.args.tree.now.nodes c.args.key))) c.args.sheets.now c.args.own.now
    (eqb-true (length c.args.own.now) 0 (sym c.is_empty.ensures ∙ c.if-is_empty.true))
