use Rattle.std.proofs.Common.{◌∙◌}
use Rattle.fx_doc_drafts.proofs.names.Names.has.Goals as goal

pub returns : goal.returns
returns c = λ names h. c.contains.ensures ∙ h c.args.name.now.text
