use Rattle.std.proofs.Common.{◌∙◌}
use Rattle.indexmap.proofs.CallerLemmas.{insert_entry-new}
use Rattle.fx_stage_parts.proofs.NotingLemmas.{none_less}
use Rattle.fx_stage_parts.proofs.noting.note.Goals as goal

pub returns-clause-written : goal.returns-clause-written
returns-clause-written c =
    c.in-Ok-insert.ensures.entries
    ∙ insert_entry-new _ c.args.written.now c.args.number c.args.asked
    (none_less c.args.number c.args.written.now.entries c.requires.new)
