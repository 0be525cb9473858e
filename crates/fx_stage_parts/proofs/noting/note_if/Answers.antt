use Rattle.fx_stage_parts.proofs.NotingLemmas.{all_next}
use Rattle.fx_stage_parts.proofs.noting.note_if.Goals as goal

pub note-requires-clause-new : goal.note-requires-clause-new
note-requires-clause-new c = all_next c.args.given c.args.written.now.entries c.requires.new
