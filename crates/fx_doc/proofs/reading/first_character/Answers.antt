use Rattle.fx_doc_runs.proofs.Firsts.{first_is}
use Rattle.fx_doc.proofs.reading.first_character.Goals as goal

pub returns-clause-some : goal.returns-clause-some
returns-clause-some c = first_is c.args.text.now c.chars-characters.result.rest.now c.next.new.self.rest.now c.as_str.result.now c.in_ok-c.c c.utf8.text c.chars-characters.ensures.rest c.in_ok-c.ensures.steps.0 c.in_ok-c.ensures.steps.2 c.as_str.ensures
