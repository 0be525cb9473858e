use Rattle.fx_text.proofs.TrimLemmas.{trimmed_sound, trimmed_complete}
use Rattle.fx_text.proofs.laws.texts_are_trimmed_in_one_way.Goals as goal

pub returns-clause-is : goal.returns-clause-is
returns-clause-is c = trimmed_sound

pub returns-clause-alone : goal.returns-clause-alone
returns-clause-alone c = trimmed_complete
