use Rattle.fx_words.proofs.AskingLemmas.{alone, asked}
use Rattle.fx_words.proofs.laws.words_ask_in_one_way.Goals as goal

pub returns-clause-asked : goal.returns-clause-asked
returns-clause-asked c words run h = asked words run h

pub returns-clause-alone : goal.returns-clause-alone
returns-clause-alone c words run h = alone words run h
