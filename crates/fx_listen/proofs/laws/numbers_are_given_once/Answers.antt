use Rattle.fx_listen.proofs.History.{each_number_once}
use Rattle.fx_listen.proofs.laws.numbers_are_given_once.Goals as goal

pub returns : goal.returns
returns c = each_number_once
