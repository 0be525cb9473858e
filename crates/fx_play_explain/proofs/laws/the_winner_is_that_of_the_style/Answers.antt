use Rattle.fx_stage_facts.specs.Sheets.{sheets_of}
use Rattle.fx_stage_facts.specs.Styles.{style_facts}
use Rattle.fx_play_explain.proofs.LawLemmas.{place_there, wins_style}
use Rattle.fx_play_explain.proofs.laws.the_winner_is_that_of_the_style.Goals as goal

pub returns : goal.returns
returns c = λ world key name text told.
    wins_style c.the_winner_is_the_best.ensures.same c.matches_name_each_rule_once.ensures (sheets_of world) (style_facts world)
    (c.facts_fit_together.ensures world).before told.at (place_there (style_facts world) key told.at told.there) name text told.told
