use Rattle.std.proofs.Common.{◌∙◌, List, ℕ}
use Rattle.std.specs.Borrow.{Bor}
use Rattle.std.specs.Str.{bytes_eq}
use Rattle.fx_look.proofs.TableLemmas.{position-map}
use Rattle.fx_look.proofs.readings.place_of.Goals as goal

pub returns : goal.returns
returns c = c.find_place.ensures ∙ position-map (λ (constant : Bor (List ℕ)). constant.now) (λ constant. bytes_eq constant c.args.s.now) c.args.constants.now
