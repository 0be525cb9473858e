use Rattle.std.proofs.Common.{ℕ, List, ◌∙◌, ap}
use Rattle.std.specs.Borrow.{Bor}
use Rattle.std.specs.List.{list_any}
use Rattle.std.specs.Str.{bytes_eq}
use Rattle.fx_look.proofs.TableLemmas.{any-map}
use Rattle.fx_stage_types.specs.Edits.{has_word}
use Rattle.fx_stage_model.specs.Dressing.{own_pseudos}
use Rattle.fx_stage_words.proofs.events.is_own_pseudo.Goals as goal

pub returns : goal.returns
returns c =
    c.is_among.ensures
    ∙ any-map (λ (other : Bor (List ℕ)). other.now) (λ other. bytes_eq other c.as_str.result.now) c.own_pseudos.result.now
    ∙ ap (list_any (λ other. bytes_eq other c.as_str.result.now)) c.own_pseudos.ensures
    ∙ ap (has_word own_pseudos) c.as_str.ensures.text
