use Rattle.std.proofs.Common.{ℕ, List, Option, ◌∙◌, ap, sym}
use Rattle.std.specs.Borrow.{Bor}
use Rattle.std.specs.List.{position}
use Rattle.std.specs.Option.{option_map_or}
use Rattle.std.specs.Str.{bytes_eq}
use Rattle.fx_look.proofs.TableLemmas.{position-map}
use Rattle.fx_stage_types.specs.declared.steps.Spot.TheVariants.{At, On}
use Rattle.fx_stage_model.specs.Nodes.{edges, place_of_digits}
use Rattle.fx_stage_words.proofs.spots.spot_of.Goals as goal

pub returns-in-Some : goal.returns-in-Some
returns-in-Some c =
    let word = c.args.word.now in
    let same =
    c.edge_of.ensures
    ∙ position-map (λ (edge : Bor (List ℕ)). edge.now) (λ edge. bytes_eq edge c.as_str.result.now) c.edges.result.now
    ∙ ap (position (λ edge. bytes_eq edge c.as_str.result.now)) c.edges.ensures
    ∙ ap (λ (w : List ℕ). position (λ edge. bytes_eq edge w) edges) c.as_str.ensures.text in
    ap (λ (o : Option ℕ). option_map_or On o (At (place_of_digits word))) (sym c.in-Some.is ∙ same)

pub returns-in-None : goal.returns-in-None
returns-in-None c =
    let word = c.args.word.now in
    let same =
    c.edge_of.ensures
    ∙ position-map (λ (edge : Bor (List ℕ)). edge.now) (λ edge. bytes_eq edge c.as_str.result.now) c.edges.result.now
    ∙ ap (position (λ edge. bytes_eq edge c.as_str.result.now)) c.edges.ensures
    ∙ ap (λ (w : List ℕ). position (λ edge. bytes_eq edge w) edges) c.as_str.ensures.text in
    ap At c.number_of.ensures
    ∙ ap (λ (o : Option ℕ). option_map_or On o (At (place_of_digits word))) (sym c.in-None.is ∙ same)
