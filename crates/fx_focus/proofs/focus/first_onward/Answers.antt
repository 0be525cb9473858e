use Rattle.std.proofs.Common.{◌+◌, take, drop, ap, sym, ◌∙◌}
use Rattle.fx_base.specs.Answers.{or_else}
use Rattle.fx_focus.specs.Focus.{first_key, onward}
use Rattle.fx_focus.proofs.FocusLemmas.{first-append}
use Rattle.fx_focus.proofs.focus.first_onward.Goals as goal

pub returns-in-Some : goal.returns-in-Some
returns-in-Some c =
    let scene = c.args.tree.now in
    let entries = c.args.entries.now in
    let at = c.in-Some.place + 1 in
    c.or_first.ensures
    ∙ ap (λ found. or_else found (first_key scene c.split_at.result.0.now)) c.first_of.ensures
    ∙ ap (λ l. or_else (first_key scene l) (first_key scene c.split_at.result.0.now)) c.split_at.ensures.back
    ∙ ap (λ l. or_else (first_key scene (drop at entries)) (first_key scene l)) c.split_at.ensures.front
    ∙ sym (first-append scene (drop at entries) (take at entries))
    ∙ ap (λ place. first_key scene (onward entries place)) (sym c.in-Some.is)
