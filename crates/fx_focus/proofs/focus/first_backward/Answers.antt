use Rattle.std.proofs.Common.{take, drop, reverse, ap, sym, ◌∙◌}
use Rattle.fx_base.specs.Answers.{or_else}
use Rattle.fx_focus.specs.Focus.{backward, first_key}
use Rattle.fx_focus.proofs.FocusLemmas.{first-append}
use Rattle.fx_focus.proofs.focus.first_backward.Goals as goal

pub returns-in-Some : goal.returns-in-Some
returns-in-Some c =
    let scene = c.args.tree.now in
    let entries = c.args.entries.now in
    let at = c.in-Some.place in
    c.or_last.ensures
    ∙ ap (λ found. or_else found (first_key scene (reverse c.split_at.result.1.now))) c.last_of.ensures
    ∙ ap (λ l. or_else (first_key scene (reverse l)) (first_key scene (reverse c.split_at.result.1.now)))
    c.split_at.ensures.front
    ∙ ap (λ l. or_else (first_key scene (reverse (take at entries))) (first_key scene (reverse l)))
    c.split_at.ensures.back
    ∙ sym (first-append scene (reverse (take at entries)) (reverse (drop at entries)))
    ∙ ap (λ place. first_key scene (backward entries place)) (sym c.in-Some.is)
