use Rattle.std.proofs.Common.{ℕ, List, sym, ◌∙◌, ap}
use Rattle.fx_select.specs.declared.lists.SelectorAt.{SelectorAt}
use Rattle.fx_select.specs.Named.{under}
use Rattle.fx_select.proofs.NamedLemmas.{under-entries_of}
use Rattle.fx_select.proofs.lists.NamedLists.under.Goals as goal

pub returns : goal.returns
returns c =
    c.list_under.ensures
    ∙ sym (under-entries_of c.self.inside.lists c.args.name.now)
    ∙ ap (λ (l : List (List ℕ × List SelectorAt)). under l c.args.name.now) c.self.view_is
