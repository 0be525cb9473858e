use Rattle.std.proofs.Common.{◌≡◌, ◌++◌, ◌∷◌, [], ℕ, List, cond, sym, ◌∙◌, ap}
use Rattle.std.proofs.lemmas.Result.{on_ok_weaker}
use Rattle.std.specs.Str.{bytes_eq}
use Rattle.fx_select.specs.declared.lists.SelectorAt.{SelectorAt}
use Rattle.fx_select.specs.Named.{grouped, under}
use Rattle.fx_select.proofs.NamedLemmas.{under-entries_of}
use Rattle.fx_select.proofs.lists.NamedLists.add.Goals as goal

pub returns : goal.returns
returns c =
    on_ok_weaker c.push_under.result
    (λ added other.
    let same : grouped c.self.inside.lists other ≡ under c.args.self.now other =
    sym (under-entries_of c.self.inside.lists other) ∙ ap (λ (l : List (List ℕ × List SelectorAt)). under l other) c.self.view_is in
    under-entries_of c.push_under.new.lists other
    ∙ added other
    ∙ ap (λ (l : List SelectorAt). cond (bytes_eq other c.args.name.now) (l ++ c.args.at ∷ []) l) same)
    c.push_under.ensures
