use Rattle.std.proofs.Common.{◌<◌, ◌≢◌, AllPairs, sym, subst, All, List, ℕ, length}
use Rattle.fx_layout_sweeps.proofs.Asking.{children_below, lists_apart}
use Rattle.fx_layout_sweeps.proofs.nodes.children_in.Goals as goal

pub returns-clause-below : goal.returns-clause-below
returns-clause-below c =
    subst (λ (l : List ℕ). All (λ j. j < length c.args.nodes.now) l) (sym c.places_in.ensures)
    (children_below c.args.nodes.now c.args.children.now c.args.place c.requires.nodes c.requires.children c.requires.place)

pub returns-clause-apart : goal.returns-clause-apart
returns-clause-apart c =
    subst (λ (l : List ℕ). AllPairs (λ i j. i ≢ j) l) (sym c.places_in.ensures)
    (lists_apart c.args.nodes.now c.args.children.now c.args.place c.requires.children c.requires.place)
