use Rattle.std.proofs.Common.{ℕ, Option, sym, subst}
use Rattle.std.specs.Prelude.{IfSome, IfNone, ◌≡◌}
use Rattle.fx_cascade.specs.declared.sources.Source.{Source}
use Rattle.fx_cascade.specs.declared.sources.Winner.{Winner}
use Rattle.fx_cascade.specs.Sources.{IsBest, Speaks, winner_of}
use Rattle.fx_cascade.proofs.LawLemmas.{found-best, found-none}
use Rattle.fx_cascade.proofs.one_property.best.Goals as goal

pub returns-clause-found : goal.returns-clause-found
returns-clause-found c =
    let sheets = c.args.sheets.now in
    let matched = c.args.matched.now in
    let codes = c.args.codes.now in
    let name = c.args.property.now in
    subst (λ (r : Option Winner). IfSome r
    (λ (w : Winner). (best : Source) × IsBest sheets matched codes name best × (winner_of best ≡ w)))
    (sym c.best_winner.ensures)
    (found-best sheets matched codes name c.best_source.result (sym c.best_source.ensures))

pub returns-clause-none : goal.returns-clause-none
returns-clause-none c =
    let sheets = c.args.sheets.now in
    let matched = c.args.matched.now in
    let codes = c.args.codes.now in
    let name = c.args.property.now in
    subst (λ (r : Option Winner). IfNone r ((other : Source) → Speaks sheets matched codes name other → ⊥))
    (sym c.best_winner.ensures)
    (found-none sheets matched codes name c.best_source.result (sym c.best_source.ensures))
