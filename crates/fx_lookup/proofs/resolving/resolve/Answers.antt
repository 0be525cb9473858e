use Rattle.std.proofs.Common.{◌≡◌, [], List, map, Bor, Option}
use Rattle.std.specs.Prelude.{IfSome, IfNone}
use Rattle.std.proofs.lemmas.Result.{IfOk-weaker}
use Rattle.fx_base.specs.declared.color.Color.{Color as Rgba}
use Rattle.fx_lookup.specs.declared.named.NamedPaint.{NamedPaint}
use Rattle.fx_lookup.specs.Lookups.{LeadsTo, resolved}
use Rattle.fx_lookup.proofs.LawLemmas.{found-leads, none-leads}
use Rattle.fx_lookup.proofs.resolving.resolve.Goals as goal

abbrev nodes : List (Bor (List NamedPaint)) → List (List NamedPaint)
nodes chain = map (λ (n : Bor (List NamedPaint)). n.now) chain

pub returns-clause-found : goal.returns-clause-found
returns-clause-found c =
    let chain = nodes c.args.chain.now in
    let name = c.args.name.now in
    IfOk-weaker c.search.result (λ (o : Option Rgba). o ≡ resolved chain name)
    (λ (o : Option Rgba). IfSome o (LeadsTo chain [] name))
    (λ o is. found-leads chain name o is) c.search.ensures

pub returns-clause-none : goal.returns-clause-none
returns-clause-none c =
    let chain = nodes c.args.chain.now in
    let name = c.args.name.now in
    IfOk-weaker c.search.result (λ (o : Option Rgba). o ≡ resolved chain name)
    (λ (o : Option Rgba). IfNone o ((color : Rgba) → LeadsTo chain [] name color → ⊥))
    (λ o is. none-leads chain name o is) c.search.ensures
