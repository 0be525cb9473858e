use Rattle.std.proofs.Common.{◌≡◌, ◌∙◌, ◌&&◌, ap, subst, filter, List, IfOk}
use Rattle.fx_listen.specs.declared.entries.Listener.{Listener}
use Rattle.fx_listen.specs.Listening.{is_live, numbers_of, tells}
use Rattle.fx_listen.specs.Sorting.{is_heard, is_on}
use Rattle.fx_listen.proofs.Finding.{filter-heard-on}
use Rattle.fx_listen.proofs.Listeners.live_on.Goals as goal

pub returns : goal.returns
returns c =
    let living = c.args.owners.now.living in
    let name = c.args.name.0 in
    let all = c.self.inside.entries.items in
    let found : filter (is_heard living c.args.kind) c.listeners_on-found.result.now
    ≡ filter (λ (l : Listener). tells name c.args.kind l && is_live living l) all =
    ap (filter (is_heard living c.args.kind)) (c.listeners_on-found.ensures ∙ ap (filter (is_on name)) c.as_slice.ensures.value)
    ∙ filter-heard-on living name c.args.kind all in
    rw (← c.self.view_is)
    (subst (λ (l : List Listener). IfOk c.numbers_heard.result (λ numbers. numbers.items ≡ numbers_of l)) found c.numbers_heard.ensures)
