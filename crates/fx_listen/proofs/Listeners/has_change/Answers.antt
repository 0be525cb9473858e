use Rattle.std.proofs.Common.{◌∙◌, ap, filter}
use Rattle.std.specs.List.{list_any}
use Rattle.fx_listen.specs.declared.entries.ListenKind.TheVariants.{Change}
use Rattle.fx_listen.specs.Sorting.{is_heard, is_on}
use Rattle.fx_listen.proofs.Finding.{list_any-heard-on}
use Rattle.fx_listen.proofs.Listeners.has_change.Goals as goal

pub returns : goal.returns
returns c =
    let living = c.args.owners.now.living in
    let name = c.args.name.0 in
    rw (← c.self.view_is)
    (c.is_any_heard.ensures
    ∙ ap (list_any (is_heard living Change)) (c.listeners_on-found.ensures ∙ ap (filter (is_on name)) c.as_slice.ensures.value)
    ∙ list_any-heard-on living name Change c.self.inside.entries.items)
