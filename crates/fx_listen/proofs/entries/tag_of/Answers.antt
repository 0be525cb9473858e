use Rattle.std.proofs.Common.{◌==◌, ◌&&◌, ◌∙◌, ap}
use Rattle.std.specs.List.{find}
use Rattle.std.specs.Option.{option_map}
use Rattle.fx_listen.specs.Listening.{is_live}
use Rattle.fx_listen.specs.declared.entries.Listener.{Listener}
use Rattle.fx_listen.proofs.Finding.{find-numbered-on}
use Rattle.fx_listen.proofs.entries.tag_of.Goals as goal

pub returns : goal.returns
returns c =
    let living = c.args.owners.now.living in
    let test : Listener → _ = λ l. (l.number == c.args.number) && is_live living l in
    c.tag_among.ensures
    ∙ ap (λ ls. option_map (λ (l : Listener). l.tag) (find test ls)) c.listeners_on.ensures
    ∙ ap (option_map (λ (l : Listener). l.tag)) (find-numbered-on living c.args.name.0 c.args.number c.args.listeners.now)
