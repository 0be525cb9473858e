use Rattle.std.proofs.Common.{Contains, subst}
use Rattle.std.proofs.lemmas.List.{get_or_default}
use Rattle.fx_graph_model.specs.declared.entries.Entry.{Entry}
use Rattle.fx_graph_model.specs.Uses.{nothing, operands_in}
use Rattle.fx_graph_model.specs.Users.{Unlinks}
use Rattle.fx_graph_edges.proofs.linking.release_at.Goals as goal

pub release-requires : goal.release-requires
release-requires c = λ name member.
    c.requires.used name
    (subst (λ (e : Entry). Contains (operands_in e.definition) name) (get_or_default c.args.entries.now c.args.name _ nothing c.requires.known) member)

pub returns-clause-unlinked : goal.returns-clause-unlinked
returns-clause-unlinked c =
    subst (λ (e : Entry). Unlinks c.args.name (operands_in e.definition) c.args.users.now c.release.new.users)
    (get_or_default c.args.entries.now c.args.name _ nothing c.requires.known) c.release.ensures.unlinked
