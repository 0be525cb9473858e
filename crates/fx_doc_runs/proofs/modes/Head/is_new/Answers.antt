use Rattle.std.proofs.Common.{not, ap, sym, ◌∙◌}
use Rattle.fx_doc_grammar.specs.Grammar.{is_among}
use Rattle.fx_doc_runs.specs.Attributes.{names_of}
use Rattle.fx_doc_runs.proofs.Names.{keys_are}
use Rattle.fx_doc_runs.proofs.modes.Head.is_new.Goals as goal

pub returns-then-len-le-NEAR-clause-fresh : goal.returns-then-len-le-NEAR-clause-fresh
returns-then-len-le-NEAR-clause-fresh c =
    ap not (c.is_named.ensures ∙ (ap (λ xs. is_among c.args.name.now (names_of xs)) c.as_slice.ensures.value ∙ ap (is_among c.args.name.now) (sym (keys_are c.args.self.now.attributes.items))))
