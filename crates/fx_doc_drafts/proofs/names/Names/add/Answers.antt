use Rattle.std.proofs.Common.{ap, ◌∙◌, ◌∷◌, ◌++◌, [], List, ℕ}
use Rattle.std.specs.String.{string_bytes, string_cmp}
use Rattle.std.specs.BTreeSet.{contains}
use Rattle.fx_doc_grammar.specs.Grammar.{is_among}
use Rattle.fx_doc_drafts.proofs.Same.{has_more}
use Rattle.fx_doc_drafts.proofs.names.Names.add.Goals as goal

pub returns : goal.returns
returns c = λ names h k.
    has_more k c.in_ok-name.name names (contains string_cmp c.args.self.now.names k) (contains string_cmp c.insert.new.self k) (h k) (c.in_ok-insert.ensures.updates.0 k)
    ∙ ap (λ (n : List ℕ). is_among (string_bytes k) (names ++ (n ∷ []))) c.in_ok-name.ensures.ok
