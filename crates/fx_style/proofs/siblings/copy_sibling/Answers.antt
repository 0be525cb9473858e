use Rattle.std.proofs.Common.{◌≡◌, List, Some, sym, ◌∙◌, ap}
use Rattle.std.specs.Option.{option_copied}
use Rattle.fx_look.specs.declared.styles.CodeValue.{CodeValue}
use Rattle.fx_kinds.specs.declared.facts.StyleFacts.{StyleFacts}
use Rattle.fx_style.specs.Lasts.{rewritten}
use Rattle.fx_style.proofs.siblings.copy_sibling.Goals as goal

the_node : (a b : StyleFacts) → Some a ≡ Some b → a ≡ b
the_node a b e = cc

pub returns : goal.returns
returns c = λ copied.
    let made = c.in-Some.made.now in
    let of = c.sibling_entry.ensures made (ap option_copied c.in-Some.is) in
    let node : c.node_at.result.now ≡ of.made_like.node =
    the_node c.node_at.result.now of.made_like.node (sym c.node_at.ensures ∙ of.made_like.is) in
    let codes : c.as_slice-codes.result.now ≡ of.made_like.node.codes =
    c.as_slice-codes.ensures ∙ ap (λ (n : StyleFacts). n.codes) node in
    record {
      made = made;
      sibling = of;
      style = c.in_ok-write_with_lengths.ensures
          ∙ ap (λ (l : List CodeValue). rewritten l made.style) codes;
    }
