use Rattle.std.proofs.Common.{◌≡◌, ◌∙◌, IfSome, List, Some, ap, option_map, subst, sym}
use Rattle.fx_look.specs.declared.styles.CodeValue.{CodeValue}
use Rattle.fx_kinds.specs.declared.facts.StyleFacts.{StyleFacts}
use Rattle.fx_node_style.specs.declared.node_styles.NodeStyle.{NodeStyle}
use Rattle.fx_style.specs.Kept.{entry_in, style_of_entry}
use Rattle.fx_style.specs.Lasts.{AreStylesOf, rewritten}
use Rattle.fx_style.specs.Plans.{drafted}
use Rattle.fx_style.proofs.RecodedLemmas.{rewritten_is}
use Rattle.fx_style.proofs.SiblingLemmas.{sibling_is}
use Rattle.fx_style.proofs.making.style_anew.Goals as goal

the_style : (a b : NodeStyle) → Some a ≡ Some b → a ≡ b
the_style a b e = cc

the_node : (a b : StyleFacts) → Some a ≡ Some b → a ≡ b
the_node a b e = cc

pub returns-then-branch-clause-style : goal.returns-then-branch-clause-style
returns-then-branch-clause-style g c =
    let sheets = c.args.scene.sheets.now in
    let facts = c.args.scene.facts.now in
    let listed = c.args.plan.listed.now in
    let looks = c.args.plan.looks.now in
    let rest = c.args.plan.rest.now in
    let at = c.args.turn.at in
    let r = c.is_recoded.ensures.0 c.if-is_recoded.true in
    let are : AreStylesOf sheets facts listed looks rest r.olds =
    subst (λ o. IfSome o (AreStylesOf sheets facts listed looks rest)) r.given c.requires.last in
    let node : c.node_at.result.now ≡ r.node =
    the_node c.node_at.result.now r.node (sym c.node_at.ensures ∙ r.is) in
    let codes : c.as_slice-codes.result.now ≡ r.node.codes =
    c.as_slice-codes.ensures ∙ ap (λ (n : StyleFacts). n.codes) node in
    let kept = style_of_entry (entry_in looks rest at) in
    the_style c.copy_rewritten.new.draft _
    (sym (ap (λ b. drafted b c.copy_rewritten.new.draft) c.if-branch.true)
    ∙ (c.in_ok-copy_rewritten.ensures
    ∙ (ap (λ (l : List CodeValue). option_map (rewritten l) kept) codes
    ∙ rewritten_is sheets facts r.olds listed looks rest c.args.plan.fresh.now c.requires.before are at r.old r.node
    r.was r.is r.differs (c.requires.calm c.if-turn.true) c.requires.right)))

pub returns-then-copied-clause-style : goal.returns-then-copied-clause-style
returns-then-copied-clause-style g c =
    let facts = c.args.scene.facts.now in
    let at = c.args.turn.at in
    let own = c.in_ok-copied.ensures c.if-copied.true in
    let of = own.sibling in
    let marked = c.requires.before_it of.place of.named in
    own.style
    ∙ sibling_is c.args.scene.sheets.now c.args.scene.index.now c.requires.sheets.listed facts c.args.plan.listed.now c.args.plan.looks.now c.args.plan.rest.now
    c.args.plan.fresh.now c.requires.before of.place at own.made of.made_like marked.0 marked.1 c.requires.right

pub copy_sibling-requires-clause-before_it : goal.copy_sibling-requires-clause-before_it
copy_sibling-requires-clause-before_it g c = λ p named. (c.requires.before_it p named).0
