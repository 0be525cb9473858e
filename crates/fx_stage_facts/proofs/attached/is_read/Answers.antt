use Rattle.std.proofs.Common.{◌∙◌, arith, subst, sym}
use Rattle.std.proofs.lemmas.Bool.{not-true}
use Rattle.fx_kinds.specs.declared.classes.Class.{Class}
use Rattle.fx_stage_facts.specs.Places.{IsAround}
use Rattle.fx_stage_facts.proofs.AroundLemmas.{few_front, none_read}
use Rattle.fx_stage_facts.proofs.attached.is_read.Goals as goal

pub overflow_cast-behind : goal.overflow_cast-behind
overflow_cast-behind c = omega (arith, few_front c.args.places.now c.in-Some.around c.in-Some.ensures)

pub overflow_add-behind : goal.overflow_add-behind
overflow_add-behind c =
    omega (arith, few_front c.args.places.now c.in-Some.around c.in-Some.ensures, c.requires.low)

pub overflow_add-behind-2 : goal.overflow_add-behind-2
overflow_add-behind-2 c =
    omega (arith, few_front c.args.places.now c.in-Some.around c.in-Some.ensures, c.requires.low)

pub returns : goal.returns
returns c =
    λ told.
    none_read c.args.store.now.unread c.args.node.now c.in-Some.around
    (subst (λ (class : Class). IsAround class c.in-Some.around) c.requires.class c.in-Some.ensures)
    (sym c.is_any_unread.ensures ∙ c.if-is_any_unread.false)
    (sym c.is_any_unread-2.ensures ∙ not-true _ told)
