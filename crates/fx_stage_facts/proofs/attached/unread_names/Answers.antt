use Rattle.std.proofs.Common.{◌∙◌, ap, arith, sym}
use Rattle.std.proofs.lemmas.List.{take_all}
use Rattle.fx_base.specs.Names.{numbers}
use Rattle.fx_base.specs.declared.keys.NodeKey.{NodeKey}
use Rattle.fx_stage_facts.specs.Unread.{unread_of}
use Rattle.fx_stage_facts.proofs.DraftLemmas.{names_next}
use Rattle.fx_stage_facts.proofs.attached.unread_names.Goals as goal

no_key : NodeKey
no_key = record { slot = 0; birth = 0 }

pub loop-place-init : goal.loop-place-init
loop-place-init c = ap numbers c.new-names.ensures.items ∙ sym c.requires.read

pub loop-place-preserved : goal.loop-place-preserved
unfolding no_key
loop-place-preserved c =
    names_next c.args.store.now.unread c.args.graph.now.table c.args.keys.now c.loop-place.place no_key
    (numbers c.loop-place.names.items) (numbers c.push_unread_at.new.names.items) c.loop-place-test.true
    c.in_ok-push_unread_at.ensures c.loop-place.invariant

pub returns : goal.returns
returns c =
    c.loop-place.invariant
    ∙ ap (unread_of c.args.store.now.unread c.args.graph.now.table)
    (take_all c.loop-place.place c.args.keys.now (omega (arith, c.loop-place-test.false)))
