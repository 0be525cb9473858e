use Rattle.std.proofs.Common.{Some}
use Rattle.fx_base.specs.Names.{numbers}
use Rattle.fx_stage_facts.specs.Unread.{unread_in}
use Rattle.fx_stage_facts.proofs.LoopLemmas.{none_pushed}
use Rattle.fx_stage_facts.proofs.attached.push_if_any.Goals as goal

pub returns-then-is_read : goal.returns-then-is_read
returns-then-is_read c =
    none_pushed (numbers c.args.names.now.items) (unread_in c.args.store.now.unread (Some c.args.node.now))
    (c.is_read.ensures c.if-is_read.true)
