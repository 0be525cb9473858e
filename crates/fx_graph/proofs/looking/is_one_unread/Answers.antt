use Rattle.std.proofs.Common.{◌∙◌, Bool, List, ap, sym, take}
use Rattle.std.specs.List.{list_any}
use Rattle.fx_graph.proofs.FlagLemmas.{any_in_row, none_past}
use Rattle.fx_graph.proofs.looking.is_one_unread.Goals as goal

pub returns-then-from-unread : goal.returns-then-from-unread
returns-then-from-unread c = sym (none_past c.args.unread.now c.args.count c.args.first.0 c.if-from-unread.true)

pub returns : goal.returns
returns c =
    c.is_one_set.ensures
    ∙ ap (λ (l : List Bool). list_any (λ (flag : Bool). flag) (take c.args.count l)) c.split_at.ensures.back
    ∙ any_in_row c.args.unread.now c.args.count c.args.first.0
