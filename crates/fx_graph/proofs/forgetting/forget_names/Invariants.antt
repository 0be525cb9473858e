use Rattle.std.proofs.Common.{◌≡◌, ◌≤◌, drop}
use Rattle.fx_base.specs.Names.{numbers}
use Rattle.fx_graph_model.specs.Changes.{forget_all, clear_all}
use Rattle.fx_graph.specs.Forgotten.{Keeps, reset}
use Rattle.fx_graph.proofs.forgetting.forget_names.Given as goal

abbrev pub invariant-loop-name : goal.invariant-loop-name
invariant-loop-name l =
    Keeps l.lists
    × (l.lists ≡ record l.fn.lists { entries = l.lists.entries; users = l.lists.users; unread = l.lists.unread; cache = l.lists.cache; operand_count = l.lists.operand_count })
    × (forget_all (numbers (drop l.name-index l.names)) l.lists.entries.items ≡ forget_all (numbers l.names) l.fn.lists.entries.items)
    × (clear_all (numbers (drop l.name-index l.names)) l.lists.unread.items ≡ clear_all (numbers l.names) l.fn.lists.unread.items)
    × (reset (numbers (drop l.name-index l.names)) l.lists.cache.items ≡ reset (numbers l.names) l.fn.lists.cache.items)
    × (l.lists.operand_count ≤ l.fn.lists.operand_count)
