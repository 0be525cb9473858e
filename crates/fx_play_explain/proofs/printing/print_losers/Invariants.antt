-- those so far are told
use Rattle.std.proofs.Common.{◌≡◌, ◌++◌, take}
use Rattle.std.specs.List.{flat_map}
use Rattle.fx_plain_explain.specs.Ranks.{loser_line, source_text}
use Rattle.fx_play_explain.proofs.printing.print_losers.Given as goal

abbrev pub invariant-loop-loser : goal.invariant-loop-loser
invariant-loop-loser l =
    l.out.items ≡ l.fn.out.items
    ++ flat_map (loser_line (source_text l.sheets l.seen l.matched)) (take l.loser-index l.losers)
