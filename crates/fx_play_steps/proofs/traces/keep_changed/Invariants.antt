-- those so far stand behind those before
use Rattle.std.proofs.Common.{◌≡◌, ◌++◌, map, take}
use Rattle.fx_play_steps.proofs.traces.keep_changed.Given as goal

abbrev pub invariant-loop-notice : goal.invariant-loop-notice
invariant-loop-notice l =
    l.heard.items ≡ l.fn.heard.items ++ map (λ notice. (notice.0, notice.1)) (take l.notice-index l.told)
