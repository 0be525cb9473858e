-- those so far stand behind those before
use Rattle.std.proofs.Common.{◌≡◌, ◌++◌, take}
use Rattle.fx_play_steps.proofs.traces.keep_unread.Given as goal

abbrev pub invariant-loop-notice : goal.invariant-loop-notice
invariant-loop-notice l = l.heard.items ≡ l.fn.heard.items ++ take l.notice-index l.told
