-- the edits so far were made, and the others stand as they did
use Rattle.std.proofs.Common.{◌≡◌, ◌≤◌, ℕ, get_or, length, take}
use Rattle.fx_damage.specs.Edits.{edited}
use Rattle.fx_damage.specs.declared.edits.Edit.{Edit}
use Rattle.fx_pulse.proofs.edit_lists.put_all.Given as goal

abbrev pub invariant-loop-at : goal.invariant-loop-at
invariant-loop-at l = record {
  made : l.entries.items ≡ edited (take l.at l.initial.edits) l.initial.entries.items;
  left : (k : ℕ) (d : Edit) → l.at ≤ k → get_or l.edits k d ≡ get_or l.initial.edits k d;
  long : length l.edits ≡ length l.initial.edits;
}
