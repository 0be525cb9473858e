use Rattle.std.proofs.Common.{refl}
use Rattle.fx_tree.specs.Slots.{attach_refused}
use Rattle.fx_tree.proofs.nodes.attach_refusal.Goals as goal

pub returns-then-not-is_live : goal.returns-then-not-is_live
unfolding attach_refused
returns-then-not-is_live c = rw (← c.if-not-is_live.ensures) refl

pub returns-then-not-is_live-2 : goal.returns-then-not-is_live-2
unfolding attach_refused
returns-then-not-is_live-2 c = rw (← c.if-not-is_live.ensures, ← c.if-not-is_live-2.ensures) refl

pub returns-then-stands_within : goal.returns-then-stands_within
unfolding attach_refused
returns-then-stands_within c = rw (← c.if-not-is_live.ensures, ← c.if-not-is_live-2.ensures, ← c.if-stands_within.ensures) refl

pub returns-then-has_parent : goal.returns-then-has_parent
unfolding attach_refused
returns-then-has_parent c =
    rw (← c.if-not-is_live.ensures, ← c.if-not-is_live-2.ensures, ← c.if-stands_within.ensures, ← c.if-has_parent.ensures) refl

pub returns-then-is_key : goal.returns-then-is_key
unfolding attach_refused
returns-then-is_key c =
    rw (← c.if-not-is_live.ensures, ← c.if-not-is_live-2.ensures, ← c.if-stands_within.ensures, ← c.if-has_parent.ensures, ← c.if-is_key.ensures) refl

pub returns-then-is_past_end : goal.returns-then-is_past_end
unfolding attach_refused
returns-then-is_past_end c =
    rw (
      ← c.if-not-is_live.ensures,
      ← c.if-not-is_live-2.ensures,
      ← c.if-stands_within.ensures,
      ← c.if-has_parent.ensures,
      ← c.if-is_key.ensures,
      ← c.if-is_past_end.ensures,
    ) refl

pub returns-then-is_too_deep : goal.returns-then-is_too_deep
unfolding attach_refused
returns-then-is_too_deep c =
    rw (
      ← c.if-not-is_live.ensures,
      ← c.if-not-is_live-2.ensures,
      ← c.if-stands_within.ensures,
      ← c.if-has_parent.ensures,
      ← c.if-is_key.ensures,
      ← c.if-is_past_end.ensures,
      ← c.if-is_too_deep.ensures,
    ) refl

pub returns : goal.returns
unfolding attach_refused
returns c =
    rw (
      ← c.if-not-is_live.ensures,
      ← c.if-not-is_live-2.ensures,
      ← c.if-stands_within.ensures,
      ← c.if-has_parent.ensures,
      ← c.if-is_key.ensures,
      ← c.if-is_past_end.ensures,
      ← c.if-is_too_deep.ensures,
    ) refl
