-- No reader holds a text that is too long: its drafts are short.
-- Below the lemmas on runs.
use Rattle.std.proofs.Common.{◌≡◌, ℕ, ◌≤◌, Bool, true, false, refl, arith, ◌||◌}
use lib.Dec.{ltb}
use Rattle.fx_doc_grammar.specs.Machine.{is_long, mode_long, level_long}
use Rattle.fx_doc_runs.specs.Views.{view, mode_view, stack_view}
use Rattle.fx_doc_runs.specs.declared.modes.Reader.{Reader}
use Rattle.fx_doc_runs.specs.declared.modes.Mode.{Mode as ModeHere}
use Rattle.fx_doc_runs.specs.declared.modes.Mode.TheVariants as v

pub not_past : (n : ℕ) → n ≤ 4096 → ltb 4096 n ≡ false
not_past n h = grind arith

or_none : (a b : Bool) → a ≡ false → b ≡ false → (a || b) ≡ false
or_none true b e f = Prim.cc
or_none false b e f = f

mode_short : (r : Reader) (m : ModeHere) → r.mode ≡ m → mode_long (mode_view (stack_view r.held.stack.items) m) ≡ false
mode_short r (v.Instructing w) e = not_past _ w.short
mode_short r (v.Naming p w) e = not_past _ w.short
mode_short r (v.Keyed h p w) e = not_past _ w.short
mode_short r (v.Quoted x) e = not_past x.value.count x.value.short
mode_short r (v.ValueReferring x p f) e = not_past x.value.count x.value.short
mode_short r m e = refl

pub never_long : (r : Reader) → is_long (view r) ≡ false
never_long r = or_none (mode_long (view r).mode) (level_long (view r).held) (mode_short r r.mode refl) (not_past r.held.level.run.count r.held.level.run.short)

pub level_short : (r : Reader) → level_long (view r).held ≡ false
level_short r = not_past r.held.level.run.count r.held.level.run.short
