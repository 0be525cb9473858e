use Rattle.std.proofs.Common.{◌≡◌, ◌<◌, ◌≤◌, ◌+◌, ℕ, true, false, None, length}
use Rattle.std.specs.Prelude.{is_some}
use Rattle.fx_style.specs.Kept.{fresh_at, kept_at}
use Rattle.fx_style.specs.Plans.{AreSteps}
use Rattle.fx_style.specs.Rules.{needs, worked}
use Rattle.fx_style.specs.Turns.{AreRightBelow}
use Rattle.fx_style.proofs.FreshLemmas.{AreFew}
use Rattle.fx_style.proofs.making.made.Given as goal

abbrev pub invariant-loop-at : goal.invariant-loop-at
invariant-loop-at g l =
    let kept = kept_at l.old.looks.now l.old.rest.now l.scene.facts.now in
    record {
      long : length l.steps.items ≡ length l.scene.facts.now;
      steps : AreSteps l.fresh l.steps.items;
      few : AreFew l.fresh l.steps.items;
      low : (k : ℕ) → l.at ≤ k → fresh_at l.fresh k ≡ None;
      right : AreRightBelow l.scene.sheets.now l.scene.facts.now l.restyle kept l.old.looks.now l.old.rest.now
          l.fresh l.at;
      all : l.old.stay ≡ false → (k : ℕ) → k < l.at → is_some (fresh_at l.fresh k) ≡ true;
      cost : l.work ≡ record l.initial.work {
        styled = l.initial.work.styled + worked (needs l.restyle kept) l.at;
      };
    }
