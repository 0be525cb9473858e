-- All that is said of a scene up to which what is kept was brought.
use Rattle.std.proofs.Common.{subst, ◌≡◌, ℕ, ◌+◌, ◌≤◌, length}
use Rattle.fx_layout.specs.Layouts.{IsLayout}
use Rattle.fx_layout.specs.Updates.{laid_bound, resized}
use Rattle.fx_style.specs.Rules.{kept_of, needs, worked}
use Rattle.fx_pulse_touched.specs.Marks.{places_of}
use Rattle.fx_pulse_kept.specs.Costs.{IsBrought}
use Rattle.fx_pulse_kept.proofs.CostLemmas.{few}
use Rattle.fx_pulse_kept.proofs.StepLemmas.{IsStep, Step, as_before, new_kept, new_layout, new_looks}
use Rattle.fx_pulse_kept.proofs.UntouchedLemmas.{nothing}

pub brought : (s : Step) → IsStep s → (styled_before styled laid_before laid : ℕ)
    → styled ≡ styled_before
    + worked (needs (places_of s.restyled) (kept_of s.old_styles s.scene.styles)) (length s.scene.styles)
    → laid ≤ laid_before
    + laid_bound (length (places_of s.marks)) (resized s.old_layout s.scene.boxes s.new_layout)
    → IsBrought s.last s.scene s.window s.old_layout s.new_styles s.new_layout s.marks styled_before styled laid_before
    laid
brought s g styled_before styled laid_before laid one two =
    let cost = few s g styled_before styled laid_before laid one two in
    record {
      kept = new_kept s g;
      looks = new_looks s g;
      placed = subst (λ looks. IsLayout s.scene.boxes looks s.window s.new_layout) (new_looks s g) (new_layout s g);
      marked = record { each = g.anew.each; as_before = λ k within free. as_before s g k within free };
      few = cost;
      still = nothing s g styled_before styled laid_before laid cost;
    }
