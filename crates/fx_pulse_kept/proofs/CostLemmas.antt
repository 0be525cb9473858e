-- No more is worked on than what is marked, and no more is marked than what is touched makes.
use Rattle.std.proofs.Common.{sym, ap, subst, ◌∙◌, ◌≡◌, ℕ, ◌+◌, ◌≤◌, ◌||◌, true, length, arith}
use Rattle.fx_style.specs.Rules.{kept_of, needs, worked}
use Rattle.fx_style.proofs.CostLemmas.{few_worked}
use Rattle.fx_layout.specs.Updates.{laid_bound, resized}
use Rattle.fx_layout_sweeps.specs.Marks.{flag_in}
use Rattle.fx_layout_sweeps.specs.Nodes.{parents}
use Rattle.fx_layout_sweeps.specs.Sweeps.{tally}
use Rattle.fx_layout_sweeps.proofs.Tallies.{tally_same}
use Rattle.fx_pulse_touched.specs.Marks.{places_of}
use Rattle.fx_pulse_touched.specs.Touched.{is_remeasured, is_restyled, remeasured, restyled}
use Rattle.fx_pulse_touched.proofs.PlaceLemmas.{places_many}
use Rattle.fx_pulse_touched.proofs.ToldLemmas.{long}
use Rattle.fx_pulse_touched.proofs.UpLemmas.{above_weaker}
use Rattle.fx_pulse_kept.specs.Costs.{AreFew}
use Rattle.fx_pulse_kept.proofs.CountLemmas.{tally_less}
use Rattle.fx_pulse_kept.proofs.StepLemmas.{IsStep, Step, ready}
use Rattle.fx_pulse_kept.proofs.StyleLemmas.{are_kept, as_many, marked_as, marks_long}

few_styled : (s : Step) → IsStep s
    → length (places_of s.restyled) ≡ restyled (parents s.scene.boxes) s.styles
few_styled s g =
    let facts = s.scene.styles in
    let ups = parents s.scene.boxes in
    let many : length ups ≡ length facts = long s.scene.boxes ∙ sym (as_many s.scene g.is) in
    places_many s.restyled (length facts)
    (marks_long s.last s.scene s.styles s.restyled s.old_styles (ready s g))
    ∙ (tally_same (flag_in s.restyled) (is_restyled ups s.styles) (length facts)
    (λ q less. marked_as s.last s.scene s.styles s.restyled s.old_styles (ready s g) q less)
    ∙ ap (tally (is_restyled ups s.styles)) (sym many))

few_measured : (s : Step) → IsStep s
    → length (places_of s.marks) ≤ remeasured (parents s.scene.boxes) s.styles s.boxes
few_measured s g =
    let n = length s.scene.boxes in
    let ups = parents s.scene.boxes in
    let many : length ups ≡ length s.scene.styles = long s.scene.boxes ∙ sym (as_many s.scene g.is) in
    let less = tally_less (flag_in s.marks) (is_remeasured ups s.styles s.boxes) n
    (λ p within is. above_weaker ups (λ j. flag_in s.restyled j || flag_in s.boxes j)
    (λ j. is_restyled ups s.styles j || flag_in s.boxes j) p
    (λ j inside. subst (λ b. (b || flag_in s.boxes j) ≡ true → (is_restyled ups s.styles j || flag_in s.boxes j) ≡ true)
    (sym (marked_as s.last s.scene s.styles s.restyled s.old_styles (ready s g) j (omega (arith, inside, many))))
    (λ e. e))
    (g.anew.only p is)) in
    let all = places_many s.marks n g.anew.each in
    let last = ap (tally (is_remeasured ups s.styles s.boxes)) (long s.scene.boxes) in
    omega (arith, less, all, last)

pub few : (s : Step) → IsStep s → (styled_before styled laid_before laid : ℕ)
    → styled ≡ styled_before
    + worked (needs (places_of s.restyled) (kept_of s.old_styles s.scene.styles)) (length s.scene.styles)
    → laid ≤ laid_before
    + laid_bound (length (places_of s.marks)) (resized s.old_layout s.scene.boxes s.new_layout)
    → AreFew s.last s.scene s.old_layout s.new_layout styled_before styled laid_before laid
few s g styled_before styled laid_before laid one two = record {
  styles = s.styles;
  boxes = s.boxes;
  touched = g.touched;
  few_styled = (
      let most = few_worked s.scene.styles (places_of s.restyled) s.old_styles
      (are_kept s.last s.scene s.styles s.restyled s.old_styles (ready s g)) in
      omega (arith, one, most, few_styled s g));
  few_laid = omega (arith, two, few_measured s g);
}
