use Rattle.std.proofs.Common.{List, ℕ, ◌≡◌, ◌^◌, ◌<◌, drop, map, max}
use Rattle.fx_panes_parts.specs.Axes.{along}
use Rattle.fx_panes_parts.specs.Parts.{greatest_of}
use Rattle.fx_boxes.specs.Rows.{parts_of}
use Rattle.fx_layout_sweeps.specs.Nodes.{seen}
use Rattle.fx_layout_sweeps.proofs.rows.most_at.Given as goal

abbrev pub invariant-loop-place : goal.invariant-loop-place
invariant-loop-place l =
    let row = λ (places : List ℕ). parts_of (along l.scene.axis
    (seen l.rule l.scene.nodes.now l.scene.widths.now l.scene.heights.now places)) in
    record {
      bound_min : l.min < 2 ^ 32;
      bound_pref : l.pref < 2 ^ 32;
      min : max l.min (greatest_of (map (λ part. part.min) (row (drop l.place-index l.places))))
          ≡ greatest_of (map (λ part. part.min) (row l.places));
      pref : max l.pref (greatest_of (map (λ part. part.pref) (row (drop l.place-index l.places))))
          ≡ greatest_of (map (λ part. part.pref) (row l.places));
    }
