-- What a pane sees of a child is a cell of a grid: its row, its column and its spans lie in their ranges.
use Rattle.std.proofs.Common.{ℕ, ℤ, pos, negsuc, ◌≤◌, All, List, [], ◌∷◌, Option, None, Some, length, map, arith}
use Rattle.std.proofs.lemmas.List.Elements.{All-cons, All-map, All-nil}
use Rattle.fx_base.specs.declared.facts.PaneFacts.{PaneFacts}
use Rattle.fx_base.specs.declared.values.Value.{Value}
use Rattle.fx_base.specs.declared.values.Value.TheVariants as value
use Rattle.fx_kinds.specs.declared.facts.BoxFacts.{BoxFacts}
use Rattle.fx_panes_parts.specs.declared.axes.Axis.TheVariants.{Across, Down}
use Rattle.fx_panes_parts.specs.declared.axes.Extent.{Extent}
use Rattle.fx_panes_parts.specs.Axes.{child_axis}
use Rattle.fx_grid.specs.Tracks.{IsCell}
use Rattle.fx_grid.specs.Grid.{IsGrid}
use Rattle.fx_layout_parts.specs.declared.rules.Rule.{Rule}
use Rattle.fx_layout_parts.specs.declared.rules.Rule.TheVariants as rule
use Rattle.fx_layout_parts.specs.Children.{child_of, kept_in, place_in}

kept_most : (least most : ℕ) (n : ℤ) → least ≤ most → kept_in least most n ≤ most
kept_most least most (pos n) h = grind arith
kept_most least most (negsuc n) h = h

place_most : (least most : ℕ) (v : Option Value) → least ≤ most → place_in least most v ≤ most
place_most least most None h = h
place_most least most (Some (value.Int n)) h = kept_most least most n h
place_most least most (Some (value.Bool b)) h = h
place_most least most (Some (value.Text t)) h = h
place_most least most (Some (value.Choice f n)) h = h
place_most least most (Some (value.Color c)) h = h
place_most least most (Some (value.Sides s)) h = h

across_cell : (pane : Rule) (node : BoxFacts) (a d : Extent) → IsCell Across (child_of pane node a d)
unfolding child_of child_axis
across_cell rule.Region node a d = record { index = omega arith; span = omega arith }
across_cell rule.Control node a d = record { index = omega arith; span = omega arith }
across_cell rule.Free node a d = record { index = omega arith; span = omega arith }
across_cell rule.HBox node a d = record { index = omega arith; span = omega arith }
across_cell rule.VBox node a d = record { index = omega arith; span = omega arith }
across_cell rule.Border node a d = record { index = omega arith; span = omega arith }
across_cell rule.Stack node a d = record { index = omega arith; span = omega arith }
across_cell rule.Anchor node a d = record { index = omega arith; span = omega arith }
across_cell rule.Grid node a d =
    record { index = place_most 0 255 _ (omega arith); span = place_most 1 64 _ (omega arith) }

down_cell : (pane : Rule) (node : BoxFacts) (a d : Extent) → IsCell Down (child_of pane node a d)
unfolding child_of child_axis
down_cell rule.Region node a d = record { index = omega arith; span = omega arith }
down_cell rule.Control node a d = record { index = omega arith; span = omega arith }
down_cell rule.Free node a d = record { index = omega arith; span = omega arith }
down_cell rule.HBox node a d = record { index = omega arith; span = omega arith }
down_cell rule.VBox node a d = record { index = omega arith; span = omega arith }
down_cell rule.Border node a d = record { index = omega arith; span = omega arith }
down_cell rule.Stack node a d = record { index = omega arith; span = omega arith }
down_cell rule.Anchor node a d = record { index = omega arith; span = omega arith }
down_cell rule.Grid node a d =
    record { index = place_most 0 255 _ (omega arith); span = place_most 1 64 _ (omega arith) }

pub all_are : {X : Type 0} (P : X → Type 0) → ((x : X) → P x) → (xs : List X) → All P xs
all_are P every [] = All-nil P
all_are P every (x ∷ xs) = All-cons P x xs (every x) (all_are P every xs)

-- a pane with few tracks and children that it sees so is a grid that can be laid out
pub cells_fit : (pane : Rule) (facts : PaneFacts) (child : ℕ → BoxFacts) (across down : ℕ → Extent) (places : List ℕ)
    → length facts.columns ≤ 256 → length facts.rows ≤ 256
    → IsGrid facts (map (λ j. child_of pane (child j) (across j) (down j)) places)
cells_fit pane facts child across down places columns rows =
    let made = λ (j : ℕ). child_of pane (child j) (across j) (down j) in
    record {
      columns = columns;
      rows = rows;
      across = All-map (IsCell Across) made places
          (all_are (λ j. IsCell Across (made j)) (λ j. across_cell pane (child j) (across j) (down j)) places);
      down = All-map (IsCell Down) made places
          (all_are (λ j. IsCell Down (made j)) (λ j. down_cell pane (child j) (across j) (down j)) places);
    }
