-- What is lent to a frame, and what is made of it on the way.
use Rattle.std.specs.Prelude.{◌≡◌, ℕ, suc, ◌<◌, List, count_by, filter, length, slice_index, take}
use Rattle.std.specs.List.{range_with_len}
use Rattle.std.specs.Cmp.Lexicographic.{slice_cmp}
use Rattle.std.specs.Ordering.{nat_cmp}
use Rattle.std.specs.declared.cmp.Ordering.TheVariants.{Less}
use Rattle.fx_layout_sweeps.specs.Nodes.{Parents, is_place}
use Rattle.fx_pulse_model.specs.Lines.{path_of}
use Rattle.fx_pulse_model.specs.Pictures.{Drawn, shows}
use Rattle.fx_pulse.specs.declared.entries.Laid.{Laid}

-- the nodes with looks and rectangles that are lent
abbrev pub drawn : Laid → Drawn
drawn l = record { boxes = l.boxes.now; looks = l.looks.now; rects = l.rects.now; disabled = l.disabled.now }

-- so many of the first nodes have each place as their parent's
pub record AreCounts (ups : Parents) (counts : List ℕ) (n : ℕ) : Type 0 where
  pub each : length counts ≡ length ups
  pub counted : (p : ℕ) → p < length ups → slice_index counts p ≡ count_by (is_place p) (take n ups)

-- those of the first nodes that show
abbrev pub shown_below : Drawn → ℕ → List ℕ
shown_below d n = filter (shows d) (range_with_len 0 n)

-- the first nodes rise by their paths, one after another
abbrev pub RiseUpTo : Parents → ℕ → Type 0
RiseUpTo ups n = (k : ℕ) → suc k < n → slice_cmp nat_cmp (path_of ups k) (path_of ups (suc k)) ≡ Less
