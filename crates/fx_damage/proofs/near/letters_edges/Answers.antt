-- all numbers were tested
use Rattle.std.proofs.Common.{◌≡◌, ◌∙◌, ℤ, true, ap, sym, to_z, of_z, w64}
use Rattle.std.proofs.lemmas.Int.{to_z-of_z}
use Rattle.fx_base.specs.declared.geometry.Rect.{Rect}
use Rattle.fx_picture.specs.Bounds.{meet}
use Rattle.fx_damage.specs.Near.{are_near, wide}
use Rattle.fx_damage.proofs.NearLemmas.{AreNear, all_tell}
use Rattle.fx_damage.proofs.near.letters_edges.Goals as goal

-- as they are handed on
abbrev handed : ℤ → ℤ
handed n = to_z w64 (of_z w64 n)

tested : (x y scale : ℤ) (clip : Rect) → are_near (handed x) (handed y) (handed scale) clip ≡ true → AreNear (handed x) (handed y) (handed scale) clip
tested x y scale clip h = all_tell (handed x) (handed y) (handed scale) clip h

pub cells_edges-requires-clause-x : goal.cells_edges-requires-clause-x
cells_edges-requires-clause-x c = (tested c.args.x c.args.y c.args.scale c.args.clip (sym c.are_near.ensures ∙ c.if-not-are_near.false)).left

pub cells_edges-requires-clause-y : goal.cells_edges-requires-clause-y
cells_edges-requires-clause-y c = (tested c.args.x c.args.y c.args.scale c.args.clip (sym c.are_near.ensures ∙ c.if-not-are_near.false)).top

pub cells_edges-requires-clause-scale : goal.cells_edges-requires-clause-scale
cells_edges-requires-clause-scale c = (tested c.args.x c.args.y c.args.scale c.args.clip (sym c.are_near.ensures ∙ c.if-not-are_near.false)).size

pub rect_edges-requires : goal.rect_edges-requires
rect_edges-requires c = (tested c.args.x c.args.y c.args.scale c.args.clip (sym c.are_near.ensures ∙ c.if-not-are_near.false)).cut

pub returns : goal.returns
returns c =
    let cells = rw (to_z-of_z w64 c.args.x c.ranges.x, to_z-of_z w64 c.args.y c.ranges.y, to_z-of_z w64 c.args.scale c.ranges.scale) at c.cells_edges.ensures in
    c.common.ensures ∙ (ap (λ b. meet b (wide c.rect_edges.result)) cells ∙ ap (meet _) c.rect_edges.ensures)
