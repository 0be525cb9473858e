use Rattle.std.proofs.Common.{◌≡◌, ◌+ℤ◌, ◌*◌, ◌++◌, ◌∷◌, [], ◌≤ℤ◌, ◌∙◌, ℤ, ℕ, pos, List, ap, subst, sym, arith, rules, take, length, w64, FitsSigned, to_z, of_z}
use Rattle.std.specs.Str.{chars}
use Rattle.std.proofs.lemmas.Int.{ints, to_z-of_z}
use Rattle.std.proofs.lemmas.Iterator.{YieldsList-from_chars}
use Rattle.std.proofs.lemmas.Iterator.Consumers.{YieldsList-turn, YieldsList-end}
use Rattle.std.proofs.lemmas.List.{length_push, take_all, take_more}
use Rattle.fx_cells.specs.Columns.{cell_width, cells_of}
use Rattle.fx_pens.specs.Dots.{IsLaid, line_dots}
use Rattle.fx_pens.proofs.DotLemmas.{laid-none}
use Rattle.fx_pens.proofs.LetterLemmas.{le_from, line_nil}
use Rattle.fx_pens.proofs.LineLemmas.{line_stop, line_turn, place_fine}
use Rattle.fx_pens.proofs.near.lay_fine.Goals as goal

pub loop-c-init : goal.loop-c-init
loop-c-init g c = (
  omega (arith, ints),
  laid-none c.args.pen.now (line_dots c.args.pen.now (to_z w64 (of_z w64 c.args.first)) []) c.args.row.now c.args.painted.now c.requires.pen.rises
      (λ x a b. line_nil c.args.pen.now (to_z w64 (of_z w64 c.args.first)) x),
)

pub returns-then-start-pen : goal.returns-then-start-pen
returns-then-start-pen g c =
    let pen = c.args.pen.now in
    let cs = chars c.args.text.now in
    let n = length c.loop-c.yielded in
    let first : ℤ = to_z w64 (of_z w64 c.args.first) in
    let now : ℤ = to_z w64 c.loop-c.start-bits in
    let same : first ≡ c.args.first = to_z-of_z w64 c.args.first c.ranges.first in
    let near = c.requires.pen.near in
    let right : to_z w64 pen.right ≡ pos pen.right = omega (arith, ints, near) in
    let past : to_z w64 pen.right ≤ℤ now = le_from (to_z w64 pen.right) now c.if-start-pen.true in
    let at : now ≡ first +ℤ pos (4 * cells_of (take n cs) * pen.scale) = c.loop-c.invariant.0 in
    let stop : pos pen.right ≤ℤ (first +ℤ pos (4 * cells_of (take n cs) * pen.scale)) = omega (arith, ints, right, past, at) in
    subst (λ z. IsLaid pen (line_dots pen z cs) c.args.row.now c.loop-c.row c.args.painted.now c.loop-c.painted) same
    (line_stop pen first n cs c.args.row.now c.loop-c.row c.args.painted.now c.loop-c.painted c.requires.pen.rises stop c.loop-c.invariant.1)

pub loop-c-preserved : goal.loop-c-preserved
loop-c-preserved g c =
    let t = YieldsList-turn (YieldsList-from_chars c.args.text.now c.utf8.text cc) c.loop-c.yielded _ c.loop-c.yielded_by _ _ c.in-Some.c c.in-Some.is c.next.ensures.steps in
    let pen = c.args.pen.now in
    let cs = chars c.args.text.now in
    let n = length c.loop-c.yielded in
    let ch = c.in-Some.c in
    let first : ℤ = to_z w64 (of_z w64 c.args.first) in
    let now : ℤ = to_z w64 c.loop-c.start-bits in
    let new : take n cs ++ ch ∷ [] ≡ take (length (c.loop-c.yielded ++ ch ∷ [])) cs =
    sym (ap (λ k. take k cs) (length_push c.loop-c.yielded ch) ∙ (take_more cs n ch t.0 ∙ ap (λ y. take n cs ++ y ∷ []) (sym t.1))) in
    let at : now ≡ first +ℤ pos (4 * cells_of (take n cs) * pen.scale) = c.loop-c.invariant.0 in
    let fits : FitsSigned w64 c.behind-start.result = search rules in
    let next : to_z w64 (of_z w64 c.behind-start.result) ≡ now +ℤ pos (4 * cell_width ch * 1) = to_z-of_z w64 c.behind-start.result fits ∙ c.behind-start.ensures in (
      subst (λ (l : List ℕ). to_z w64 (of_z w64 c.behind-start.result) ≡ first +ℤ pos (4 * cells_of l * pen.scale)) new
          (place_fine pen first now (to_z w64 (of_z w64 c.behind-start.result)) (take n cs) ch c.requires.scale at next),
      subst (λ (l : List ℕ). IsLaid pen (line_dots pen first l) c.args.row.now c.lay_fine_glyph.new.row c.args.painted.now c.lay_fine_glyph.new.painted) new
          (line_turn pen first now (take n cs) ch c.args.row.now c.loop-c.row c.lay_fine_glyph.new.row
          c.args.painted.now c.loop-c.painted c.lay_fine_glyph.new.painted c.requires.pen.rises at c.loop-c.invariant.1 c.lay_fine_glyph.ensures),
    )

pub returns : goal.returns
returns g c =
    let t = YieldsList-end (YieldsList-from_chars c.args.text.now c.utf8.text cc) c.loop-c.yielded _ c.loop-c.yielded_by _ _ c.in-None.is c.next.ensures.steps in
    let pen = c.args.pen.now in
    let cs = chars c.args.text.now in
    let n = length c.loop-c.yielded in
    let first : ℤ = to_z w64 (of_z w64 c.args.first) in
    let same : first ≡ c.args.first = to_z-of_z w64 c.args.first c.ranges.first in
    let all : take n cs ≡ cs = take_all n cs (omega (arith, t.1)) in
    subst (λ z. IsLaid pen (line_dots pen z cs) c.args.row.now c.loop-c.row c.args.painted.now c.loop-c.painted) same
    (subst (λ (l : List ℕ). IsLaid pen (line_dots pen first l) c.args.row.now c.loop-c.row c.args.painted.now c.loop-c.painted) all c.loop-c.invariant.1)
