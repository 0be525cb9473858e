-- one letter more is laid
use Rattle.std.proofs.Common.{◌≡◌, ◌++◌, ◌∷◌, [], ◌≤ℤ◌, ◌∙◌, ℤ, ℕ, pos, List, ap, subst, sym, arith, rules, take, length, w64, FitsSigned, to_z, of_z}
use Rattle.std.specs.Str.{chars}
use Rattle.std.proofs.lemmas.Int.{ints, to_z-of_z}
use Rattle.std.proofs.lemmas.Iterator.{YieldsList-from_chars}
use Rattle.std.proofs.lemmas.Iterator.Consumers.{YieldsList-turn, YieldsList-end}
use Rattle.std.proofs.lemmas.List.{length_push, take_all, take_more}
use Rattle.fx_canvas.specs.Painting.{AreDotted}
use Rattle.fx_canvas.proofs.DottedLemmas.{letters_more, letters_none, letters_stop, line_rows, rows-same}
use Rattle.fx_pens.proofs.LetterLemmas.{le_from}
use Rattle.fx_pens.proofs.PlaceLemmas.{place_more}
use Rattle.fx_pens.specs.Lines.{end_of}
use Rattle.fx_canvas.proofs.opaque.lay_letters.Goals as goal

pub loop-c-init : goal.loop-c-init
loop-c-init g c = (
  omega (arith, ints),
  letters_none c.args.pen.now c.args.block.top c.args.block.bottom (to_z w64 (of_z w64 c.args.first)) c.args.rows.now c.args.painted.now
      c.requires.rows.rises c.requires.rows.falls,
)

pub returns-then-start-pen : goal.returns-then-start-pen
returns-then-start-pen g c =
    let pen = c.args.pen.now in
    let top = c.args.block.top in
    let bottom = c.args.block.bottom in
    let cs = chars c.args.text.now in
    let n = length c.loop-c.yielded in
    let first : ℤ = to_z w64 (of_z w64 c.args.first) in
    let now : ℤ = to_z w64 c.loop-c.start-bits in
    let same : first ≡ c.args.first = to_z-of_z w64 c.args.first c.ranges.first in
    let near = c.requires.rows.near in
    let right : to_z w64 pen.right ≡ pos pen.right = omega (arith, ints, near) in
    let past : to_z w64 pen.right ≤ℤ now = le_from (to_z w64 pen.right) now c.if-start-pen.true in
    let at : now ≡ end_of first (take n cs) pen.scale = c.loop-c.invariant.0 in
    let stop : pos pen.right ≤ℤ end_of first (take n cs) pen.scale = omega (arith, ints, right, past, at) in
    subst (λ z. AreDotted pen top bottom bottom (line_rows pen top z cs) c.args.rows.now c.loop-c.rows c.args.painted.now c.loop-c.painted) same
    (letters_stop pen top bottom first n cs c.args.rows.now c.loop-c.rows c.args.painted.now c.loop-c.painted
    c.requires.rows.rises c.requires.rows.falls stop c.loop-c.invariant.1)

pub lay_character-requires-clause-rows : goal.lay_character-requires-clause-rows
lay_character-requires-clause-rows g c =
    rows-same c.args.pen.now c.args.block.top c.args.block.bottom c.args.rows.now c.loop-c.rows c.loop-c.invariant.1.sizes c.requires.rows

pub loop-c-preserved : goal.loop-c-preserved
loop-c-preserved g c =
    let t = YieldsList-turn (YieldsList-from_chars c.args.text.now c.utf8.text cc) c.loop-c.yielded _ c.loop-c.yielded_by _ _ c.in-Some.c c.in-Some.is c.next.ensures.steps in
    let pen = c.args.pen.now in
    let top = c.args.block.top in
    let bottom = c.args.block.bottom in
    let cs = chars c.args.text.now in
    let n = length c.loop-c.yielded in
    let ch = c.in-Some.c in
    let first : ℤ = to_z w64 (of_z w64 c.args.first) in
    let now : ℤ = to_z w64 c.loop-c.start-bits in
    let new : take n cs ++ ch ∷ [] ≡ take (length (c.loop-c.yielded ++ ch ∷ [])) cs =
    sym (ap (λ k. take k cs) (length_push c.loop-c.yielded ch) ∙ (take_more cs n ch t.0 ∙ ap (λ y. take n cs ++ y ∷ []) (sym t.1))) in
    let at : now ≡ end_of first (take n cs) pen.scale = c.loop-c.invariant.0 in
    let fits : FitsSigned w64 c.behind-start.result = search rules in
    let next = to_z-of_z w64 c.behind-start.result fits ∙ c.behind-start.ensures in (
      subst (λ (l : List ℕ). to_z w64 (of_z w64 c.behind-start.result) ≡ end_of first l pen.scale) new
          (place_more pen first now (to_z w64 (of_z w64 c.behind-start.result)) (take n cs) ch at next),
      subst (λ (l : List ℕ). AreDotted pen top bottom bottom (line_rows pen top first l) c.args.rows.now c.lay_character.new.rows c.args.painted.now c.lay_character.new.painted) new
          (letters_more pen top bottom first now (take n cs) ch c.args.rows.now c.loop-c.rows c.lay_character.new.rows
          c.args.painted.now c.loop-c.painted c.lay_character.new.painted c.requires.rows.rises c.requires.rows.falls at c.loop-c.invariant.1 c.lay_character.ensures),
    )

pub returns : goal.returns
returns g c =
    let t = YieldsList-end (YieldsList-from_chars c.args.text.now c.utf8.text cc) c.loop-c.yielded _ c.loop-c.yielded_by _ _ c.in-None.is c.next.ensures.steps in
    let pen = c.args.pen.now in
    let top = c.args.block.top in
    let bottom = c.args.block.bottom in
    let cs = chars c.args.text.now in
    let n = length c.loop-c.yielded in
    let first : ℤ = to_z w64 (of_z w64 c.args.first) in
    let same : first ≡ c.args.first = to_z-of_z w64 c.args.first c.ranges.first in
    let all : take n cs ≡ cs = take_all n cs (omega (arith, t.1)) in
    subst (λ z. AreDotted pen top bottom bottom (line_rows pen top z cs) c.args.rows.now c.loop-c.rows c.args.painted.now c.loop-c.painted) same
    (subst (λ (l : List ℕ). AreDotted pen top bottom bottom (line_rows pen top first l) c.args.rows.now c.loop-c.rows c.args.painted.now c.loop-c.painted) all c.loop-c.invariant.1)
