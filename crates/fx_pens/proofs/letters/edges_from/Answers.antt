use Rattle.std.proofs.Common.{◌≡◌, ◌+ℤ◌, ◌*◌, ◌∙◌, ℤ, pos, ap, rules, FitsSigned, w64, to_z, of_z}
use Rattle.std.specs.Int.{w128}
use Rattle.std.proofs.lemmas.Int.{to_z-of_z}
use Rattle.fx_pens.proofs.EdgeLemmas.{clamped, edges_near, near_rise}
use Rattle.fx_pens.proofs.letters.edges_from.Goals as goal

pub returns-clause-rises : goal.returns-clause-rises
returns-clause-rises c =
    let pen = c.args.pen.now in
    let start = c.args.start in
    let e0 : ℤ = to_z w128 (of_z w128 start) in
    let e1 : ℤ = to_z w128 (of_z w128 c.behind.result) in
    let e2 : ℤ = to_z w128 (of_z w128 c.behind-2.result) in
    let e3 : ℤ = to_z w128 (of_z w128 c.behind-3.result) in
    let f1 : FitsSigned w128 c.behind.result = search rules in
    let f2 : FitsSigned w128 c.behind-2.result = search rules in
    let f3 : FitsSigned w128 c.behind-3.result = search rules in
    let p0 : e0 ≡ start = to_z-of_z w128 start c.ranges.start in
    let p1 : e1 ≡ start +ℤ pos (1 * pen.scale) =
    to_z-of_z w128 c.behind.result f1
    ∙ (c.behind.ensures.value ∙ ap (λ z. z +ℤ pos (1 * pen.scale)) p0) in
    let p2 : e2 ≡ start +ℤ pos (2 * pen.scale) =
    to_z-of_z w128 c.behind-2.result f2
    ∙ (c.behind-2.ensures.value ∙ ap (λ z. z +ℤ pos (2 * pen.scale)) p0) in
    let p3 : e3 ≡ start +ℤ pos (3 * pen.scale) =
    to_z-of_z w128 c.behind-3.result f3
    ∙ (c.behind-3.ensures.value ∙ ap (λ z. z +ℤ pos (3 * pen.scale)) p0) in
    let g0 : FitsSigned w64 c.clamped-first.result = search rules in
    let q0 : to_z w64 (of_z w64 c.clamped-first.result) ≡ clamped e0 =
    to_z-of_z w64 c.clamped-first.result g0 ∙ c.clamped-first.ensures in
    let g1 : FitsSigned w64 c.clamped-second.result = search rules in
    let q1 : to_z w64 (of_z w64 c.clamped-second.result) ≡ clamped e1 =
    to_z-of_z w64 c.clamped-second.result g1 ∙ c.clamped-second.ensures in
    let g2 : FitsSigned w64 c.clamped-third.result = search rules in
    let q2 : to_z w64 (of_z w64 c.clamped-third.result) ≡ clamped e2 =
    to_z-of_z w64 c.clamped-third.result g2 ∙ c.clamped-third.ensures in
    let g3 : FitsSigned w64 c.clamped-end.result = search rules in
    let q3 : to_z w64 (of_z w64 c.clamped-end.result) ≡ clamped e3 =
    to_z-of_z w64 c.clamped-end.result g3 ∙ c.clamped-end.ensures in
    near_rise pen.scale start e0 e1 e2 e3 _ p0 p1 p2 p3 q0 q1 q2 q3

pub returns-clause-edges : goal.returns-clause-edges
returns-clause-edges c =
    let pen = c.args.pen.now in
    let start = c.args.start in
    let e0 : ℤ = to_z w128 (of_z w128 start) in
    let e1 : ℤ = to_z w128 (of_z w128 c.behind.result) in
    let e2 : ℤ = to_z w128 (of_z w128 c.behind-2.result) in
    let e3 : ℤ = to_z w128 (of_z w128 c.behind-3.result) in
    let f1 : FitsSigned w128 c.behind.result = search rules in
    let f2 : FitsSigned w128 c.behind-2.result = search rules in
    let f3 : FitsSigned w128 c.behind-3.result = search rules in
    let p0 : e0 ≡ start = to_z-of_z w128 start c.ranges.start in
    let p1 : e1 ≡ start +ℤ pos (1 * pen.scale) =
    to_z-of_z w128 c.behind.result f1
    ∙ (c.behind.ensures.value ∙ ap (λ z. z +ℤ pos (1 * pen.scale)) p0) in
    let p2 : e2 ≡ start +ℤ pos (2 * pen.scale) =
    to_z-of_z w128 c.behind-2.result f2
    ∙ (c.behind-2.ensures.value ∙ ap (λ z. z +ℤ pos (2 * pen.scale)) p0) in
    let p3 : e3 ≡ start +ℤ pos (3 * pen.scale) =
    to_z-of_z w128 c.behind-3.result f3
    ∙ (c.behind-3.ensures.value ∙ ap (λ z. z +ℤ pos (3 * pen.scale)) p0) in
    let g0 : FitsSigned w64 c.clamped-first.result = search rules in
    let q0 : to_z w64 (of_z w64 c.clamped-first.result) ≡ clamped e0 =
    to_z-of_z w64 c.clamped-first.result g0 ∙ c.clamped-first.ensures in
    let g1 : FitsSigned w64 c.clamped-second.result = search rules in
    let q1 : to_z w64 (of_z w64 c.clamped-second.result) ≡ clamped e1 =
    to_z-of_z w64 c.clamped-second.result g1 ∙ c.clamped-second.ensures in
    let g2 : FitsSigned w64 c.clamped-third.result = search rules in
    let q2 : to_z w64 (of_z w64 c.clamped-third.result) ≡ clamped e2 =
    to_z-of_z w64 c.clamped-third.result g2 ∙ c.clamped-third.ensures in
    let g3 : FitsSigned w64 c.clamped-end.result = search rules in
    let q3 : to_z w64 (of_z w64 c.clamped-end.result) ≡ clamped e3 =
    to_z-of_z w64 c.clamped-end.result g3 ∙ c.clamped-end.ensures in
    edges_near pen start e0 e1 e2 e3 _ c.requires.near p0 p1 p2 p3 q0 q1 q2 q3
