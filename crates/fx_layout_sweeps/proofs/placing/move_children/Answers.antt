use Rattle.std.proofs.Common.{refl, ◌∙◌, length, arith}
use Rattle.fx_layout_sweeps.proofs.Respreads.{moved_more, not_worked}
use Rattle.fx_layout_sweeps.proofs.Spreads.{put_all, put_more, put_start}
use Rattle.fx_layout_sweeps.proofs.placing.move_children.Goals as goal

pub loop-k-init : goal.loop-k-init
loop-k-init c = (
  put_start c.args.places.now c.args.found.now c.args.spans.now.items,
  refl,
  λ q few. not_worked c.args.marks.now c.args.spans.now.items q,
)

pub loop-k-preserved : goal.loop-k-preserved
loop-k-preserved c =
    let places = c.args.places.now in
    let found = c.args.found.now in
    let old = c.args.spans.now.items in
    let now = c.loop-k.spans.items in
    let k = c.loop-k.k in
    let span = c.span_at.result in
    rw (c.move_child.ensures.spans) (
      put_more places found old now k _ span c.requires.within c.requires.apart c.loop-k-test.true c.loop-k.invariant.0
          c.span_at.ensures,
      c.move_child.ensures.each_mark ∙ c.loop-k.invariant.1,
      moved_more places found old now c.args.marks.now c.loop-k.marks c.move_child.new.marks k _
          (length c.args.marks.now) span c.requires.apart c.loop-k-test.true c.loop-k.invariant.0 c.loop-k.invariant.2
          (λ q few. rw (c.move_child.ensures.spans) at (c.move_child.ensures.marks q (omega (arith, few, c.loop-k.invariant.1)))),
    )

pub returns-clause-put : goal.returns-clause-put
returns-clause-put c =
    put_all c.args.places.now c.args.found.now c.args.spans.now.items c.loop-k.spans.items c.loop-k.k
    c.loop-k-test.false c.loop-k.invariant.0
