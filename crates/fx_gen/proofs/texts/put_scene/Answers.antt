use Rattle.std.proofs.Common.{◌≡◌, ◌∙◌, append_assoc, ap, arith, min, sym}
use Rattle.std.proofs.lemmas.List.{append-nil}
use Rattle.fx_gen.specs.Demo.{box_count, boxes}
use Rattle.fx_gen.specs.Draws.{state}
use Rattle.fx_gen.proofs.LineLemmas.{boxes-more, boxes-zero, state-zero, text_of-append}
use Rattle.fx_gen.proofs.texts.put_scene.Goals as goal

pub loop-group-init : goal.loop-group-init
loop-group-init c =
    let none : min c.args.number 0 ≡ 0 = omega arith in
    record { text = rw (boxes-zero c.args.number) (sym (append-nil _)); state = rw (none, state-zero) c.requires.first }

pub loop-group-preserved : goal.loop-group-preserved
loop-group-preserved c =
    record {
      text = rw (boxes-more c.args.number c.loop-group.group, c.in_ok-put_box.ensures.text, c.loop-group.invariant.text) (simp append_assoc);
      state = c.in_ok-put_box.ensures.state ∙ ap (state c.args.number) (omega arith);
    }

pub returns-clause-text : goal.returns-clause-text
returns-clause-text c =
    let count : c.loop-group.group ≡ box_count c.args.number = omega arith in
    let whole = rw (c.loop-group.invariant.text, c.in_ok-push_str.ensures.bytes) at c.writeln.ensures.bytes in
    rw (text_of-append (boxes c.args.number (box_count c.args.number)), ← count) (simp append_assoc (simp append_assoc at whole))
