use Rattle.std.proofs.Common.{◌≡◌, ◌+◌, ◌-◌, ◌*◌, ◌∙◌, append_assoc, ap, arith, sym}
use Rattle.std.proofs.lemmas.List.{append-nil}
use Rattle.fx_gen.specs.Draws.{digit, drawn, state, step}
use Rattle.fx_gen.proofs.LineLemmas.{labels-more, labels-zero, state-more}
use Rattle.fx_gen.proofs.texts.put_box.Goals as goal

pub loop-index-init : goal.loop-index-init
loop-index-init c =
    let none : 10 * c.args.group - 10 * c.args.group ≡ 0 = omega arith in
    record { text = rw (none, labels-zero c.args.number c.args.group) (sym (append-nil _)); state = c.requires.state }

pub loop-index-preserved : goal.loop-index-preserved
loop-index-preserved c =
    let next : c.draw.new.self.state ≡ state c.args.number (c.loop-index.index + 1) =
    c.draw.ensures.state ∙ ap step c.loop-index.invariant.state ∙ sym (state-more c.args.number c.loop-index.index) in
    let drawn : c.draw.result ≡ drawn c.args.number c.loop-index.index = c.draw.ensures.digit ∙ ap digit next in
    let more : c.loop-index.index + 1 - 10 * c.args.group ≡ (c.loop-index.index - 10 * c.args.group) + 1 = omega arith in
    let at : 10 * c.args.group + (c.loop-index.index - 10 * c.args.group) ≡ c.loop-index.index = omega arith in
    record {
      text = rw (more, labels-more c.args.number c.args.group (c.loop-index.index - 10 * c.args.group) c.loop-index.index at, c.in_ok-put_label.ensures, c.loop-index.invariant.text, drawn) (simp append_assoc);
      state = next;
    }
