use Rattle.std.proofs.Common.{◌≡◌, ◌+◌, ◌-◌, ◌∙◌, append_assoc, ap, arith, sym}
use Rattle.std.proofs.lemmas.List.{append-nil}
use Rattle.fx_gen.specs.Draws.{state, step}
use Rattle.fx_gen.proofs.LineLemmas.{state-more, turns-more, turns-zero}
use Rattle.fx_gen.proofs.texts.put_script.Goals as goal

pub loop-j-init : goal.loop-j-init
loop-j-init c =
    record {
      text = rw (turns-zero c.args.number) (sym (append-nil _));
      state = c.draw.ensures.state ∙ ap step c.requires.state ∙ sym (state-more c.args.number c.args.number);
    }

pub loop-j-preserved : goal.loop-j-preserved
loop-j-preserved c =
    let more : c.loop-j.j + 1 - 1 ≡ (c.loop-j.j - 1) + 1 = omega arith in
    let at : 1 + (c.loop-j.j - 1) ≡ c.loop-j.j = omega arith in
    record {
      text = rw (more, turns-more c.args.number (c.loop-j.j - 1) c.loop-j.j at, c.in_ok-put_turn.ensures.text, c.loop-j.invariant.text) (simp append_assoc);
      state = c.in_ok-put_turn.ensures.state ∙ ap (state c.args.number) (omega arith);
    }
