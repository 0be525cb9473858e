use Rattle.std.proofs.Common.{◌≡◌, ◌+◌, ◌%◌, ◌∙◌, append_assoc, ap, sym, OnOk, Ok, Err}
use Rattle.fx_gen.specs.Demo.{box_count, turn}
use Rattle.fx_gen.specs.Draws.{digit, drawn, state, step}
use Rattle.fx_gen.proofs.LineLemmas.{state-more}
use Rattle.fx_gen.proofs.texts.put_turn.Goals as goal

next : (c : goal.After-writeln) → c.draw.new.self.state ≡ state c.args.number (c.args.number + c.args.j + 1)
next c = c.draw.ensures.state ∙ ap step c.requires.state ∙ sym (state-more c.args.number (c.args.number + c.args.j))

pub returns-clause-text : goal.returns-clause-text
unfolding turn
returns-clause-text c =
    let whole = rw (c.in_ok-put_class_line.ensures, c.in_ok-put_set_line.ensures) at c.writeln.ensures.bytes in
    let set : c.draw.result ≡ drawn c.args.number (c.args.number + c.args.j) = c.draw.ensures.digit ∙ ap digit (next c) in
    let group : c.args.j % c.div_ceil.result ≡ c.args.j % box_count c.args.number = ap (λ n. c.args.j % n) c.div_ceil.ensures in
    rw (← set, ← group) (simp append_assoc (simp append_assoc at whole))

pub returns-clause-state : goal.returns-clause-state
returns-clause-state c = elim c.writeln.result as (λ r. OnOk r (c.draw.new.self.state ≡ state c.args.number (c.args.number + c.args.j + 1))) [ Ok u ↦ next c | Err e ↦ tt ]
