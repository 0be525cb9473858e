use Rattle.fx_canvas_laws.proofs.Lying.{lying}
use Rattle.fx_canvas_laws.proofs.laws.damage_lies_in_the_window.Goals as goal

pub returns : goal.returns
returns c = λ olds nows w h. lying olds nows w h
