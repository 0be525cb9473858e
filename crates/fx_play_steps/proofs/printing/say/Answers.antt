-- a line that says nothing
use Rattle.std.proofs.Common.{Bor, List, ℕ, Ok, Option, subst, sym}
use Rattle.std.specs.Option.{option_map}
use Rattle.fx_plain_steps.specs.Lines.{said_by}
use Rattle.fx_play_steps.specs.Taken.{IsMade}
use Rattle.fx_play_steps.specs.Traces.{course_of}
use Rattle.fx_play_steps.proofs.StepLemmas.{says_nothing}
use Rattle.fx_play_steps.proofs.printing.say.Goals as goal

pub returns-in-None : goal.returns-in-None
returns-in-None c = λ world.
    subst (λ (text : Option (Bor (List ℕ))). IsMade (said_by (option_map (λ (t : Bor (List ℕ)). t.now) text) world)
    (course_of world c.args.trace.now) (course_of world c.args.trace.now) (Ok tt))
    (sym c.in-None.is) (says_nothing world c.args.trace.now)
