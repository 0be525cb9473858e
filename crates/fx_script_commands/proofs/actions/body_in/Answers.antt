-- the lines in front of the first `end`, or none
use Rattle.std.proofs.Common.{None, Some, List, Bor, ℕ, ap, ◌∙◌}
use Rattle.fx_script_commands.proofs.LineLemmas.{front_seen, seen}
use Rattle.fx_script_commands.proofs.actions.body_in.Goals as goal

pub returns-in-None-clause-found : goal.returns-in-None-clause-found
returns-in-None-clause-found c = front_seen c.args.texts.now None c.in-None.ensures.place

pub returns-in-Some-clause-found : goal.returns-in-Some-clause-found
returns-in-Some-clause-found c =
    ap (λ (ts : List (Bor (List ℕ))). Some (seen ts)) c.split_at.ensures.front
    ∙ front_seen c.args.texts.now (Some c.in-Some.end) c.in-Some.ensures.place
