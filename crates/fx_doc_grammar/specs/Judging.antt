-- The verdict on a text, as a function: the machine, one character at a time, within the limits.
-- That it is the verdict of the grammar is a theorem (proofs/JudgingLemmas).
use Rattle.std.specs.Prelude.{ℕ, if◌then◌else◌, List, [], ◌∷◌, Option, Some, None}
use Rattle.fx_base.specs.Positions.{start, after}
use Rattle.fx_doc_grammar.specs.Grammar.{Reading}
use Rattle.fx_doc_grammar.specs.Machine.{State, Mode, Naming, initial, step, answer, is_deep, is_long, sign_position}
use Rattle.fx_doc_grammar.specs.Verdicts.{Verdict, Reads, Stops, Deep, Long}
use Rattle.fx_base.specs.declared.positions.Position.{Position}

-- the `<` of the element whose name is read
abbrev pub element_position : Position → Mode → Position
element_position p (Naming q name) = q
element_position p _ = p

-- after a step to a state: past a limit, or whatever comes next
abbrev pub judged : Position → State → State → Verdict → Verdict
judged p s t next =
    if is_long t then Long (sign_position p s.mode)
    else (if is_deep t then Deep (element_position p t.mode) else next)

abbrev pub stepped : Position → State → Option State → Verdict → Verdict
stepped p s None next = Stops p
stepped p s (Some t) next = judged p s t next

abbrev pub ended_verdict : Position → Option Reading → Verdict
ended_verdict p None = Stops p
ended_verdict p (Some reading) = Reads reading

-- what is left, from a position and a state on
unfoldable pub verdict_from : Position → Option State → List ℕ → Verdict
verdict_from p None cs = Stops p
verdict_from p (Some s) [] = ended_verdict p (answer s)
verdict_from p (Some s) (c ∷ cs) = stepped p s (step p s c) (verdict_from (after p c) (step p s c) cs)

abbrev pub verdict_of : List ℕ → Verdict
verdict_of text = verdict_from start (Some initial) text
