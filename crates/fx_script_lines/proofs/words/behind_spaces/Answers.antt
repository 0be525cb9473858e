-- no space is left in front
use Rattle.std.proofs.Common.{None, sym, ◌∙◌, lit<}
use Rattle.std.proofs.lemmas.Str.Pattern.{strip_prefix_char}
use Rattle.fx_script_lines.proofs.TakingLemmas.{no_space}
use Rattle.fx_script_lines.proofs.words.behind_spaces.Goals as goal

pub returns : goal.returns
returns c =
    sym (no_space c.loop-others.rest.now (strip_prefix_char 32 c.loop-others.rest.now None c.in_default.ensures.cases (lit< tt)))
    ∙ c.loop-others.invariant.spaces
