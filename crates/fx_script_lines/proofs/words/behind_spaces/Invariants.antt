-- what is left is text, and has the same behind its spaces
use Rattle.std.proofs.Common.{◌≡◌, length}
use Rattle.std.specs.Str.{IsUtf8}
use Rattle.fx_text.specs.Fronts.{behind}
use Rattle.fx_text.specs.Classes.{is_space}
use Rattle.fx_script_lines.proofs.words.behind_spaces.Given as goal

abbrev pub invariant-loop-others : goal.invariant-loop-others
invariant-loop-others l = record {
  spaces : behind is_space l.rest ≡ behind is_space l.text;
  utf8 : IsUtf8 l.rest;
}

abbrev pub decreases-loop-others : goal.decreases-loop-others
decreases-loop-others l = length l.rest
