-- the parts so far are counted
use Rattle.std.proofs.Common.{◌≡◌, ◌≤◌, take}
use Rattle.fx_css_limits.specs.Parts.{parts_of}
use Rattle.fx_css_limits.proofs.sheets.is_short.Given as goal

abbrev pub invariant-loop-compound : goal.invariant-loop-compound
invariant-loop-compound l = record {
  counted : l.parts ≡ parts_of (take l.compound-index l.compounds);
  few : l.parts ≤ 4194304;
}
