-- a sign or nothing is next, and the names behind those that are read are all that are written
use Rattle.std.proofs.Common.{◌≡◌, true, length}
use Rattle.fx_css_parts.specs.Selecting.{not_sign, parts_at}
use Rattle.fx_css_parts.specs.Drafts.{names_of}
use Rattle.fx_text.specs.Fronts.{stops}
use Rattle.fx_css_parts.proofs.compounds.read_names.Given as goal

abbrev pub invariant-loop-sign : goal.invariant-loop-sign
invariant-loop-sign l = record {
  next : stops not_sign l.rest ≡ true;
  names : names_of l.compound (parts_at l.rest) ≡ names_of l.fn.compound (parts_at l.text);
}

abbrev pub decreases-loop-sign : goal.decreases-loop-sign
decreases-loop-sign l = length l.rest
