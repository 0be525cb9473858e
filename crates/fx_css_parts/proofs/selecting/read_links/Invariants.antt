-- white, `>` or nothing is next, and the compounds behind those that are read are all that are written
use Rattle.std.proofs.Common.{◌≡◌, ◌++◌, true, length, false}
use Rattle.std.specs.Option.{option_map}
use Rattle.fx_css_parts.specs.Selecting.{not_gap, links_at, linked_at}
use Rattle.fx_text.specs.Fronts.{stops}
use Rattle.fx_css_parts.proofs.selecting.read_links.Given as goal

abbrev pub invariant-loop-rest : goal.invariant-loop-rest
invariant-loop-rest l = record {
  next : stops not_gap l.rest ≡ true;
  compounds : option_map (λ cs. l.compounds.items ++ cs) (linked_at (links_at false l.rest)) ≡ option_map (λ cs. l.fn.first.items ++ cs) (linked_at (links_at false l.text));
}

abbrev pub decreases-loop-rest : goal.decreases-loop-rest
decreases-loop-rest l = length l.rest
