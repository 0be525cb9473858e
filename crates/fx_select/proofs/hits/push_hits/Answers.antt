use Rattle.std.proofs.Common.{◌≡◌, Option, ap, subst}
use Rattle.std.specs.Prelude.{unwrap_or}
use Rattle.fx_select.specs.Chains.{chain}
use Rattle.fx_select.specs.Hits.{hit_of, is_visible}
use Rattle.fx_select.specs.declared.hits.Seen.{Seen}
use Rattle.fx_select.proofs.HitLemmas.{filter_map-more}
use Rattle.fx_select.proofs.hits.push_hits.Goals as goal

pub loop-selector-preserved : goal.loop-selector-preserved
loop-selector-preserved c = record {
  found = filter_map-more (hit_of c.args.sheets.now (chain c.args.facts.now c.args.at)) c.args.listed.now c.loop-selector.selector-index _
      c.args.hits.now.items c.loop-selector.hits.items c.push_hit.new.hits.items c.hit_of.result c.loop-selector-test.true
      c.in_ok-push_hit.ensures c.hit_of.ensures c.loop-selector.invariant.found;
  seen = λ s is. subst (λ (x : Seen). x.visible ≡ is_visible (chain c.args.facts.now c.args.at) x.sheet)
      (ap (λ (o : Option Seen). unwrap_or o s) is) c.is_seen-visible.ensures;
}
