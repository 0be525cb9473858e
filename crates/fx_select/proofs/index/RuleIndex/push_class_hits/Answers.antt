use Rattle.std.proofs.Common.{get_or, ◌∙◌, ap}
use Rattle.fx_select.specs.Chains.{chain}
use Rattle.fx_select.specs.Hits.{hit_of}
use Rattle.fx_select.specs.Keys.{ByClass}
use Rattle.fx_select.specs.Listing.{Listing, listed}
use Rattle.fx_select.specs.Named.{under}
use Rattle.fx_select.proofs.HitLemmas.{class-more}
use Rattle.fx_select.proofs.index.RuleIndex.push_class_hits.Goals as goal

pub loop-class-preserved : goal.loop-class-preserved
loop-class-preserved c = record {
  found = class-more (hit_of c.args.sheets.now (chain c.args.facts.now c.args.at)) (listed c.args.self.now) c.args.classes.now c.loop-class.class-index
      c.class-item.result c.args.hits.now.items c.loop-class.hits.items c.push_hits.new.hits.items c.under-by_class.result.now c.loop-class-test.true
      c.in_ok-push_hits.ensures.hits
      (c.under-by_class.ensures
      ∙ ap (under c.self.inside.classes) (c.as_str.ensures.text ∙ c.class-item.is)
      ∙ ap (λ (l : Listing). listed l (ByClass (get_or c.args.classes.now c.loop-class.class-index c.class-item.result))) c.self.view_is)
      c.loop-class.invariant.found;
  seen = c.push_hits.ensures.last;
}
