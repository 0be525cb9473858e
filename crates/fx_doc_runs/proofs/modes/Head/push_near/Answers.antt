use Rattle.std.proofs.Common.{List, ℕ, is_ok, refl, subst}
use Rattle.fx_doc_drafts.specs.Names.{HasNames}
use Rattle.fx_doc_runs.proofs.Names.{later_kept}
use Rattle.fx_doc_runs.proofs.Stacks.{head_push}
use Rattle.fx_doc_runs.proofs.modes.Head.push_near.Goals as goal

pub invariant_of-self : goal.invariant_of-self
invariant_of-self c = record {
  kept = subst (λ (ns : List (List ℕ)). HasNames c.args.self.now.later ns) (later_kept (is_ok c.push.result) c.args.self.now.attributes.items c.push.new.self.items c.args.attribute c.push.ensures.items c.requires) c.args.self.now.kept;
}

pub returns : goal.returns
returns c = head_push c.args.self.now.name c.args.self.now.attributes.items c.push.new.self.items c.args.attribute c.args.self.now.position _ c.in_ok-push.ensures.items refl
