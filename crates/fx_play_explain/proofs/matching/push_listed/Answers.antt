use Rattle.std.proofs.Common.{◌++◌, ℕ, List, Option, ◌∙◌, sym, ap}
use Rattle.std.proofs.lemmas.List.{append-nil}
use Rattle.fx_select.specs.Chains.{chain, upward}
use Rattle.fx_select.proofs.ChainLemmas.{parent-there, upward-none}
use Rattle.fx_plain_explain.specs.Explaining.{listed_by}
use Rattle.fx_play_explain.proofs.SeenLemmas.{passed-more}
use Rattle.fx_play_explain.proofs.matching.push_listed.Goals as goal

pub loop-above-preserved : goal.loop-above-preserved
loop-above-preserved c =
    let nodes = c.args.nodes.now in
    let node = c.node_at-node.result.now in
    record {
      there = parent-there nodes c.requires.before c.in-Some.place node c.node_at-node.ensures;
      passed =
          passed-more nodes c.requires.before c.loop-above.above c.in-Some.place node c.in-Some.is c.node_at-node.ensures
          c.loop-above.seen.items c.extend_from_slice.new.self.items (c.args.seen.now.items ++ listed_by (chain nodes c.args.at))
          (c.in_ok-extend_from_slice.ensures.items ∙ ap (λ (s : List ℕ). c.loop-above.seen.items ++ s) c.as_slice.ensures)
          c.loop-above.invariant.passed;
    }

pub returns : goal.returns
returns c =
    let nodes = c.args.nodes.now in
    let seen = c.loop-above.seen.items in
    sym (append-nil seen)
    ∙ ap (λ (l : List ℕ). seen ++ l) (sym (ap listed_by (upward-none nodes)))
    ∙ ap (λ (p : Option ℕ). seen ++ listed_by (upward nodes p)) (sym c.in_default.is)
    ∙ c.loop-above.invariant.passed
