use Rattle.std.proofs.Common.{sym, ◌∙◌, ap}
use Rattle.fx_select.specs.Merged.{merged_of, rise}
use Rattle.fx_select.proofs.RisingLemmas.{rising-merged, sorted-merged}
use Rattle.fx_select.proofs.strongest.merge_hits.Goals as goal

pub returns-then-rise : goal.returns-then-rise
returns-then-rise c =
    rising-merged c.args.hits.now.items
    (ap rise (sym c.as_slice.ensures.value) ∙ sym c.rise.ensures ∙ c.if-rise.true)

pub returns-then-rise-2 : goal.returns-then-rise-2
returns-then-rise-2 c =
    sorted-merged c.args.hits.now.items c.sort_hits.new.hits.items c.in_ok-sort_hits.ensures.permutation
    c.in_ok-sort_hits.ensures.stable c.in_ok-sort_hits.ensures.sorted
    (ap rise (sym c.as_slice-2.ensures.value) ∙ sym c.rise-2.ensures ∙ c.if-rise-2.true)

pub returns : goal.returns
returns c = record {
  sorted = c.sort_hits.new.hits.items;
  permutation = c.in_ok-sort_hits.ensures.permutation;
  stable = c.in_ok-sort_hits.ensures.stable;
  order = c.in_ok-sort_hits.ensures.sorted;
  merged = c.in_ok-found.ensures ∙ ap merged_of c.as_slice-3.ensures.value;
}
