-- the closure gives the places
use Rattle.std.proofs.Common.{rules}
use Rattle.std.proofs.lemmas.List.Sorted.{answers_always}
use Rattle.fx_select.specs.Merged.{place_of}
use Rattle.fx_select.proofs.strongest.sort_hits.Goals as goal

pub returns-clause-stable : goal.returns-clause-stable
returns-clause-stable c = c.sort_by_key.ensures.stable place_of (answers_always _ _ _ (λ f a r g h. search rules))

pub returns-clause-sorted : goal.returns-clause-sorted
returns-clause-sorted c = c.in_ok-sort_by_key.ensures.sorted place_of (answers_always _ _ _ (λ f a r g h. search rules))
