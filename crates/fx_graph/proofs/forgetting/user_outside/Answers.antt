use Rattle.std.proofs.Common.{◌∙◌, ℕ, List, Contains, sym, subst, inl, inr}
use Rattle.std.proofs.lemmas.Bool.{both_ways}
use Rattle.std.proofs.lemmas.List.{take_all, take_more}
use Rattle.std.proofs.lemmas.List.Elements.{Contains-get_or, Contains-push_cases}
use Rattle.fx_graph_model.proofs.Members.{none_in_nil}
use Rattle.fx_graph.proofs.forgetting.user_outside.Goals as goal

pub loop-user-init : goal.loop-user-init
loop-user-init c = λ names f user i. absurd (none_in_nil user i)

pub returns-then-not-is_set : goal.returns-then-not-is_set
returns-then-not-is_set c = λ names f. (
  Contains-get_or c.args.row.now c.loop-user.user-index 0 c.loop-user-test.true,
  λ among. both_ways _ (sym c.is_set.ensures ∙ c.if-not-is_set.true) (f.set _ among),
)

pub loop-user-preserved : goal.loop-user-preserved
loop-user-preserved c = λ names f user i.
    elim (Contains-push_cases _ _ user (subst (λ (xs : List ℕ). Contains xs user) (take_more c.args.row.now c.loop-user.user-index 0 c.loop-user-test.true) i)) [
      | inl old ↦ c.loop-user.invariant names f user old
      | inr same ↦ subst (λ n. Contains names n) same (f.only _ (sym c.is_set.ensures ∙ c.if-not-is_set.false))
    ]

pub returns : goal.returns
returns c = λ names f. (rw (take_all c.loop-user.user-index c.args.row.now c.loop-user-test.false) at c.loop-user.invariant) names f
