-- A node that isn't alive has no subtree, and isn't detached.
use Rattle.std.proofs.Common.{◌≡◌, Bool, true, false, not, cond, Option, Some, None, Result, Ok, Err, is_some, ap, subst, inl, inr}
use Rattle.std.specs.Option.{option_map}
use Rattle.fx_base.specs.Answers.{IsAnswer}
use Rattle.fx_base.specs.declared.keys.NodeKey.{NodeKey}
use Rattle.fx_tree.specs.declared.TreeError.{TreeError}
use Rattle.fx_tree.specs.declared.TreeError.TheVariants as tree
use Rattle.fx_tree.specs.Refusals.{IsExactAnswer, detach_refusal, stale}
use Rattle.fx_tree.specs.Scene.{Scene, is_alive, parent_of}
use Rattle.fx_stage_types.specs.declared.answers.StageError.{StageError}
use Rattle.fx_stage_types.specs.declared.answers.StageError.TheVariants.{Memory}
use Rattle.fx_stage_types.specs.Words.{of_tree}

pub stale_answer : (T : Type 0) (scene : Scene) (key : NodeKey) (error : TreeError)
    → IsExactAnswer {T = T} (stale scene key) (Err error)
    → IsAnswer {T = Unit {0}} Memory (option_map of_tree (detach_refusal scene key)) (Err (of_tree error))
unfolding stale detach_refusal
stale_answer T scene key error a =
    by_test (not (is_alive scene.nodes key)) (cond (not (is_some (parent_of scene.nodes key))) (Some tree.NoParent) None) a
  where
    wanting : (o : Option TreeError) → error ≡ tree.Memory
        → IsAnswer {T = Unit {0}} Memory (option_map of_tree o) (Err (of_tree error))
    wanting None e = ap of_tree e
    wanting (Some r) e = inr (ap of_tree e)

    by_test : (b : Bool) (rest : Option TreeError) → IsExactAnswer {T = T} (cond b (Some tree.StaleKey) None) (Err error)
        → IsAnswer {T = Unit {0}} Memory (option_map of_tree (cond b (Some tree.StaleKey) rest)) (Err (of_tree error))
    by_test true rest e = inl (ap of_tree e)
    by_test false rest e = wanting rest e
