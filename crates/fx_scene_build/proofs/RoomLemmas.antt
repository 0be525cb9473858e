-- Room below a node, by the path to it.
use Rattle.std.proofs.Common.{◌≡◌, ℕ, Bool, true, false, not, List, length, Result, Ok, Err, refl, sym, ◌∙◌, ap, subst}
use Rattle.std.specs.Prelude.{nat_lt, if◌then◌else◌, Option, None, Vec}
use Rattle.std.specs.Global.{Global}
use Rattle.fx_base.specs.declared.keys.NodeKey.{NodeKey}
use Rattle.fx_scene_build.specs.Steps.{IsPathRefusal}
use Rattle.fx_scene_plan.specs.Plans.{Says, room_below}
use Rattle.fx_stage_model.specs.Answers.{and_then, unless}
use Rattle.fx_stage_model.specs.World.{World}
use Rattle.fx_stage_types.specs.declared.answers.StageError.{StageError}
use Rattle.fx_stage_types.specs.declared.answers.StageError.TheVariants as stage
use Rattle.fx_stage_types.specs.declared.refusals.Refusal.{Refusal}
use Rattle.fx_stage_types.specs.declared.refusals.Refusal.TheVariants as word
use Rattle.fx_tree.specs.Refusals.{IsExactAnswer, refused, stale}
use Rattle.fx_tree.specs.Scene.{Scene, is_alive, path}
use Rattle.fx_tree.specs.declared.TreeError.{TreeError}
use Rattle.fx_tree.specs.declared.TreeError.TheVariants as tree

abbrev Keys : Type 0
Keys = Vec NodeKey Global

abbrev Answer : Type 0
Answer = Result NodeKey StageError

abbrev told : Bool → Bool → NodeKey → Result NodeKey Refusal
told alive deep key =
    and_then (if alive then Ok key else Err word.Unknown) (λ (there : NodeKey). unless deep word.Depth (Ok key))

by_alive : (alive deep : Bool) (key : NodeKey) (keys : Keys) (result : Answer)
    → IsExactAnswer {T = Keys} (refused (not alive) tree.StaleKey None) (Ok keys)
    → Says (λ (found : NodeKey). found) (unless deep word.Depth (Ok key)) result
    → Says (λ (found : NodeKey). found) (told alive deep key) result
by_alive true deep key keys result answer says = says
by_alive false deep key keys result answer says = absurd answer

pub room_seen : (world : World) (scene : Scene) (key : NodeKey) (keys : Keys) (items : List NodeKey) (result : Answer)
    → scene ≡ world.graph.tree → IsExactAnswer {T = Keys} (stale scene key) (Ok keys) → keys.items ≡ path scene.nodes key
    → items ≡ keys.items → Says (λ (found : NodeKey). found) (unless (nat_lt 63 (length items)) word.Depth (Ok key)) result
    → Says (λ (found : NodeKey). found) (room_below world key) result
unfolding room_below stale
room_seen world scene key keys items result seen answer is same says =
    let IsSaid : List NodeKey → Type 0 =
    λ l. Says {A = NodeKey} {B = NodeKey} (λ found. found) (unless (nat_lt 63 (length l)) word.Depth (Ok key)) result in
    by_alive (is_alive world.graph.tree.nodes key) (nat_lt 63 (length (path world.graph.tree.nodes key))) key keys result
    (subst (λ (s : Scene). IsExactAnswer {T = Keys} (stale s key) (Ok keys)) seen answer)
    (subst IsSaid (same ∙ (is ∙ ap (λ (s : Scene). path s.nodes key) seen)) says)

by_error : (alive deep : Bool) (key : NodeKey) (error : TreeError) (other : StageError)
    → IsExactAnswer {T = Keys} (refused (not alive) tree.StaleKey None) (Err error) → IsPathRefusal error other
    → Says {A = NodeKey} (λ (found : NodeKey). found) (told alive deep key) (Err other)
by_error true deep key error other answer is =
    let IsSaid : StageError → Type 0 = λ e. Says {A = NodeKey} {B = NodeKey} (λ found. found) (told true deep key) (Err e) in
    subst IsSaid (sym (subst (λ (e : TreeError). IsPathRefusal e other) answer is)) tt
by_error false deep key error other answer is =
    let IsSaid : StageError → Type 0 = λ e. Says {A = NodeKey} {B = NodeKey} (λ found. found) (told false deep key) (Err e) in
    subst IsSaid (sym (subst (λ (e : TreeError). IsPathRefusal e other) answer is)) refl

pub no_path : (world : World) (scene : Scene) (key : NodeKey) (error : TreeError) (other : StageError)
    → scene ≡ world.graph.tree → IsExactAnswer {T = Keys} (stale scene key) (Err error) → IsPathRefusal error other
    → Says {A = NodeKey} (λ (found : NodeKey). found) (room_below world key) (Err other)
unfolding room_below stale
no_path world scene key error other seen answer is =
    by_error (is_alive world.graph.tree.nodes key) (nat_lt 63 (length (path world.graph.tree.nodes key))) key error other
    (subst (λ (s : Scene). IsExactAnswer {T = Keys} (stale s key) (Err error)) seen answer) is
