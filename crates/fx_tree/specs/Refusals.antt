-- When each call is refused, and with which error.
use Rattle.std.specs.Prelude.{ℕ, ◌≡◌, ◌==◌, nat_lt, Bool, false, if◌then◌else◌, ◌||◌, not, length, Option, Some, None, is_some, Result, Ok, Err}
use Rattle.fx_base.specs.declared.keys.NodeKey.{NodeKey}
use Rattle.fx_tree.specs.declared.TreeError.{TreeError}
use Rattle.fx_tree.specs.declared.TreeError.TheVariants.{StaleKey, WouldLoop, HasParent, Attached, Place, Full, Depth, NoParent, Memory}
use Rattle.fx_tree.specs.Scene.{Scene, is_same, has, children_or_none, parent_of, is_alive, line, is_too_deep}

-- the call is refused just as said, and takes no memory
abbrev pub IsFirmAnswer : {T : Type 0} → Option TreeError → Result T TreeError → Type 0
IsFirmAnswer None (Ok value) = Unit {0}
IsFirmAnswer None (Err error) = ⊥
IsFirmAnswer (Some refusal) (Ok value) = ⊥
IsFirmAnswer (Some refusal) (Err error) = error ≡ refusal

-- the call is refused just as said; where it isn't, memory may be wanting
abbrev pub IsExactAnswer : {T : Type 0} → Option TreeError → Result T TreeError → Type 0
IsExactAnswer None (Ok value) = Unit {0}
IsExactAnswer None (Err error) = error ≡ Memory
IsExactAnswer (Some refusal) (Ok value) = ⊥
IsExactAnswer (Some refusal) (Err error) = error ≡ refusal

-- this error where the test holds, and else what else there is
abbrev pub refused : Bool → TreeError → Option TreeError → Option TreeError
refused test error others = if test then Some error else others

abbrev pub is_held : Option NodeKey → NodeKey → Bool
is_held None key = false
is_held (Some held) key = is_same held key

-- 4,096 nodes are alive, or the last birth number was given
abbrev pub is_full : Scene → Bool
is_full scene = (length scene.nodes == 4096) || (scene.born == 4294967295)

abbrev pub make_refusal : Scene → Option TreeError
make_refusal scene = refused (is_full scene) Full None

unfoldable pub stale : Scene → NodeKey → Option TreeError
stale scene key = refused (not (is_alive scene.nodes key)) StaleKey None

unfoldable pub root_refusal : Scene → NodeKey → Option TreeError
root_refusal scene key =
    refused (not (is_alive scene.nodes key)) StaleKey
    (refused (is_some (parent_of scene.nodes key)) HasParent
    (refused (is_some scene.root) Attached None))

unfoldable pub attach_refusal : Scene → NodeKey → NodeKey → ℕ → Option TreeError
attach_refusal scene parent child place =
    refused (not (is_alive scene.nodes parent) || not (is_alive scene.nodes child)) StaleKey
    (refused (has (line scene.nodes parent) child) WouldLoop
    (refused (is_some (parent_of scene.nodes child)) HasParent
    (refused (is_held scene.root child) Attached
    (refused (nat_lt (length (children_or_none scene.nodes parent)) place) Place
    (refused (is_too_deep scene.nodes parent child) Depth None)))))

unfoldable pub detach_refusal : Scene → NodeKey → Option TreeError
detach_refusal scene child =
    refused (not (is_alive scene.nodes child)) StaleKey
    (refused (not (is_some (parent_of scene.nodes child))) NoParent None)

unfoldable pub drop_refusal : Scene → NodeKey → Option TreeError
drop_refusal scene key =
    refused (not (is_alive scene.nodes key)) StaleKey
    (refused (is_some (parent_of scene.nodes key) || is_held scene.root key) Attached None)
