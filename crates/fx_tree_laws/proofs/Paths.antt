-- Paths: what they are of a child, and that nodes have their own.
use Rattle.std.proofs.Common.{◌≡◌, ◌≤◌, List, [], ◌∷◌, ◌++◌, length, reverse, Some, None, sym, ◌∙◌, ap, arith}
use Rattle.std.proofs.lemmas.List.{length-reverse, reverse-append, reverse-reverse}
use Rattle.fx_base.specs.declared.keys.NodeKey.{NodeKey}
use Rattle.fx_tree.specs.Scene.{Node, Scene, IsSound, line, line_in, parent_of, path}
use Rattle.fx_tree.proofs.Lines.{line_in-more}
use Rattle.fx_tree_laws.proofs.Known.{line_alone, line_below, short_line}

line_head : (nodes : List Node) (key : NodeKey) → line nodes key ≡ key ∷ line_in 63 (parent_of nodes) (parent_of nodes key)
unfolding line
line_head nodes key = line_in-more 63 (parent_of nodes) key

pub path_end : (nodes : List Node) (key : NodeKey)
    → path nodes key ≡ reverse (line_in 63 (parent_of nodes) (parent_of nodes key)) ++ key ∷ []
path_end nodes key =
    ap reverse (line_head nodes key)
    ∙ reverse-append (key ∷ []) (line_in 63 (parent_of nodes) (parent_of nodes key))

first_or : NodeKey → List NodeKey → NodeKey
first_or other [] = other
first_or other (x ∷ rest) = x

pub one_path : (nodes : List Node) (one other : NodeKey) → path nodes one ≡ path nodes other → one ≡ other
unfolding first_or
one_path nodes one other same =
    let lines : line nodes one ≡ line nodes other =
    sym (reverse-reverse (line nodes one)) ∙ ap reverse same ∙ reverse-reverse (line nodes other) in
    sym (ap (first_or one) (line_head nodes one))
    ∙ ap (first_or one) lines
    ∙ ap (first_or one) (line_head nodes other)

pub path_below : (scene : Scene) → IsSound scene → (key parent : NodeKey) → parent_of scene.nodes key ≡ Some parent
    → path scene.nodes key ≡ path scene.nodes parent ++ key ∷ []
path_below scene sound key parent is =
    ap reverse (line_below scene sound key parent is) ∙ reverse-append (key ∷ []) (line scene.nodes parent)

pub path_alone : (nodes : List Node) (key : NodeKey) → parent_of nodes key ≡ None → path nodes key ≡ key ∷ []
path_alone nodes key none = ap reverse (line_alone nodes key none)

pub short_path : (nodes : List Node) (key : NodeKey) → length (path nodes key) ≤ 64
short_path nodes key = let e : length (path nodes key) ≡ length (line nodes key) = length-reverse (line nodes key) in omega (arith, e, short_line nodes key)
