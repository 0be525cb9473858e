-- A climb by parents, node by node.
use Rattle.std.proofs.Common.{◌≡◌, ◌<◌, ◌≤◌, ◌+◌, ◌-◌, ℕ, zero, suc, Bool, true, false, ◌||◌, List, Option, Some, None, refl, sym, ap, ◌∙◌, arith}
use Rattle.fx_base.specs.declared.keys.NodeKey.{NodeKey}
use Rattle.fx_tree.specs.Scene.{Node, has, is_same, is_within, line, line_in, parent_of}

pub climb-start : (nodes : List Node) (upper key : NodeKey)
    → has (line_in 64 (parent_of nodes) (Some key)) upper ≡ is_within nodes upper key
unfolding line
climb-start nodes upper key = refl

-- the node itself, or one above it
step : (up : NodeKey → Option NodeKey) (upper node : NodeKey) (level : ℕ) → level < 64
    → has (line_in (64 - level) up (Some node)) upper
    ≡ (is_same node upper || has (line_in (64 - (level + 1)) up (up node)) upper)
unfolding line_in has
step up upper node level within =
    let e : 64 - level ≡ suc (64 - (level + 1)) = omega arith in
    ap (λ (n : ℕ). has (line_in n up (Some node)) upper) e

pub climb-found : (up : NodeKey → Option NodeKey) (upper node : NodeKey) (level : ℕ) → level < 64
    → is_same node upper ≡ true → has (line_in (64 - level) up (Some node)) upper ≡ true
climb-found up upper node level within same =
    step up upper node level within
    ∙ ap (λ (t : Bool). t || has (line_in (64 - (level + 1)) up (up node)) upper) same

pub climb-more : (up : NodeKey → Option NodeKey) (upper node : NodeKey) (level : ℕ) → level < 64
    → is_same node upper ≡ false
    → has (line_in (64 - (level + 1)) up (up node)) upper ≡ has (line_in (64 - level) up (Some node)) upper
climb-more up upper node level within other =
    sym
    (step up upper node level within
    ∙ ap (λ (t : Bool). t || has (line_in (64 - (level + 1)) up (up node)) upper) other)

none_above : (up : NodeKey → Option NodeKey) (upper : NodeKey) (n : ℕ) → has (line_in n up None) upper ≡ false
unfolding line_in has
none_above up upper zero = refl
none_above up upper (suc n) = refl

pub climb-none : (up : NodeKey → Option NodeKey) (upper : NodeKey) (level : ℕ)
    → has (line_in (64 - level) up None) upper ≡ false
climb-none up upper level = none_above up upper (64 - level)

pub climb-end : (up : NodeKey → Option NodeKey) (upper : NodeKey) (above : Option NodeKey) (level : ℕ) → 64 ≤ level
    → has (line_in (64 - level) up above) upper ≡ false
unfolding line_in has
climb-end up upper above level past =
    let e : 64 - level ≡ 0 = omega arith in ap (λ (n : ℕ). has (line_in n up above) upper) e
