-- The next path and the next counts, by the parent of a node.
use Rattle.std.proofs.Common.{sym, ap, ◌∙◌, ◌≡◌, ℕ, ◌+◌, ◌<◌, ◌++◌, List, [], ◌∷◌, get_or, length, set, None, Some, arith}
use Rattle.std.specs.Prelude.{slice_index}
use Rattle.fx_kinds.specs.declared.facts.BoxFacts.{BoxFacts}
use Rattle.fx_layout_sweeps.specs.Nodes.{IsTree, node_at, parents}
use Rattle.fx_pulse_model.specs.Lines.{path_of}
use Rattle.fx_pulse_model.proofs.LineLemmas.{before, path_child, path_root}
use Rattle.fx_pulse.specs.Drawing.{AreCounts}
use Rattle.fx_pulse_touched.specs.Marks.{told}
use Rattle.fx_pulse.proofs.CountLemmas.{counts_none, counts_some}
use Rattle.fx_pulse_touched.proofs.ToldLemmas.{long, read, told_at}

pub parent_before : (boxes : List BoxFacts) (k p : ℕ) → IsTree (parents boxes) → k < length boxes
    → (node_at boxes k).parent ≡ Some p → p < k
parent_before boxes k p tree within is =
    before (parents boxes) k p tree (omega (arith, within, long boxes)) (read boxes k within ∙ is)

pub parent_there : (boxes : List BoxFacts) (k p : ℕ) (counts : List ℕ) → IsTree (parents boxes) → k < length boxes
    → (node_at boxes k).parent ≡ Some p → AreCounts (parents boxes) counts k → p < length counts
parent_there boxes k p counts tree within is are =
    let less = parent_before boxes k p tree within is in
    omega (arith, less, within, are.each, long boxes)

pub path_none : (boxes : List BoxFacts) (k : ℕ) → k < length boxes → (node_at boxes k).parent ≡ None
    → [] ≡ path_of (parents boxes) k
path_none boxes k within is = sym (path_root (parents boxes) k (read boxes k within ∙ is))

pub path_some : (boxes : List BoxFacts) (k p : ℕ) (paths : List (List ℕ)) (counts : List ℕ) → IsTree (parents boxes)
    → k < length boxes → (node_at boxes k).parent ≡ Some p → paths ≡ told (path_of (parents boxes)) k
    → AreCounts (parents boxes) counts k
    → get_or paths p [] ++ slice_index counts p ∷ [] ≡ path_of (parents boxes) k
path_some boxes k p paths counts tree within is are_paths are =
    let ups = parents boxes in
    let less = parent_before boxes k p tree within is in
    let above : get_or paths p [] ≡ path_of ups p =
    ap (λ l. get_or l p []) are_paths ∙ told_at (path_of ups) k p [] less in
    ap (λ l. l ++ slice_index counts p ∷ []) above
    ∙ (ap (λ n. path_of ups p ++ n ∷ []) (are.counted p (omega (arith, less, within, long boxes)))
    ∙ sym (path_child ups k p tree (omega (arith, within, long boxes)) (read boxes k within ∙ is)))

pub counts_root : (boxes : List BoxFacts) (k : ℕ) (counts : List ℕ) → k < length boxes
    → (node_at boxes k).parent ≡ None → AreCounts (parents boxes) counts k → AreCounts (parents boxes) counts (k + 1)
counts_root boxes k counts within is are =
    counts_none (parents boxes) counts k (omega (arith, within, long boxes)) (read boxes k within ∙ is) are

pub counts_child : (boxes : List BoxFacts) (k p : ℕ) (counts : List ℕ) → IsTree (parents boxes) → k < length boxes
    → (node_at boxes k).parent ≡ Some p → AreCounts (parents boxes) counts k
    → AreCounts (parents boxes) (set counts p (slice_index counts p + 1)) (k + 1)
counts_child boxes k p counts tree within is are =
    let less = parent_before boxes k p tree within is in
    counts_some (parents boxes) counts k p (omega (arith, within, long boxes)) (omega (arith, less, within, long boxes))
    (read boxes k within ∙ is) are
