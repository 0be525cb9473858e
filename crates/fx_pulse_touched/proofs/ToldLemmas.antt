-- What is told of each node in turn, and marks that are handed down.
use Rattle.std.proofs.Common.{refl, sym, ap, ◌∙◌, ◌≡◌, ℕ, ◌+◌, ◌<◌, ◌++◌, ◌∷◌, [], ◌||◌, Bool, false, List, get_or, length, Option, None, Some, arith, zero-add}
use Rattle.std.specs.List.{list_any}
use Rattle.std.proofs.lemmas.List.{get_or-map, length-map}
use Rattle.std.proofs.lemmas.List.FromFn.{get_or-map-range_with_len, length-map-range_with_len, map-range_with_len_more}
use Rattle.fx_kinds.specs.declared.facts.BoxFacts.{BoxFacts}
use Rattle.fx_layout_sweeps.specs.Marks.{flag_in}
use Rattle.fx_layout_sweeps.specs.Nodes.{IsTree, Parents, no_node, node_at, parent_at, parents}
use Rattle.fx_pulse_model.specs.Lines.{line_to}
use Rattle.fx_pulse_model.proofs.LineLemmas.{any_child, any_root, before}
use Rattle.fx_pulse_touched.specs.Marks.{is_below, told, told_above}

pub told_at : {A : Type 0} (tell : ℕ → A) (n k : ℕ) (d : A) → k < n → get_or (told tell n) k d ≡ tell k
told_at tell n k d within = get_or-map-range_with_len tell 0 n k k d within (zero-add k)

pub told_long : {A : Type 0} (tell : ℕ → A) (n : ℕ) → length (told tell n) ≡ n
told_long tell n = length-map-range_with_len tell 0 n

pub told_more : {A : Type 0} (tell : ℕ → A) (n : ℕ) → told tell (n + 1) ≡ told tell n ++ tell n ∷ []
told_more tell n = map-range_with_len_more tell 0 n n (zero-add n)

pub long : (boxes : List BoxFacts) → length (parents boxes) ≡ length boxes
long boxes = length-map boxes (λ (n : BoxFacts). n.parent)

pub read : (boxes : List BoxFacts) (k : ℕ) → k < length boxes → parent_at (parents boxes) k ≡ (node_at boxes k).parent
read boxes k within = get_or-map (λ (n : BoxFacts). n.parent) boxes k no_node None within

pub any_next : (ups : Parents) (test : ℕ → Bool) (k : ℕ) → IsTree ups → k < length ups
    → list_any test (line_to ups k)
    ≡ (told_above (told (λ j. list_any test (line_to ups j)) k) (parent_at ups k) false || test k)
any_next ups test k tree within = by (parent_at ups k) refl
  where
    some : ℕ → Bool
    some j = list_any test (line_to ups j)

    by : (o : Option ℕ) → parent_at ups k ≡ o
        → list_any test (line_to ups k) ≡ (told_above (told some k) (parent_at ups k) false || test k)
    by None is = any_root ups test k is ∙ sym (ap (λ o. told_above (told some k) o false || test k) is)
    by (Some p) is =
        any_child ups test k p tree within is
        ∙ (sym (ap (λ b. b || test k) (told_at some k p false (before ups k p tree within is)))
        ∙ sym (ap (λ o. told_above (told some k) o false || test k) is))

pub below_next : (boxes : List BoxFacts) (marks : List Bool) (k : ℕ) → IsTree (parents boxes) → k < length boxes
    → is_below (parents boxes) marks k
    ≡ (told_above (told (is_below (parents boxes) marks) k) (node_at boxes k).parent false || flag_in marks k)
below_next boxes marks k tree within =
    any_next (parents boxes) (flag_in marks) k tree (omega (arith, within, long boxes))
    ∙ ap (λ o. told_above (told (is_below (parents boxes) marks) k) o false || flag_in marks k) (read boxes k within)
