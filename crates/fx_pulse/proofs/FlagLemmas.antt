-- A node shows where its parent does and it is visible.
use Rattle.std.proofs.Common.{refl, sym, ap, ◌∙◌, ◌≡◌, ℕ, ◌<◌, ◌&&◌, Bool, true, false, List, [], ◌∷◌, length, replicate, Option, None, Some, inl, inr, arith}
use Rattle.std.specs.Bool.{Decides, beq}
use Rattle.std.specs.List.{list_all}
use Rattle.std.proofs.lemmas.Bool.{cases_lt}
use Rattle.std.proofs.lemmas.List.{ext_get_or, get_or-replicate, get_or_past, length-map, length-replicate}
use Rattle.fx_kinds.specs.declared.facts.BoxFacts.{BoxFacts}
use Rattle.fx_look.specs.Looks.{initial_look}
use Rattle.fx_look.specs.declared.looks.Look.{Look}
use Rattle.fx_layout_sweeps.specs.Nodes.{IsTree, Parents, look_at, node_at, parent_at, parents}
use Rattle.fx_pulse_model.specs.Lines.{line_to}
use Rattle.fx_pulse_model.specs.Pictures.{Drawn, shows}
use Rattle.fx_pulse_model.proofs.LineLemmas.{all_child, all_root, before}
use Rattle.fx_pulse_touched.specs.Marks.{told, told_above}
use Rattle.fx_pulse_touched.proofs.ToldLemmas.{read, told_at, told_long}

pub all_next : (ups : Parents) (test : ℕ → Bool) (k : ℕ) → IsTree ups → k < length ups
    → list_all test (line_to ups k)
    ≡ (told_above (told (λ j. list_all test (line_to ups j)) k) (parent_at ups k) true && test k)
all_next ups test k tree within = by (parent_at ups k) refl
  where
    all : ℕ → Bool
    all j = list_all test (line_to ups j)

    by : (o : Option ℕ) → parent_at ups k ≡ o
        → list_all test (line_to ups k) ≡ (told_above (told all k) (parent_at ups k) true && test k)
    by None is = all_root ups test k is ∙ sym (ap (λ o. told_above (told all k) o true && test k) is)
    by (Some p) is =
        all_child ups test k p tree within is
        ∙ (sym (ap (λ b. b && test k) (told_at all k p false (before ups k p tree within is)))
        ∙ sym (ap (λ o. told_above (told all k) o true && test k) is))

pub shows_next : (d : Drawn) (k : ℕ) → IsTree (parents d.boxes) → k < length d.boxes
    → shows d k ≡ (told_above (told (shows d) k) (node_at d.boxes k).parent true && (look_at d.looks k).visibility)
shows_next d k tree within =
    let long = length-map d.boxes (λ (n : BoxFacts). n.parent) in
    all_next (parents d.boxes) (λ p. (look_at d.looks p).visibility) k tree (omega (arith, within, long))
    ∙ ap (λ o. told_above (told (shows d) k) o true && (look_at d.looks k).visibility) (read d.boxes k within)

-- ---- where each look is visible, each node shows
all_visible : (looks : List Look) → ((k : ℕ) → k < length looks → (look_at looks k).visibility ≡ true) → (p : ℕ)
    → (look_at looks p).visibility ≡ true
all_visible looks all p = elim (cases_lt p (length looks)) [
  | inl within ↦ all p within
  | inr past ↦ ap (λ (l : Look). l.visibility) (get_or_past looks p (initial_look 0) past)
]

all_of : (test : ℕ → Bool) → ((p : ℕ) → test p ≡ true) → (xs : List ℕ) → list_all test xs ≡ true
all_of test each [] = refl
all_of test each (x ∷ xs) = ap (λ b. b && list_all test xs) (each x) ∙ all_of test each xs

pub all_shown : (d : Drawn) (n : ℕ)
    → ((k : ℕ) → k < length d.looks → (look_at d.looks k).visibility ≡ true) → told (shows d) n ≡ replicate n true
all_shown d n all =
    ext_get_or false (told (shows d) n) (replicate n true) (told_long (shows d) n ∙ sym (length-replicate n true))
    (λ i within.
    let inside : i < n = omega (arith, within, told_long (shows d) n) in
    told_at (shows d) n i false inside
    ∙ (all_of (λ p. (look_at d.looks p).visibility) (all_visible d.looks all) (line_to (parents d.boxes) i)
    ∙ sym (get_or-replicate n i true false inside)))

-- two flags are compared
pub Decides-flag : (a b : Bool) → Decides (beq a b) (a ≡ b)
Decides-flag true true = (λ e. cc, λ e. cc)
Decides-flag true false = (λ e. cc, λ e. cc)
Decides-flag false true = (λ e. cc, λ e. cc)
Decides-flag false false = (λ e. cc, λ e. cc)
