-- Nodes that keep what they have where it stands.
use Rattle.std.proofs.Common.{◌≡◌, ◌<◌, ◌≤◌, ◌+◌, [], zero, suc, ℕ, Bool, true, false, List, Option, Some, None, length, refl, sym, ◌∙◌, ap, subst, arith}
use Rattle.std.specs.Prelude.{slice_get, option_and_then}
use Rattle.std.specs.List.{filter_map}
use Rattle.fx_css_types.specs.declared.sheets.SheetAt.{SheetAt}
use Rattle.fx_kinds.specs.declared.facts.StyleFacts.{StyleFacts}
use Rattle.fx_look.specs.declared.looks.Look.{Look}
use Rattle.fx_node_style.specs.declared.node_styles.NodeStyle.{NodeStyle}
use Rattle.fx_select.specs.Chains.{ParentsStandBefore}
use Rattle.fx_style.specs.declared.kept.Fresh.{Fresh}
use Rattle.fx_style.specs.declared.kept.Rest.{Rest}
use Rattle.fx_style.specs.declared.making.Turn.{Turn}
use Rattle.fx_style.specs.Kept.{entry, fresh_at, is_among, kept_at, kept_under, place_of_key}
use Rattle.fx_style.specs.Places.{parent_at, places_up}
use Rattle.fx_style.specs.Rules.{anew, needs, needs_by, renewed_by, ticks, worked}
use Rattle.fx_style.specs.Turns.{AreRightBelow, Stays}
use Rattle.fx_style.proofs.CostLemmas.{worked_more}
use Rattle.fx_style.proofs.FreshLemmas.{append-none}
use Rattle.fx_style.proofs.TurnLemmas.{get_there, kept_ticks, stays_here, stays_style}
use Rattle.fx_style.proofs.UpdateLemmas.{now_of, right_more}

-- a node that isn't listed, with its key where it stands
pub record Idles (restyle : List ℕ) (looks : List Look) (rest : List Rest) (node : StyleFacts) (at : ℕ) : Type 0 where
  pub unlisted : is_among restyle at ≡ false
  pub place : place_of_key rest node.key ≡ Some at
  pub in_looks : at < length looks
  pub in_rest : at < length rest

abbrev turn_of : StyleFacts → ℕ → Turn
turn_of node at = record {
  at = at;
  key = node.key;
  listed = false;
  calm = false;
  stay = true;
  place = None;
  before = None;
}

pub stays : (restyle : List ℕ) (looks : List Look) (rest : List Rest) (node : StyleFacts) (at : ℕ)
    → Idles restyle looks rest node at → Stays looks rest (turn_of node at)
stays restyle looks rest node at idle = stays_here looks rest
    (turn_of node at) refl refl idle.place idle.in_looks idle.in_rest

pub kept_there : (looks : List Look) (rest : List Rest) (facts : List StyleFacts) (at : ℕ) (node : StyleFacts)
    → slice_get facts at ≡ Some node → kept_under looks rest node.key ≡ kept_at looks rest facts at
kept_there looks rest facts at node is =
    ap (option_and_then (λ (n : StyleFacts). kept_under looks rest n.key)) (sym is)

-- nothing is made of it
pub idle_right : (sheets : List SheetAt) (facts : List StyleFacts) (restyle : List ℕ) (looks : List Look)
    (rest : List Rest) (fresh : List Fresh) (at : ℕ) (node : StyleFacts) → ParentsStandBefore facts
    → slice_get facts at ≡ Some node → fresh_at fresh at ≡ None → Idles restyle looks rest node at
    → AreRightBelow sheets facts restyle (kept_at looks rest facts) looks rest fresh at
    → AreRightBelow sheets facts restyle (kept_at looks rest facts) looks rest fresh (at + 1)
idle_right sheets facts restyle looks rest fresh at node before is none idle right =
    let kept = kept_at looks rest facts in
    let made = anew sheets facts at (filter_map (now_of looks rest fresh) (places_up facts (parent_at facts at))) in
    subst (λ (l : List Fresh). AreRightBelow sheets facts restyle kept looks rest l (at + 1)) (append-none fresh)
    (right_more sheets facts restyle kept looks rest fresh at node None before is none right
    (stays_style looks rest (turn_of node at) made (stays restyle looks rest node at idle)
    ∙ ap (λ (b : Bool). Some (entry node.key (renewed_by b (kept_under looks rest node.key) made))) (sym idle.unlisted)
    ∙ ap (λ (o : Option NodeStyle). Some (entry node.key (renewed_by (is_among restyle at) o made)))
    (kept_there looks rest facts at node is)))

-- and it costs nothing
pub idle_cost : (facts : List StyleFacts) (restyle : List ℕ) (looks : List Look) (rest : List Rest) (at next : ℕ)
    (node : StyleFacts) → slice_get facts at ≡ Some node → Idles restyle looks rest node at → next ≡ at + 1
    → worked (needs restyle (kept_at looks rest facts)) at ≡ worked (needs restyle (kept_at looks rest facts)) next
idle_cost facts restyle looks rest at next node is idle e =
    let kept = kept_at looks rest facts in
    let s = stays restyle looks rest node at idle in
    let nothing : ticks (needs restyle kept at) ≡ 0 =
    ap (λ (o : Option NodeStyle). ticks (needs_by (is_among restyle at) o))
    (sym (kept_there looks rest facts at node is))
    ∙ kept_ticks (is_among restyle at) (kept_under looks rest node.key) s.style idle.unlisted s.kept in
    let more : worked (needs restyle kept) at + ticks (needs restyle kept at) ≡ worked (needs restyle kept) next =
    worked_more (needs restyle kept) at next e in
    omega (arith, more, nothing)

-- where all nodes do, nothing is made

pub still_right : (sheets : List SheetAt) (facts : List StyleFacts) (restyle : List ℕ) (looks : List Look)
    (rest : List Rest) → ParentsStandBefore facts
    → ((at : ℕ) (node : StyleFacts) → slice_get facts at ≡ Some node → Idles restyle looks rest node at) → (n : ℕ)
    → n ≤ length facts → AreRightBelow sheets facts restyle (kept_at looks rest facts) looks rest [] n
still_right sheets facts restyle looks rest before idle zero few = record {
  each = λ j node below is. absurd (omega (arith, below));
}
still_right sheets facts restyle looks rest before idle (suc n) few =
    let there = get_there facts n (omega (arith, few)) in
    let one : n + 1 ≡ suc n = omega arith in
    subst (λ (m : ℕ). AreRightBelow sheets facts restyle (kept_at looks rest facts) looks rest [] m) one
    (idle_right sheets facts restyle looks rest [] n there.0 before there.1 refl (idle n there.0 there.1)
    (still_right sheets facts restyle looks rest before idle n (omega (arith, few))))

pub still_cost : (facts : List StyleFacts) (restyle : List ℕ) (looks : List Look) (rest : List Rest)
    → ((at : ℕ) (node : StyleFacts) → slice_get facts at ≡ Some node → Idles restyle looks rest node at) → (n : ℕ)
    → n ≤ length facts → worked (needs restyle (kept_at looks rest facts)) n ≡ 0
still_cost facts restyle looks rest idle zero few = refl
still_cost facts restyle looks rest idle (suc n) few =
    let there = get_there facts n (omega (arith, few)) in
    sym (idle_cost facts restyle looks rest n (suc n) there.0 there.1 (idle n there.0 there.1) (omega arith))
    ∙ still_cost facts restyle looks rest idle n (omega (arith, few))
