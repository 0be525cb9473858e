-- the members found are gathered, from the one on to the end
use Rattle.std.proofs.Common.{◌≡◌, ◌<◌, ◌+◌, ◌-◌, ℕ, List, get_or, length, sym, ap, subst, ◌∙◌, arith}
use Rattle.std.proofs.lemmas.List.{length-map, get_or-map}
use Rattle.fx_base.specs.declared.keys.Name.{Name}
use Rattle.fx_base.specs.Names.{numbers}
use Rattle.fx_store_pairs.specs.Gathering.{with_names}
use Rattle.fx_store_pairs.specs.Pairs.{pairs_of}
use Rattle.fx_store_pairs.proofs.Gathered.{Gathers, unmet, with_partners, gathers_start, gathers_more, gathers_less, gathers_all}
use Rattle.fx_store_pairs.proofs.Partners.{partners_gathered}
use Rattle.fx_store_pairs.proofs.pairs.Pairs.group.Goals as goal

number_at : (names : List Name) (place : ℕ) (name : Name) → place < length names → get_or names place name ≡ name
    → name.0 ≡ get_or (numbers names) place 0
number_at names place name h e = sym (get_or-map (λ (n : Name). n.0) names place name 0 h ∙ ap (λ (n : Name). n.0) e)

long : (names : List Name) → length (numbers names) ≡ length names
long names = length-map names (λ (n : Name). n.0)

pub loop-done-init : goal.loop-done-init
loop-done-init c = record {
  gathers =
      subst (λ (names : List ℕ). Gathers (pairs_of c.self.inside.pairs.items) c.args.name.0 names 0)
      (sym c.in_ok-members.ensures.names)
      (gathers_start (pairs_of c.self.inside.pairs.items) c.args.name.0);
  known = c.in_ok-members.ensures.known;
}

-- what is found when a turn begins
abbrev found : (c : goal.In_ok-add_all) → List ℕ
found c = numbers c.loop-done.members.names.items

abbrev pairs : (c : goal.In_ok-add_all) → List (ℕ × ℕ)
pairs c = pairs_of c.self.inside.pairs.items

-- the partners of the next one are added
added : (c : goal.In_ok-add_all)
    → with_partners c.index-next.result.now.0 (pairs c) (found c) ≡ numbers c.add_all.new.self.names.items
added c =
    let next : ℕ = c.index-next.result.now.0 in
    sym (partners_gathered next (pairs c) (found c))
    ∙ ap (λ (others : List ℕ). with_names others (found c)) (sym (c.row.ensures ∙ c.self.invariant next))
    ∙ sym c.in_ok-add_all.ensures.names

next_at : (c : goal.In_ok-add_all) → c.index-next.result.now.0 ≡ get_or (found c) c.loop-done.done 0
next_at c =
    number_at c.loop-done.members.names.items c.loop-done.done c.index-next.result.now (omega arith)
    (sym c.index-next.ensures)

within : (c : goal.In_ok-add_all) → c.loop-done.done < length (found c)
within c = omega (arith, long c.loop-done.members.names.items)

pub loop-done-smaller : goal.loop-done-smaller
loop-done-smaller c =
    let done : ℕ = c.loop-done.done in
    subst
    (λ (ns : List ℕ).
    unmet ns (pairs c) + (length ns - (done + 1)) < unmet (found c) (pairs c) + (length (found c) - done))
    (added c)
    (gathers_less (pairs c) c.args.name.0 (found c) done c.index-next.result.now.0 c.loop-done.invariant.gathers
    (within c) (next_at c))

pub loop-done-preserved : goal.loop-done-preserved
loop-done-preserved c =
    let done : ℕ = c.loop-done.done in
    record {
      gathers =
          subst (λ (ns : List ℕ). Gathers (pairs c) c.args.name.0 ns (done + 1)) (added c)
          (gathers_more (pairs c) c.args.name.0 (found c) done c.index-next.result.now.0
          c.loop-done.invariant.gathers (within c) (next_at c));
      known = c.in_ok-add_all.ensures.known;
    }

pub returns-clause-members : goal.returns-clause-members
returns-clause-members c =
    let names : List Name = c.loop-done.members.names.items in
    rw (← c.self.view_is)
    (gathers_all (pairs_of c.self.inside.pairs.items) c.args.name.0 (numbers names) c.loop-done.done
    c.loop-done.invariant.gathers (omega (arith, long names)))

pub returns-clause-distinct : goal.returns-clause-distinct
returns-clause-distinct c = λ i j d l h e.
    let names : List Name = c.loop-done.members.names.items in
    let before : i < length names = omega arith in
    let within : j < length (numbers names) = omega (arith, long names) in
    c.loop-done.invariant.gathers.apart i j d.0 l within
    (get_or-map (λ (n : Name). n.0) names i d d.0 before ∙ e ∙ sym (get_or-map (λ (n : Name). n.0) names j d d.0 h))
