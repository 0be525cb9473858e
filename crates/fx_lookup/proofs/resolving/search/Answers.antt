use Rattle.std.proofs.Common.{◌≡◌, ℕ, Bool, false, true, List, map, Bor, Option, Some, None, ◌<◌, subst, sym, ◌∙◌, ap}
use Rattle.std.specs.Option.{option_map}
use Rattle.fx_css_types.specs.declared.declarations.Paint.{Paint}
use Rattle.fx_css_types.specs.declared.declarations.Paint.TheVariants.{Color, Named}
use Rattle.fx_lookup.specs.declared.named.NamedPaint.{NamedPaint}
use Rattle.fx_lookup.specs.Lookups.{has_name, names_in}
use Rattle.fx_lookup.proofs.ResolvingLemmas.{begins, ends_back, ends_with, goes_on, left_of, next_fewer, seen-push}
use Rattle.fx_lookup.proofs.resolving.search.Goals as goal

abbrev nodes : List (Bor (List NamedPaint)) → List (List NamedPaint)
nodes chain = map (λ (n : Bor (List NamedPaint)). n.now) chain

abbrev texts : List (Bor (List ℕ)) → List (List ℕ)
texts names = map (λ (n : Bor (List ℕ)). n.now) names

pub loop-current-init : goal.loop-current-init
loop-current-init c = begins (nodes c.args.chain.now) _ c.args.name.now (ap texts c.new-visited.ensures.items)

pub returns-in_default : goal.returns-in_default
returns-in_default c =
    let test : has_name (texts c.loop-current.visited.items) c.loop-current.current.now ≡ c.has_name.result =
    ap (λ (l : List (Bor (List ℕ))). has_name (texts l) c.loop-current.current.now) (sym c.as_slice.ensures.value)
    ∙ sym c.has_name.ensures in
    ends_with (nodes c.args.chain.now)
    (texts c.loop-current.visited.items) c.loop-current.current.now c.args.name.now None c.loop-current.invariant
    (test ∙ c.loop-current-test.true) c.in_default.ensures

pub returns-in-Color : goal.returns-in-Color
returns-in-Color c =
    let test : has_name (texts c.loop-current.visited.items) c.loop-current.current.now ≡ c.has_name.result =
    ap (λ (l : List (Bor (List ℕ))). has_name (texts l) c.loop-current.current.now) (sym c.as_slice.ensures.value)
    ∙ sym c.has_name.ensures in
    ends_with (nodes c.args.chain.now) (texts c.loop-current.visited.items) c.loop-current.current.now c.args.name.now
    (Some (Color c.in-Color.color)) c.loop-current.invariant (test ∙ c.loop-current-test.true)
    (ap Some (sym c.in-Color.is) ∙ c.in-Some.ensures)

pub loop-current-smaller : goal.loop-current-smaller
loop-current-smaller c =
    let test : has_name (texts c.loop-current.visited.items) c.loop-current.current.now ≡ c.has_name.result =
    ap (λ (l : List (Bor (List ℕ))). has_name (texts l) c.loop-current.current.now) (sym c.as_slice.ensures.value)
    ∙ sym c.has_name.ensures in
    subst (λ (v : List (List ℕ)). left_of v (names_in (nodes c.args.chain.now)) < left_of
    (texts c.loop-current.visited.items) (names_in (nodes c.args.chain.now)))
    (sym (seen-push c.loop-current.visited.items c.loop-current.current c.push.new.self.items
    c.in_ok-push-in-Named.ensures.items))
    (next_fewer (nodes c.args.chain.now)
    (texts c.loop-current.visited.items) c.loop-current.current.now c.in-Named.next
    (test ∙ c.loop-current-test.true) (ap Some (sym c.in-Named.is) ∙ c.in-Some.ensures))

pub loop-current-preserved : goal.loop-current-preserved
loop-current-preserved c =
    let test : has_name (texts c.loop-current.visited.items) c.loop-current.current.now ≡ c.has_name.result =
    ap (λ (l : List (Bor (List ℕ))). has_name (texts l) c.loop-current.current.now) (sym c.as_slice.ensures.value)
    ∙ sym c.has_name.ensures in
    goes_on (nodes c.args.chain.now) (texts c.loop-current.visited.items)
    (texts c.push.new.self.items) c.loop-current.current.now c.in-Named.next c.args.name.now
    c.loop-current.invariant (test ∙ c.loop-current-test.true) (ap Some (sym c.in-Named.is) ∙ c.in-Some.ensures)
    (seen-push c.loop-current.visited.items c.loop-current.current c.push.new.self.items c.in_ok-push-in-Named.ensures.items)

pub returns : goal.returns
returns c =
    let test : has_name (texts c.loop-current.visited.items) c.loop-current.current.now ≡ c.has_name.result =
    ap (λ (l : List (Bor (List ℕ))). has_name (texts l) c.loop-current.current.now) (sym c.as_slice.ensures.value)
    ∙ sym c.has_name.ensures in
    ends_back (nodes c.args.chain.now)
    (texts c.loop-current.visited.items) c.loop-current.current.now c.args.name.now c.loop-current.invariant
    (test ∙ c.loop-current-test.false)
