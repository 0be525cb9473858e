-- the last entry, one entry more, and all of them
use Rattle.std.proofs.Common.{◌≡◌, ◌-◌, ℕ, suc, List, String, Global, arith, ap, sym, ◌∙◌, drop, length, string_bytes}
use Rattle.fx_scene_things.specs.Known.{known}
use Rattle.fx_scene_things.proofs.NameLemmas.{none_put, one_put, seen}
use Rattle.fx_scene_things.proofs.names.Names.copy.Goals as goal

abbrev bytes : String Global → List ℕ
bytes key = string_bytes key

pub loop-left-init : goal.loop-left-init
loop-left-init c =
    let entries = c.args.self.now.things.entries in
    let all : c.len-left.result ≡ length entries = c.len-left.ensures.len in
    (none_put bytes entries c.len-left.result (known c.new-names.result) (omega (arith, all)) c.new-names.ensures, omega (arith, all))

pub loop-left-preserved-in_ok-put : goal.loop-left-preserved-in_ok-put
loop-left-preserved-in_ok-put c =
    let entries = c.args.self.now.things.entries in
    let more : c.loop-left.left ≡ suc (c.loop-left.left - 1) = omega (arith, c.loop-left-test.true) in (
      one_put bytes entries (c.loop-left.left - 1) c.in-Some.name.now c.in-Some.thing.now c.in_ok-copy.field-0
          (known c.loop-left.names) (known c.put.new.self) c.as_str.result.now (sym c.in-Some.ensures.entry)
          (c.loop-left.invariant.0 ∙ ap (λ n. seen bytes (drop n entries)) more) c.as_str.ensures.value
          c.in_ok-copy.ensures c.in_ok-put.ensures.ok,
      omega (arith, c.loop-left.invariant.1),
    )

pub returns : goal.returns
returns c =
    let none : c.loop-left.left ≡ 0 = omega (arith, c.loop-left-test.false) in
    c.loop-left.invariant.0 ∙ ap (λ n. seen bytes (drop n c.args.self.now.things.entries)) none
