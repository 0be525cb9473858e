use Rattle.std.proofs.Common.{◌≡◌, ◌-◌, ◌++◌, ◌∷◌, [], get_or, length, take, sym, ◌∙◌, ap, arith}
use Rattle.fx_base.specs.declared.keys.NodeKey.{NodeKey}
use Rattle.fx_tree.proofs.Keys.{is_same-true, last_of}
use Rattle.fx_tree.proofs.nodes.Children.ends_with.Goals as goal

pub returns-in-len1-up : goal.returns-in-len1-up
returns-in-len1-up c = λ yes.
    let keys = c.as_slice.result.now in
    let d : NodeKey = record { slot = 0; birth = 0 } in
    let last : get_or keys (length keys - 1) d ≡ c.args.child = is_same-true (get_or keys (length keys - 1) d) c.args.child (sym c.same_key.ensures ∙ yes) in (
      take (length keys - 1) keys,
      sym c.self.view_is
          ∙ sym c.as_slice.ensures.value
          ∙ last_of keys d (omega (arith, c.in-len1-up.len_at_least))
          ∙ ap (λ (k : NodeKey). take (length keys - 1) keys ++ k ∷ []) last,
    )
