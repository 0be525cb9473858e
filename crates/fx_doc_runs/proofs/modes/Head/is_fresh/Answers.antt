use Rattle.std.proofs.Common.{take, not, ◌&&◌, refl, ap, sym, ◌∙◌}
use Rattle.std.specs.String.{string_bytes}
use Rattle.fx_doc_grammar.specs.Grammar.{is_among}
use Rattle.fx_doc_runs.specs.Attributes.{names_of, later_names}
use Rattle.fx_doc_runs.proofs.Names.{fresh_is}
use Rattle.fx_doc_runs.proofs.modes.Head.is_fresh.Goals as goal

pub returns-then-is_named : goal.returns-then-is_named
returns-then-is_named c =
    ap (λ z. not z && not (is_among (string_bytes c.args.key.now.text) (later_names c.args.self.now.attributes.items))) (sym c.if-is_named.true)
    ∙ fresh_is (string_bytes c.args.key.now.text) c.args.self.now.attributes.items c.is_named.result (is_among (string_bytes c.args.key.now.text) (later_names c.args.self.now.attributes.items))
    (c.is_named.ensures ∙ (ap (λ k. is_among k (names_of c.near.result.now)) c.as_str.ensures.value ∙ ap (λ xs. is_among (string_bytes c.args.key.now.text) (names_of xs)) (c.near.ensures ∙ ap (take 8) c.as_slice.ensures.value))) refl

pub returns : goal.returns
returns c =
    ap (λ z. not z && not c.has.result) (sym c.if-is_named.false)
    ∙ fresh_is (string_bytes c.args.key.now.text) c.args.self.now.attributes.items c.is_named.result c.has.result
    (c.is_named.ensures ∙ (ap (λ k. is_among k (names_of c.near.result.now)) c.as_str.ensures.value ∙ ap (λ xs. is_among (string_bytes c.args.key.now.text) (names_of xs)) (c.near.ensures ∙ ap (take 8) c.as_slice.ensures.value)))
    (c.has.ensures (later_names c.args.self.now.attributes.items) c.args.self.now.kept)
