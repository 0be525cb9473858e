use Rattle.std.proofs.Common.{◌∷◌, ◌++◌, [], cond, ap, sym, ◌∙◌}
use Rattle.std.specs.String.{string_bytes}
use lib.Dec.{leb}
use Rattle.fx_doc_grammar.specs.Grammar.{is_among}
use Rattle.fx_doc_runs.specs.Attributes.{later_names}
use Rattle.fx_doc_runs.proofs.Names.{later_push}
use Rattle.fx_doc_runs.proofs.Stacks.{head_push}
use Rattle.fx_doc_runs.proofs.modes.Head.with_attribute.Goals as goal

pub returns : goal.returns
returns c = head_push c.args.self.name c.args.self.attributes.items c.push.new.self.items _ c.args.self.position _ c.in_ok-push.ensures.items (ap (λ y. record { name = y; value = c.args.value; position = c.args.position }) c.into_text-key.ensures)

pub invariant_of-result : goal.invariant_of-result
invariant_of-result c = record {
  kept = λ name.
      c.in_ok-add_later.ensures (later_names c.args.self.attributes.items) c.args.self.kept name
      ∙ (ap (λ n. is_among (string_bytes name) (cond (leb 8 n) (later_names c.args.self.attributes.items ++ (c.as_str.result.now ∷ [])) (later_names c.args.self.attributes.items))) (c.len.ensures ∙ c.args.self.attributes.ok.0)
      ∙ ap (is_among (string_bytes name)) (later_push c.args.self.attributes.items c.push.new.self.items _ c.as_str.result.now c.in_ok-push.ensures.items (sym c.as_str.ensures.text)));
}
