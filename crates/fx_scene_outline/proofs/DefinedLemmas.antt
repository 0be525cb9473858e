-- The nodes of some content, one part more at a time.
use Rattle.std.proofs.lemmas.List.{append-nil}
use Rattle.std.proofs.Common.{◌≡◌, ◌<◌, ℕ, ◌+◌, Bool, List, ◌++◌, length, get_or, take, sym, ◌∙◌, ap, refl, append_assoc}
use Rattle.fx_doc_grammar.specs.Grammar.{Nodes, Nothing}
use Rattle.fx_doc.specs.Views.{Onto, content_step, element_step, nodes_of, onto}
use Rattle.fx_doc_runs.specs.declared.document.Content.{Content}
use Rattle.fx_doc_runs.specs.declared.document.Content.TheOpen as o
use Rattle.fx_doc_runs.specs.declared.document.Content.TheFolds as f
use Rattle.fx_doc_runs.specs.declared.document.Content.TheViews as w
use Rattle.fx_doc_runs.specs.declared.document.Element.{Element}
use Rattle.fx_doc_runs.proofs.Trees.{element_node}
use Rattle.fx_scene_outline.specs.Defined.{Defined, nodes_within}
use Rattle.fx_scene_outline.specs.Views.{part_nodes}
use Rattle.fx_scene_outline.proofs.PartLemmas.{nodes_more, opened}

abbrev all_behind : Bool → Nodes → Nodes → List Defined
all_behind within before part = nodes_within within before ++ part_nodes within part

stepped : (within : Bool) (x : o.Content-F Content Element) (n : Nodes)
    → nodes_within within (opened x n) ≡ all_behind within n (opened x Nothing)
unfolding nodes_within
stepped within (o.Child e) n =
    ap (nodes_within within) (element_node e n) ∙ ap (all_behind within n) (sym (element_node e Nothing))
stepped within (o.Chars t position) n = sym (append-nil (nodes_within within n))

joined : (within : Bool) (before : Nodes) (c : Content)
    → nodes_within within (onto c before) ≡ all_behind within before (onto c Nothing)
joined within before c =
    ap (λ (g : Onto). nodes_within within (g before)) (f.fold_out-Content Onto Onto content_step element_step c)
    ∙ (stepped within (w.out-Content c) before
    ∙ ap (λ (g : Onto). all_behind within before (g Nothing)) (sym (f.fold_out-Content Onto Onto content_step element_step c)))

pub nodes_more_within : (within : Bool) (content : List Content) (i : ℕ) (x : Content) (old now new : List Defined)
    → i < length content → x ≡ get_or content i x → now ≡ old ++ nodes_within within (nodes_of (take i content))
    → new ≡ now ++ part_nodes within (onto x Nothing)
    → new ≡ old ++ nodes_within within (nodes_of (take (i + 1) content))
nodes_more_within within content i x old now new h is so_far more =
    let before = nodes_of (take i content) in
    let part = part_nodes within (onto x Nothing) in
    more
    ∙ (ap (λ l. l ++ part) so_far
    ∙ (append_assoc old (nodes_within within before) part
    ∙ (ap (λ l. old ++ l) (sym (joined within before x))
    ∙ ap (λ n. old ++ nodes_within within n) (sym (nodes_more content i x h is)))))
