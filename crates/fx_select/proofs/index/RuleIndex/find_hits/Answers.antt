use Rattle.std.proofs.Common.{◌≡◌, ◌∷◌, ◌++◌, ℕ, List, map, sym, ◌∙◌, ap}
use Rattle.std.specs.List.{filter_map, flat_map}
use Rattle.fx_kinds.specs.Classes.{name_of}
use Rattle.fx_css_types.specs.declared.sheets.Candidate.{Candidate}
use Rattle.fx_select.specs.declared.lists.SelectorAt.{SelectorAt}
use Rattle.fx_select.specs.Chains.{chain, upward}
use Rattle.fx_select.specs.Hits.{hit_of, keys_of, own_hits}
use Rattle.fx_select.specs.Keys.{ByClass, ById, ByKind}
use Rattle.fx_select.specs.Listing.{Listing, listed}
use Rattle.fx_select.specs.Named.{under}
use Rattle.fx_select.proofs.ChainLemmas.{upward-some}
use Rattle.fx_select.proofs.HitLemmas.{hits_of-step, joined-hits}
use Rattle.fx_select.proofs.OwnLemmas.{own-hits}
use Rattle.fx_select.proofs.index.RuleIndex.find_hits.Goals as goal

pub returns : goal.returns
returns c =
    let facts = c.args.facts.now in
    let node = c.node_at-node.result.now in
    let inside = c.self.inside in
    let listing = c.args.self.now in
    let h = hit_of c.args.sheets.now (chain facts c.args.at) in
    let step : chain facts c.args.at ≡ node ∷ upward facts node.parent = upward-some facts c.requires.before c.args.at node c.node_at-node.ensures in
    let named : List SelectorAt = flat_map (listed listing) (keys_of node) in
    c.in_ok-push_own_hits.ensures
    ∙ ap (λ (l : List Candidate). l ++ own_hits node.inline c.args.sheets.now)
    (joined-hits (hit_of c.args.sheets.now (chain facts c.args.at)) (listed listing) node.id (name_of node.class) node.classes
    c.clear.new.self.items c.push_hits.new.hits.items c.push_class_hits.new.hits.items c.push_hits-2.new.hits.items c.push_hits-3.new.hits.items
    c.under-by_id.result.now c.under-by_kind.result.now c.as_slice-2.result.now
    c.clear.ensures.items
    c.in_ok-push_hits.ensures.hits
    (c.in_ok-push_class_hits.ensures.hits
    ∙ ap (λ (cs : List (List ℕ)). c.push_hits.new.hits.items
    ++ filter_map (hit_of c.args.sheets.now (chain facts c.args.at)) (flat_map (listed listing) (map ByClass cs))) c.as_slice.ensures)
    c.in_ok-push_hits-2.ensures.hits
    c.in_ok-push_hits-3.ensures.hits
    (c.under-by_id.ensures ∙ ap (under inside.ids) c.as_str.ensures.text ∙ ap (λ (l : Listing). listed l (ById node.id)) c.self.view_is)
    (c.under-by_kind.ensures ∙ ap (under inside.kinds) c.name_of.ensures ∙ ap (λ (l : Listing). listed l (ByKind (name_of node.class))) c.self.view_is)
    (c.as_slice-2.ensures.value ∙ ap (λ (l : Listing). l.rest) c.self.view_is))
    ∙ ap (λ (l : List Candidate). filter_map h named ++ l) (sym (own-hits c.args.sheets.now (chain facts c.args.at) node (upward facts node.parent) step))
    ∙ sym (hits_of-step listing c.args.sheets.now (chain facts c.args.at) node (upward facts node.parent) step)
