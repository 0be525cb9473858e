-- An update is done once the entries that it made stand in their places.
use Rattle.std.proofs.Common.{◌≡◌, ℕ, List, Option, Some, None, Result, Ok, Err, length, sym, ◌∙◌, ap}
use Rattle.std.specs.Prelude.{OnOk}
use Rattle.std.specs.Option.{option_map}
use Rattle.std.proofs.lemmas.Option.{slice_get_within}
use Rattle.fx_base.specs.declared.keys.NodeKey.{NodeKey}
use Rattle.fx_look.specs.declared.looks.Look.{Look}
use Rattle.fx_css_types.specs.declared.sheets.SheetAt.{SheetAt}
use Rattle.fx_kinds.specs.declared.facts.StyleFacts.{StyleFacts}
use Rattle.fx_node_style.specs.declared.node_styles.NodeStyle.{NodeStyle}
use Rattle.fx_style.specs.declared.kept.Entry.{Entry}
use Rattle.fx_style.specs.declared.kept.Fresh.{Fresh}
use Rattle.fx_style.specs.declared.kept.Rest.{Rest}
use Rattle.fx_style.specs.Kept.{Kept, entry}
use Rattle.fx_style.specs.Rules.{IsUpdate, kept_of, updated_style}
use Rattle.fx_style.specs.Turns.{ArePut, AreRightBelow, HaveKeysOf}

pub ok_both : {X Y P Q R : Type 0} (r : Result X Y) → (P → Q → R) → OnOk r P → OnOk r Q → OnOk r R
ok_both (Ok x) f p q = f p q
ok_both (Err e) f p q = tt

pub ok_then : {X Y P Q : Type 0} (r : Result X Y) → (P → Q) → OnOk r P → OnOk r Q
ok_then (Ok x) f p = f p
ok_then (Err e) f p = tt

has_key : (key : NodeKey) (o : Option NodeStyle) (e : Entry) → option_map (entry key) o ≡ Some e → e.key ≡ key
has_key key None e is = absurd (cc)
has_key key (Some style) e is = let h : entry key style ≡ e = cc in ap (λ (x : Entry). x.key) (sym h)

pub right_keys : (sheets : List SheetAt) (facts : List StyleFacts) (restyle : List ℕ) (kept : ℕ → Option NodeStyle)
    (looks : List Look) (rest : List Rest) (fresh : List Fresh)
    → AreRightBelow sheets facts restyle kept looks rest fresh (length facts) → HaveKeysOf facts looks rest fresh
right_keys sheets facts restyle kept looks rest fresh right = record {
  each = λ at node e is planned.
      has_key node.key (updated_style sheets facts restyle kept at) e
      (sym (right.each at node (slice_get_within facts at node is) is) ∙ planned);
}

pub update_done : (sheets : List SheetAt) (facts : List StyleFacts) (restyle : List ℕ) (old new : Kept)
    (fresh : List Fresh)
    → AreRightBelow sheets facts restyle (kept_of old facts) old.looks old.rest fresh (length facts)
    → ArePut old new fresh (length facts) → IsUpdate sheets facts restyle old new
update_done sheets facts restyle old new fresh right put = record {
  looks = put.looks;
  rest = put.rest;
  each = λ at node is.
      let within = slice_get_within facts at node is in
      put.each at within ∙ right.each at node within is;
}
