use Rattle.std.proofs.Common.{◌≡◌, ◌++◌, ◌∷◌, [], ℕ, List, Some, None, length, ◌∙◌, ap, sym}
use Rattle.std.specs.Vec.{with_items}
use Rattle.std.proofs.lemmas.List.{with_items_is}
use Rattle.std.specs.Str.{bytes_eq}
use Rattle.std.specs.List.{position}
use Rattle.fx_cascade.specs.declared.others.NamedSource.{NamedSource}
use Rattle.fx_cascade.specs.Sources.{voice}
use Rattle.fx_cascade.specs.Tables.{Table, slots, source_of}
use Rattle.fx_cascade.specs.Winners.{hear}
use Rattle.fx_cascade.proofs.TableLemmas.{other_raised, other_pushed, raised_in}
use Rattle.fx_cascade.proofs.tables.Winners.hear_other.Goals as goal

pub returns-in-Some : goal.returns-in-Some
returns-in-Some c = λ other.
    let matched = c.args.matched.now in
    let others = c.self.inside.others.items in
    let said = c.args.name.now in
    let found : position (λ (o : NamedSource). bytes_eq o.name said) others ≡ Some c.in-Some.place =
    ap (λ (n : List ℕ). position (λ (o : NamedSource). bytes_eq o.name n) others) (sym c.as_str-said.ensures.text)
    ∙ ap (position (λ (o : NamedSource). bytes_eq o.name c.as_str-said.result.now)) (sym c.as_slice.ensures.value)
    ∙ sym c.in-Some.ensures in
    let d : NamedSource = record { name = []; source = c.args.source } in
    let long : length c.raise.new.others ≡ c.self.inside.others.len =
    c.raise.auto.others ∙ c.as_mut_slice.ensures.len in
    other_raised matched (slots c.self.inside.heard c.self.inside.rows) others (with_items c.self.inside.others c.raise.new.others).items
    c.in-Some.place c.args.source said other d c.requires found
    (with_items_is c.self.inside.others c.raise.new.others long ∙ c.raise.ensures d
    ∙ ap (λ (l : List NamedSource). raised_in matched l c.in-Some.place c.args.source d) c.as_mut_slice.ensures.value)
    ∙ ap (λ (t : Table). hear matched other (source_of t other) (voice said c.args.source)) c.self.view_is

pub returns-in_ok-push-in-None : goal.returns-in_ok-push-in-None
returns-in_ok-push-in-None c = λ other.
    let matched = c.args.matched.now in
    let others = c.self.inside.others.items in
    let said = c.args.name.now in
    let none : position (λ (o : NamedSource). bytes_eq o.name said) others ≡ None =
    ap (λ (n : List ℕ). position (λ (o : NamedSource). bytes_eq o.name n) others) (sym c.as_str-said.ensures.text)
    ∙ ap (position (λ (o : NamedSource). bytes_eq o.name c.as_str-said.result.now)) (sym c.as_slice.ensures.value)
    ∙ sym c.in-None.ensures in
    other_pushed matched (slots c.self.inside.heard c.self.inside.rows) others c.push.new.self.items c.args.source said other c.requires none
    (c.in_ok-push-in-None.ensures.items
    ∙ ap (λ (n : List ℕ). others ++ record { name = n; source = c.args.source } ∷ []) c.in_ok-name-in-None.ensures)
    ∙ ap (λ (t : Table). hear matched other (source_of t other) (voice said c.args.source)) c.self.view_is
