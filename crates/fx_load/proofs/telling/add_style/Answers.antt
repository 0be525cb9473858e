-- one line more
use Rattle.std.proofs.Common.{◌≡◌, ◌<◌, ◌+◌, ℕ, List, ◌++◌, drop, length, sym, ◌∙◌, ap, append_assoc}
use Rattle.std.proofs.lemmas.List.{drop_more}
use Rattle.fx_base.specs.declared.positions.Place.{Place}
use Rattle.fx_load.specs.Telling.{line_at, style_lines}
use Rattle.fx_load.proofs.telling.add_style.Goals as goal

one_more : (files : List (List ℕ)) (place : Place) (dropped : List Place) (i : ℕ) (text now whole : List ℕ)
    → i < length dropped → now ≡ text ++ line_at files place
    → text ++ style_lines files place (drop i dropped) ≡ whole
    → now ++ style_lines files place (drop (i + 1) dropped) ≡ whole
one_more files place dropped i text now whole h told so =
    let rest = style_lines files place (drop (i + 1) dropped) in
    let next : style_lines files place (drop i dropped) ≡ line_at files place ++ rest =
    ap (style_lines files place) (drop_more dropped i place h) in
    ap (λ (l : List ℕ). l ++ rest) told
    ∙ (append_assoc text (line_at files place) rest ∙ (ap (λ (l : List ℕ). text ++ l) (sym next) ∙ so))

pub loop-part-preserved : goal.loop-part-preserved
loop-part-preserved c =
    one_more c.args.files.now c.args.place c.args.dropped.now c.loop-part._part-index c.loop-part.text.items
    c.add_line.new.text.items
    (c.args.text.now.items ++ style_lines c.args.files.now c.args.place c.args.dropped.now) c.loop-part-test.true
    c.in_ok-add_line.ensures.ok c.loop-part.invariant
