-- What the code's rows stand for, and the rows by place and by name.
use Rattle.std.specs.Prelude.{ℕ, List, Option, slice_get}
use Rattle.std.specs.List.{position}
use Rattle.std.specs.Option.{option_map}
use Rattle.std.specs.Str.{bytes_eq}
use Rattle.fx_look.specs.Styles.{StyleRow, styles}
use Rattle.fx_look.specs.declared.styles.Style.{Style}

abbrev pub style_row : Style → StyleRow
style_row s = record { name = s.name.now; form = s.form; property = option_map (λ p. p.now) s.property }

abbrev pub style_at : ℕ → Option StyleRow
style_at place = slice_get styles place

abbrev pub style_named : List ℕ → Option ℕ
style_named name = position (λ row. bytes_eq row.name name) styles
