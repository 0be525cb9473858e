-- A text that begins with the name of a style declaration and `:`, behind white, is read as a declaration of that name.
use Rattle.std.proofs.Common.{◌≡◌, ℕ, ◌+◌, ◌-◌, ◌≤◌, Bool, true, false, ◌&&◌, cond, List, [], ◌∷◌, ◌++◌, length, take, drop, slice_index_or, append_assoc, append-nil, Option, Some, None, refl, sym, ap, ◌∙◌, arith}
use Rattle.std.specs.List.{list_all}
use Rattle.std.specs.Option.{option_map}
use Rattle.std.specs.Str.{bytes_eq}
use Rattle.std.proofs.lemmas.Bool.{and_parts}
use Rattle.std.proofs.lemmas.List.{length-append, take-append-drop}
use Rattle.std.proofs.lemmas.List.Quantifiers.{position-Some}
use Rattle.std.proofs.lemmas.List.Sums.{AllPass-from_list_all}
use Rattle.std.proofs.lemmas.Slice.Eq.{bytes_eq-Decides}
use Rattle.fx_look.specs.Styles.{StyleRow, styles}
use Rattle.fx_look.specs.StyleRows.{style_at, style_named, style_row}
use Rattle.fx_look.specs.declared.styles.StyleForm.TheVariants as form
use Rattle.fx_look.proofs.StyleLemmas.{style_found}
use Rattle.fx_look.proofs.TableLemmas.{all_at, passes_at}
use Rattle.fx_text.specs.Classes.{is_white}
use Rattle.fx_text.specs.Fronts.{front, behind}
use Rattle.fx_text.specs.Trimming.{IsTrimmed, trim_front, trimmed}
use Rattle.fx_text.proofs.FrontLemmas.{front-stop, behind-stop}
use Rattle.fx_text.proofs.TrimLemmas.{front_cut, trimmed_sound, trimmed_complete}
use Rattle.fx_css_types.specs.declared.declarations.Declared.{Declared}
use Rattle.fx_css_types.specs.Limits.{form_at, form_of, row_of}
use Rattle.fx_css_parts.specs.declared.naming.Known.{Known}
use Rattle.fx_css_parts.specs.Declaring.{declared_at, not_colon}
use Rattle.fx_css_parts.specs.Drafts.{IsKnown, may_be_style}
use Rattle.fx_css_parts.specs.Limits.{past_in_value}
use Rattle.fx_css_parts.specs.Parts.{declaration_at}
use Rattle.fx_css_parts.specs.Texts.{ident_at, is_ident}
use Rattle.fx_css_parts.proofs.DeclarationLaws.{name_no_colon}
use Rattle.fx_css_parts.proofs.DeclarationLemmas.{declares, named_fails}
use Rattle.fx_css_parts.proofs.IdentLemmas.{ident_short}

-- each style declaration has an identifier without white at its ends as its name

abbrev is_name : List ℕ → Bool
is_name name = is_ident name && bytes_eq (trimmed name) name

all_names : all_at (λ place (row : StyleRow). is_name row.name) 0 styles ≡ true
unfolding styles
all_names = refl

name_good : (place : ℕ) (row : StyleRow) → style_at place ≡ Some row → is_name row.name ≡ true
name_good place row at = passes_at (λ place (row : StyleRow). is_name row.name) 0 styles place row all_names at

name_ident : (place : ℕ) (row : StyleRow) → style_at place ≡ Some row → is_ident row.name ≡ true
name_ident place row at = (and_parts (is_ident row.name) (bytes_eq (trimmed row.name) row.name)
    (name_good place row at)).0

name_trimmed : (place : ℕ) (row : StyleRow) → style_at place ≡ Some row → trimmed row.name ≡ row.name
name_trimmed place row at = (bytes_eq-Decides (trimmed row.name) row.name).0
    (and_parts (is_ident row.name) (bytes_eq (trimmed row.name) row.name) (name_good place row at)).1

-- where no style declaration has such a second letter, none has the name

all_may_be : list_all (λ (row : StyleRow). may_be_style row.name) styles ≡ true
unfolding styles
all_may_be = refl

no_row : StyleRow
no_row = record { name = []; form = form.Size; property = None }

not_styled_by : (name : List ℕ) (o : Option ℕ) → style_named name ≡ o → may_be_style name ≡ false → o ≡ None
not_styled_by name None e m = refl
not_styled_by name (Some place) e m =
    let p = position-Some (λ (row : StyleRow). bytes_eq row.name name) styles place no_row e in
    let found : may_be_style (slice_index_or styles place no_row).name
    ≡ true = AllPass-from_list_all (λ (row : StyleRow). may_be_style row.name) styles all_may_be place no_row p.0 in
    let same : (slice_index_or styles place no_row).name ≡ name =
    (bytes_eq-Decides (slice_index_or styles place no_row).name name).0 p.1 in
    let both : true ≡ false = sym found ∙ ap may_be_style same ∙ m in
    absurd (cc)

pub not_styled : (name : List ℕ) → may_be_style name ≡ false → style_named name ≡ None
not_styled name m = not_styled_by name (style_named name) refl m

-- a text that begins with a name and `:`

pub name_and_value : (text name front rest value : List ℕ) → front ≡ take (length name) text → rest
    ≡ drop (length name) text → front ≡ name → rest ≡ 58 ∷ value → text ≡ name ++ (58 ∷ value)
name_and_value text name front rest value f r n v =
    sym (take-append-drop (length name) text) ∙ ap (λ y. y ++ drop (length name) text) (sym f ∙ n)
    ∙ ap (λ y. name ++ y) (sym r ∙ v)

-- white and a name

white_and_name : (white name : List ℕ) → list_all is_white white ≡ true → trimmed name ≡ name
    → IsTrimmed (white ++ name) name
white_and_name white name w t =
    let whole = trimmed_sound name in
    record {
      before = white;
      after = [];
      parts = ap (λ y. white ++ y) (sym (append-nil name));
      white_before = w;
      white_after = refl;
      begins = λ c rest e. whole.begins c rest (t ∙ e);
      ends = λ rest c e. whole.ends rest c (t ∙ e);
    }

-- what is in front of the first `:`, and behind it

record Cut (text name value : List ℕ) : Type 0 where
  before : List ℕ
  is_front : before ≡ front not_colon text
  is_behind : 58 ∷ value ≡ behind not_colon text
  ident : Some name ≡ ident_at (trimmed before)
  place : length text - length value ≡ length before + 1
  within : length value ≤ length text

cut_behind : (text white name value : List ℕ) → text ≡ white ++ (name ++ (58 ∷ value)) → list_all is_white white ≡ true
    → is_ident name ≡ true → trimmed name ≡ name → Cut text name value
cut_behind text white name value parts w i t =
    let is_inner = white_and_name white name w t in
    let clear = name_no_colon (white ++ name) name is_inner i in
    let whole : text ≡ (white ++ name) ++ (58 ∷ value) = parts ∙ sym (append_assoc white name (58 ∷ value)) in
    let sum : length text ≡ length (white ++ name) + length (58 ∷ value) = ap length whole
    ∙ length-append (white ++ name) (58 ∷ value) in
    record {
      before = white ++ name;
      is_front = sym (ap (front not_colon) whole ∙ front-stop not_colon (white ++ name) (58 ∷ value) clear refl);
      is_behind = sym (ap (behind not_colon) whole ∙ behind-stop not_colon (white ++ name) (58 ∷ value) clear refl);
      ident = sym (ap ident_at (trimmed_complete (white ++ name) name is_inner) ∙ ap (λ b. cond b (Some name) None) i);
      place = omega (arith, sum);
      within = omega (arith, sum);
    }

cut_of : (text : List ℕ) (known : Known) → IsKnown (trim_front text) known
    → Cut text known.style.now.name.now known.value.now
cut_of text known k =
    let white = front_cut text in
    let row = style_row known.style.now in
    cut_behind text white.before known.style.now.name.now known.value.now
    (white.parts ∙ ap (λ y. white.before ++ y) k.parts) white.white
    (name_ident known.row.0 row k.row) (name_trimmed known.row.0 row k.row)

row_is : (known : Known) → style_at known.row.0 ≡ Some (style_row known.style.now) → Some known.row
    ≡ row_of known.style.now.name.now
row_is known at = sym (ap (λ (o : Option ℕ). option_map (λ place. record { 0 = place }) o)
    (style_found known.row.0 (style_row known.style.now) at))

form_is : (known : Known) → style_at known.row.0 ≡ Some (style_row known.style.now) → Some known.style.now.form
    ≡ form_of known.style.now.name.now
form_is known at = sym (ap form_at (sym (row_is known at)) ∙ ap (option_map (λ (r : StyleRow). r.form)) at)

pub known_reads : (text : List ℕ) (known : Known) → IsKnown (trim_front text) known → (d : Declared) (past : Option ℕ)
    → Some d ≡ declared_at (Some known.style.now.form) (trimmed known.value.now)
    → past ≡ past_in_value (Some known.style.now.form) (length text - length known.value.now) known.value.now
    → Some (record {
      declaration = record { name = known.style.now.name.now; row = Some known.row; value = d };
      past =
          past;
    }) ≡ declaration_at text
known_reads text known k d past h p =
    let cut = cut_of text known k in
    let form = form_is known k.row in
    declares text cut.before (58 ∷ known.value.now) 58 known.value.now known.style.now.name.now (Some known.row)
    (row_is known k.row) cut.is_front cut.is_behind refl cut.ident
    d past (h ∙ ap (λ f. declared_at f (trimmed known.value.now)) form)
    (p ∙ ap (λ f. past_in_value f (length text - length known.value.now) known.value.now) form
    ∙ ap (λ n. past_in_value (form_of known.style.now.name.now) n known.value.now) cut.place)

pub known_fails : (text : List ℕ) (known : Known) → IsKnown (trim_front text) known → None
    ≡ declared_at (Some known.style.now.form) (trimmed known.value.now) → None ≡ declaration_at text
known_fails text known k h =
    let cut = cut_of text known k in
    named_fails text cut.before (58 ∷ known.value.now) 58 known.value.now known.style.now.name.now cut.is_front
    cut.is_behind refl cut.ident
    (h ∙ ap (λ f. declared_at f (trimmed known.value.now)) (form_is known k.row))

pub known_within : (text : List ℕ) (known : Known) → IsKnown (trim_front text) known
    → length known.value.now ≤ length text
known_within text known k = (cut_of text known k).within

pub known_short : (text : List ℕ) (known : Known) → IsKnown text known → length known.style.now.name.now ≤ 4096
known_short text known k = ident_short known.style.now.name.now
    (name_ident known.row.0 (style_row known.style.now) k.row)
